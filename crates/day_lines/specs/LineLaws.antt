-- What the lines, the fields and the numbers of a day file owe their reader
use Rattle.std.specs.Prelude.{◌≡◌, ◌≢◌, ℕ, ◌+◌, ◌<◌, ◌≤◌, ◌⊎◌, List, [], ◌∷◌, ◌++◌, length, Some, decimal, slice_index}
use Rattle.std.specs.List.{AllByRecursion as Each}
use Rattle.day_lines.specs.Lines.{lines, cells, places, number_of}

-- No such byte stands among these.
abbrev pub Lacks : ℕ → List ℕ → Type 0
Lacks b bs = Each (λ c. c ≢ b) bs

abbrev pub EachLacks : ℕ → List (List ℕ) → Type 0
EachLacks b parts = Each (Lacks b) parts

-- LINES

-- The text of some lines, each ended by byte 10.
abbrev pub ended : List (List ℕ) → List ℕ
ended [] = []
ended (l ∷ ls) = l ++ 10 ∷ ended ls

-- The text is some lines, each ended by byte 10.
pub record EndsLines (text : List ℕ) : Type 0 where
  pub whole : List (List ℕ)
  pub parted : EachLacks 10 whole
  pub is : text ≡ ended whole

-- The text is some lines, each ended by byte 10, and after them a last line that byte 10 does not end, which is not empty.
pub record LeavesLine (text : List ℕ) : Type 0 where
  pub whole : List (List ℕ)
  pub last : List ℕ
  pub parted : EachLacks 10 whole
  pub unended : Lacks 10 last
  pub begun : last ≢ []
  pub is : text ≡ ended whole ++ last

pub record LinesHold : Type 0 where
  -- Lines that byte 10 ends are read as exactly these lines,
  pub ended_read : (ls : List (List ℕ)) → EachLacks 10 ls → lines (ended ls) ≡ ls
  -- and so they are with a last line after them that it does not end.
  pub last_read : (ls : List (List ℕ)) (last : List ℕ) → EachLacks 10 ls → Lacks 10 last → last ≢ [] → lines (ended ls ++ last) ≡ ls ++ last ∷ []
  -- Every text is one of these two, so no byte of it is lost.
  pub every_text : (text : List ℕ) → EndsLines text ⊎ LeavesLine text

-- FIELDS

-- Each field before a comma, and each after one.
abbrev pub before_commas : List (List ℕ) → List ℕ
before_commas [] = []
before_commas (c ∷ cs) = c ++ 44 ∷ before_commas cs

abbrev pub after_commas : List (List ℕ) → List ℕ
after_commas [] = []
after_commas (c ∷ cs) = 44 ∷ c ++ after_commas cs

-- Fields with a comma between each two.
abbrev pub joined : List (List ℕ) → List ℕ
joined [] = []
joined (c ∷ cs) = c ++ after_commas cs

pub record FieldsHold : Type 0 where
  -- The fields of a line, joined by commas, are the line, and none of them has a comma.
  pub line_back : (line : List ℕ) → joined (cells line) ≡ line
  pub no_comma : (line : List ℕ) → EachLacks 44 (cells line)
  -- Fields without commas, one or more, are read as exactly these fields where commas join them.
  pub joined_read : (c : List ℕ) (cs : List (List ℕ)) → EachLacks 44 (c ∷ cs) → cells (joined (c ∷ cs)) ≡ c ∷ cs
  -- A field stands in the line after those before it, each with its comma, and its place is one more than the number of those bytes.
  pub stands : (line : List ℕ) (before : List (List ℕ)) (c : List ℕ) (after : List (List ℕ)) → cells line ≡ before ++ c ∷ after → line ≡ before_commas before ++ (c ++ after_commas after)
  pub placed : (line : List ℕ) (before : List (List ℕ)) (c : List ℕ) (after : List (List ℕ)) → cells line ≡ before ++ c ∷ after → slice_index (places 1 (cells line)) (length before) ≡ length (before_commas before) + 1

-- NUMBERS

pub record NumbersHold : Type 0 where
  -- A number below 1,000,000,000, written in decimal digits, is read as that number.
  pub written_read : (n : ℕ) → n < 1_000_000_000 → number_of (decimal n) ≡ Some n
  -- A zero before one to eight bytes changes nothing: they are the number that they were, or none.
  pub leading_zero : (bs : List ℕ) → 1 ≤ length bs → length bs ≤ 8 → number_of (48 ∷ bs) ≡ number_of bs

-- THE LAWS

pub record DayLinesHold : Type 0 where
  pub lines : LinesHold
  pub fields : FieldsHold
  pub numbers : NumbersHold
