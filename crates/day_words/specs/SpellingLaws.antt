-- What the words of a day file owe their reader
use Rattle.std.specs.Prelude.{◌≡◌, ◌≢◌, ℕ, ◌<◌, ◌≤◌, ◌⊎◌, List, [], ◌∷◌, length, get_or, codes, decimal, Contains, Some, None, Ok, Err, Option, IsOk}
use Rattle.std.specs.List.{AllByRecursion as Each}
use Rattle.terms.specs.Words.{ExactlyIf}
use Rattle.terms.specs.declared.market.Side.{Side}
use Rattle.terms.specs.declared.market.Side.TheVariants.{Buy, Sell}
use Rattle.terms.specs.declared.market.QuoteUpdate.{QuoteUpdate}
use Rattle.terms.specs.declared.market.QuoteCall.TheVariants.{Tell, Declare, Lift}
use Rattle.terms.specs.declared.orders.OrderKind.{OrderKind}
use Rattle.terms.specs.declared.orders.OrderKind.TheVariants.{Rpi, Hidden, Displayed}
use Rattle.terms.specs.declared.orders.RetailType.{RetailType}
use Rattle.terms.specs.declared.orders.RetailType.TheVariants.{One, Two, TwoRoutable}
use Rattle.terms.specs.declared.orders.PhaseEvent.{PhaseEvent}
use Rattle.terms.specs.declared.orders.PhaseEvent.TheVariants.{Opening, Halting, Closing}
use Rattle.terms.specs.declared.calls.Call.TheVariants.{Enter, Cancel, Retail, Draw, Return, Move, Approve, Withdraw, Quotes}
use Rattle.day_lines.specs.Lines.{cells, places, number_of}
use Rattle.day_lines.specs.LineLaws.{joined}
use Rattle.day_words.specs.declared.fault.Fault.{Fault}
use Rattle.day_words.specs.declared.fault.FaultKind.{FaultKind}
use Rattle.day_words.specs.declared.fault.FaultKind.TheVariants.{Blank, UnknownLetter, NotDigits}
use Rattle.day_words.specs.declared.line.Line.{Line}
use Rattle.day_words.specs.declared.line.Line.TheVariants.{Call as Calls, Route, Identify}
use Rattle.day_words.specs.Spelling.{Form, Use, call_letters, letter_of, letter_in, uses, field, bad_line, read_line}
use Rattle.day_words.specs.Spelling.Use.{Unused, Letter, Number, MayBeBlank}

-- WRONG FIELDS

-- These bytes are one byte, which is one of the letters.
abbrev pub IsLetter : (letters bs : List ℕ) → Type 0
IsLetter letters bs = (b : ℕ) × Contains letters b × (bs ≡ b ∷ [])

-- These bytes are one to nine decimal digits.
pub record IsNumber (bs : List ℕ) : Type 0 where
  pub some : 1 ≤ length bs
  pub few : length bs ≤ 9
  pub digits : Each (λ b. (48 ≤ b) × (b ≤ 57)) bs

-- How a field may be wrong, by what its call asks of it: filled where it is not used; blank where it is; neither blank nor one of the letters that are known there; neither blank nor a number.
abbrev pub Wrong : Use → FaultKind → List ℕ → Type 0
Wrong Unused Blank bs = bs ≢ []
Wrong (Letter letters) Blank bs = bs ≡ []
Wrong (Letter letters) UnknownLetter bs = (bs ≢ []) × (IsLetter letters bs → ⊥)
Wrong Number Blank bs = bs ≡ []
Wrong Number NotDigits bs = (bs ≢ []) × (IsNumber bs → ⊥)
Wrong MayBeBlank NotDigits bs = (bs ≢ []) × (IsNumber bs → ⊥)
Wrong _ _ bs = ⊥

-- THE FIRST FROM THE LEFT

-- What the form of a call asks of the fields after its letter; nothing, where no call has the letter.
abbrev pub asked_behind : Option Form → List Use
asked_behind None = []
asked_behind (Some form) = uses form

-- What is asked of the fields of a line: first a call letter, and then what its call asks.
abbrev pub asked : List (List ℕ) → List Use
asked fields = letter_in call_letters ∷ asked_behind (letter_of call_letters (field 0 fields))

abbrev pub WrongAt : List (List ℕ) → ℕ → FaultKind → Type 0
WrongAt fields at kind = Wrong (get_or (asked fields) at Unused) kind (field at fields)

abbrev pub RightAt : List (List ℕ) → ℕ → Type 0
RightAt fields at = (kind : FaultKind) → WrongAt fields at kind → ⊥

-- One of the eight fields is wrong, and every field to the left of it is right.
pub record FirstWrong (fields : List (List ℕ)) (at : ℕ) (kind : FaultKind) : Type 0 where
  pub one : at < 8
  pub wrong : WrongAt fields at kind
  pub left_right : (before : ℕ) → before < at → RightAt fields before

-- The fault of a line is that of the first wrong field, at the place where this field stands or would stand.
pub record FaultOf (line : List ℕ) (fault : Fault) : Type 0 where
  pub at : ℕ
  pub first : FirstWrong (cells line) at fault.kind
  pub place : fault.place ≡ get_or (places 1 (cells line)) at 0

-- At most 120 bytes, and eight fields.
pub record WellFormed (line : List ℕ) : Type 0 where
  pub short : length line ≤ 120
  pub eight : length (cells line) ≡ 8

pub record FaultsHold (line : List ℕ) : Type 0 where
  -- A line that is too long or has not eight fields is at fault for that,
  pub bad : ExactlyIf (read_line line ≡ Err bad_line) ((120 < length line) ⊎ (length (cells line) ≢ 8))
  -- any other has the fault of its first wrong field,
  pub faults : WellFormed line → (fault : Fault) → ExactlyIf (read_line line ≡ Err fault) (FaultOf line fault)
  -- and is a call if none is wrong.
  pub call : WellFormed line → ExactlyIf (IsOk (read_line line)) ((at : ℕ) → at < 8 → RightAt (cells line) at)

-- EVERY CALL HAS A LINE

abbrev pub side_text : Side → List ℕ
side_text Buy = codes "B"
side_text Sell = codes "S"

abbrev pub kind_text : OrderKind → List ℕ
kind_text Rpi = codes "R"
kind_text Hidden = codes "H"
kind_text Displayed = codes "D"

abbrev pub retail_text : RetailType → List ℕ
retail_text One = codes "1"
retail_text Two = codes "2"
retail_text TwoRoutable = codes "3"

abbrev pub phase_text : PhaseEvent → List ℕ
phase_text Opening = codes "O"
phase_text Halting = codes "H"
phase_text Closing = codes "C"

abbrev pub offset_text : Option ℕ → List ℕ
offset_text None = []
offset_text (Some mills) = decimal mills

-- The fields of a call: the letter, who, side, kind, price, offset, shares, ref. A draw and a return are no line of their own.
abbrev pub spelled : Line → List (List ℕ)
spelled (Calls (Enter o)) = codes "E" ∷ decimal o.member ∷ side_text o.side ∷ kind_text o.kind ∷ decimal o.limit ∷ offset_text o.offset ∷ decimal o.shares ∷ [] ∷ []
spelled (Calls (Cancel member number)) = codes "C" ∷ decimal member ∷ [] ∷ [] ∷ [] ∷ [] ∷ [] ∷ decimal number ∷ []
spelled (Calls (Retail o room)) = codes "R" ∷ decimal o.member ∷ side_text o.side ∷ retail_text o.kind ∷ decimal o.limit ∷ [] ∷ decimal o.shares ∷ [] ∷ []
spelled (Calls (Draw number)) = []
spelled (Calls (Return number shares away)) = []
spelled (Calls (Move event)) = codes "P" ∷ [] ∷ [] ∷ phase_text event ∷ [] ∷ [] ∷ [] ∷ [] ∷ []
spelled (Calls (Approve member)) = codes "A" ∷ decimal member ∷ [] ∷ [] ∷ [] ∷ [] ∷ [] ∷ [] ∷ []
spelled (Calls (Withdraw member)) = codes "W" ∷ decimal member ∷ [] ∷ [] ∷ [] ∷ [] ∷ [] ∷ [] ∷ []
spelled (Calls (Quotes (Tell u))) = codes "T" ∷ decimal u.centre ∷ side_text u.side ∷ [] ∷ decimal u.price ∷ [] ∷ decimal u.size ∷ [] ∷ []
spelled (Calls (Quotes (Declare centre))) = codes "X" ∷ decimal centre ∷ [] ∷ [] ∷ [] ∷ [] ∷ [] ∷ [] ∷ []
spelled (Calls (Quotes (Lift centre))) = codes "L" ∷ decimal centre ∷ [] ∷ [] ∷ [] ∷ [] ∷ [] ∷ [] ∷ []
spelled (Route number away) = codes "S" ∷ [] ∷ [] ∷ [] ∷ [] ∷ [] ∷ decimal away ∷ decimal number ∷ []
spelled Identify = codes "I" ∷ [] ∷ [] ∷ [] ∷ [] ∷ [] ∷ [] ∷ [] ∷ []

abbrev pub spell : Line → List ℕ
spell line = joined (spelled line)

-- A number of at most nine digits.
abbrev pub Fits : ℕ → Type 0
Fits n = n < 1_000_000_000

abbrev pub OffsetFits : Option ℕ → Type 0
OffsetFits None = Unit {0}
OffsetFits (Some mills) = Fits mills

-- What a day file can spell: numbers of at most nine digits, and Retail Orders that are lent 256 places. A slip is drawn and returned on one line.
abbrev pub Spellable : Line → Type 0
Spellable (Calls (Enter o)) = Fits o.member × Fits o.limit × OffsetFits o.offset × Fits o.shares
Spellable (Calls (Cancel member number)) = Fits member × Fits number
Spellable (Calls (Retail o room)) = Fits o.member × Fits o.limit × Fits o.shares × (room ≡ 256)
Spellable (Calls (Draw number)) = ⊥
Spellable (Calls (Return number shares away)) = ⊥
Spellable (Calls (Move event)) = Unit {0}
Spellable (Calls (Approve member)) = Fits member
Spellable (Calls (Withdraw member)) = Fits member
Spellable (Calls (Quotes (Tell u))) = Fits u.centre × Fits u.price × Fits u.size
Spellable (Calls (Quotes (Declare centre))) = Fits centre
Spellable (Calls (Quotes (Lift centre))) = Fits centre
Spellable (Route number away) = Fits number × Fits away
Spellable Identify = Unit {0}

-- The fields of a tell whose price is blank.
abbrev pub told_blank : QuoteUpdate → List (List ℕ)
told_blank u = codes "T" ∷ decimal u.centre ∷ side_text u.side ∷ [] ∷ [] ∷ [] ∷ decimal u.size ∷ [] ∷ []

-- A LINE THAT IS READ

-- A field that may hold a number has the bytes of a text; or both are one number, which has leading zeros in the field.
abbrev pub SameBytesOrNumber : (written text : List ℕ) → Type 0
SameBytesOrNumber written text = (written ≡ text) ⊎ ((n : ℕ) × (number_of written ≡ Some n) × (number_of text ≡ Some n))

-- The fields of a line are these texts: the call letter, the side and the kind byte for byte, and each number as the same number. So a field is blank where its text is.
pub record SameFields (fields texts : List (List ℕ)) : Type 0 where
  pub count : length fields ≡ length texts
  pub call : field 0 fields ≡ field 0 texts
  pub who : SameBytesOrNumber (field 1 fields) (field 1 texts)
  pub side : field 2 fields ≡ field 2 texts
  pub kind : field 3 fields ≡ field 3 texts
  pub price : SameBytesOrNumber (field 4 fields) (field 4 texts)
  pub offset : SameBytesOrNumber (field 5 fields) (field 5 texts)
  pub shares : SameBytesOrNumber (field 6 fields) (field 6 texts)
  pub reference : SameBytesOrNumber (field 7 fields) (field 7 texts)

-- These fields are the spelling of a line; or it tells a quote at the price 0, and its price is blank.
abbrev pub Spells : (fields : List (List ℕ)) → Line → Type 0
Spells fields line = SameFields fields (spelled line) ⊎ ((u : QuoteUpdate) × (line ≡ Calls (Quotes (Tell u))) × (u.price ≡ 0) × SameFields fields (told_blank u))

pub record SpellingHolds : Type 0 where
  -- What can be spelled is read as it was spelled,
  pub spelled_read : (line : Line) → Spellable line → read_line (spell line) ≡ Ok line
  -- a blank price of a tell is read as 0,
  pub blank_price : (u : QuoteUpdate) → Fits u.centre → u.price ≡ 0 → Fits u.size → read_line (joined (told_blank u)) ≡ Ok (Calls (Quotes (Tell u)))
  -- and nothing is read that cannot be spelled.
  pub read_spellable : (text : List ℕ) (line : Line) → read_line text ≡ Ok line → Spellable line
  -- What is read has the fields of its spelling: the letters that it is written with and no others, and nothing in a field that its call does not use.
  pub read_spelled : (text : List ℕ) (line : Line) → read_line text ≡ Ok line → Spells (cells text) line

-- THE LAWS

pub record DayWordsHold : Type 0 where
  pub faults : (line : List ℕ) → FaultsHold line
  pub spelling : SpellingHolds
