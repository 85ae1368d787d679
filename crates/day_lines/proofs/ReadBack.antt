-- Lines, fields and numbers are read as they were written
use Rattle.std.proofs.Common.{add_comm, ◌+◌, ◌≡◌, ◌≢◌, ℕ, ◌<◌, ◌≤◌, Bool, true, false, cond, ◌⊎◌, eqb, List, [], ◌∷◌, ◌++◌, length, Some, sym, refl, ap, ◌∙◌, inl, inr, arith, rules}
use Rattle.std.specs.Prelude.{decimal, slice_index}
use Rattle.std.proofs.lemmas.Bool.Decides.{nat_tests}
use Rattle.std.proofs.lemmas.Bool.{eqb-true, eqb-false, ne_eqb}
use Rattle.std.proofs.lemmas.List.{append_assoc, length-append}
use Rattle.std.proofs.lemmas.Str.Parse.{IsNumeralModel, numerals_by_fold}
use Rattle.std.proofs.lemmas.Fmt.{digits_decimal, digits_value-decimal, length-decimal-le, decimal_nonempty}
use Rattle.day_lines.specs.Lines.{put, lines, cells, places, all_digits, digits_value, number_of}
use Rattle.day_lines.specs.LineLaws.{Lacks, EachLacks, ended, EndsLines, LeavesLine, before_commas, after_commas, joined, DayLinesHold}

-- a line before lines
line_more : (l rest : List ℕ) → Lacks 10 l → lines (l ++ 10 ∷ rest) ≡ l ∷ lines rest
line_more [] rest h = refl
line_more (b ∷ bs) rest h = ap (λ t. cond t ([] ∷ lines (bs ++ 10 ∷ rest)) (put b (lines (bs ++ 10 ∷ rest)))) (ne_eqb b 10 h.0) ∙ ap (put b) (line_more bs rest h.1)

ended_read : (ls : List (List ℕ)) → EachLacks 10 ls → lines (ended ls) ≡ ls
ended_read [] h = refl
ended_read (l ∷ ls) h = line_more l (ended ls) h.0 ∙ ap (λ t. l ∷ t) (ended_read ls h.1)

one_line : (b : ℕ) (bs : List ℕ) → Lacks 10 (b ∷ bs) → lines (b ∷ bs) ≡ (b ∷ bs) ∷ []
one_line b [] h = ap (λ t. cond t ([] ∷ []) ((b ∷ []) ∷ [])) (ne_eqb b 10 h.0)
one_line b (c ∷ cs) h = ap (λ t. cond t ([] ∷ lines (c ∷ cs)) (put b (lines (c ∷ cs)))) (ne_eqb b 10 h.0) ∙ ap (put b) (one_line c cs h.1)

unended_read : (last : List ℕ) → Lacks 10 last → last ≢ [] → lines last ≡ last ∷ []
unended_read [] h n = absurd (n refl)
unended_read (b ∷ bs) h n = one_line b bs h

last_read : (ls : List (List ℕ)) (last : List ℕ) → EachLacks 10 ls → Lacks 10 last → last ≢ [] → lines (ended ls ++ last) ≡ ls ++ last ∷ []
last_read [] last h k n = unended_read last k n
last_read (l ∷ ls) last h k n =
    ap lines (append_assoc l (10 ∷ ended ls) last) ∙ (line_more l (ended ls ++ last) h.0 ∙ ap (λ t. l ∷ t) (last_read ls last h.1 k n))

-- one byte before a text that is one of the two
ended_more : (b : ℕ) (text : List ℕ) (whole : List (List ℕ)) → b ≢ 10 → EachLacks 10 whole → text ≡ ended whole → EndsLines (b ∷ text) ⊎ LeavesLine (b ∷ text)
ended_more b text [] n h e = inr record { whole = []; last = b ∷ []; parted = tt; unended = (n, tt); begun = λ q. cc; is = ap (λ t. b ∷ t) e }
ended_more b text (l ∷ ls) n h e = inl record { whole = (b ∷ l) ∷ ls; parted = ((n, h.0), h.1); is = ap (λ t. b ∷ t) e }

left_more : (b : ℕ) (text : List ℕ) (whole : List (List ℕ)) (last : List ℕ) → b ≢ 10 → EachLacks 10 whole → Lacks 10 last → last ≢ [] → text ≡ ended whole ++ last → LeavesLine (b ∷ text)
left_more b text [] last n h k m e = record { whole = []; last = b ∷ last; parted = tt; unended = (n, k); begun = λ q. cc; is = ap (λ t. b ∷ t) e }
left_more b text (l ∷ ls) last n h k m e = record { whole = (b ∷ l) ∷ ls; last = last; parted = ((n, h.0), h.1); unended = k; begun = m; is = ap (λ t. b ∷ t) e }

text_more : (b : ℕ) (text : List ℕ) → EndsLines text ⊎ LeavesLine text → EndsLines (b ∷ text) ⊎ LeavesLine (b ∷ text)
text_more b text told = go (eqb b 10) refl told
  where
    go : (t : Bool) → eqb b 10 ≡ t → EndsLines text ⊎ LeavesLine text → EndsLines (b ∷ text) ⊎ LeavesLine (b ∷ text)
    go true e (inl x) = inl record { whole = [] ∷ x.whole; parted = (tt, x.parted); is = ap (λ n. n ∷ text) (eqb-true b 10 e) ∙ ap (λ t. 10 ∷ t) x.is }
    go true e (inr x) = inr record { whole = [] ∷ x.whole; last = x.last; parted = (tt, x.parted); unended = x.unended; begun = x.begun; is = ap (λ n. n ∷ text) (eqb-true b 10 e) ∙ ap (λ t. 10 ∷ t) x.is }
    go false e (inl x) = ended_more b text x.whole (eqb-false b 10 e) x.parted x.is
    go false e (inr x) = inr (left_more b text x.whole x.last (eqb-false b 10 e) x.parted x.unended x.begun x.is)

every_text : (text : List ℕ) → EndsLines text ⊎ LeavesLine text
every_text [] = inl record { whole = []; parted = tt; is = refl }
every_text (b ∷ bs) = text_more b bs (every_text bs)

-- the fields of a line are some first field and those after it
module _ (b : ℕ) where
  joined_put : (cs : List (List ℕ)) → joined (put b cs) ≡ b ∷ joined cs
  joined_put [] = refl
  joined_put (c ∷ cs) = refl

  lacks_put : (cs : List (List ℕ)) → b ≢ 44 → EachLacks 44 cs → EachLacks 44 (put b cs)
  lacks_put [] n h = ((n, tt), tt)
  lacks_put (c ∷ cs) n h = ((n, h.0), h.1)

joined_blank : (bs : List ℕ) → joined ([] ∷ cells bs) ≡ 44 ∷ joined (cells bs)
joined_blank [] = refl
joined_blank (d ∷ ds) = go (eqb d 44) (cells ds)
  where
    go : (t : Bool) (cs : List (List ℕ)) → joined ([] ∷ cond t ([] ∷ cs) (put d cs)) ≡ 44 ∷ joined (cond t ([] ∷ cs) (put d cs))
    go true cs = refl
    go false [] = refl
    go false (c ∷ cs) = refl

line_back : (line : List ℕ) → joined (cells line) ≡ line
line_back [] = refl
line_back (b ∷ bs) = go (eqb b 44) refl (line_back bs)
  where
    go : (t : Bool) → eqb b 44 ≡ t → joined (cells bs) ≡ bs → joined (cond t ([] ∷ cells bs) (put b (cells bs))) ≡ b ∷ bs
    go true e h = joined_blank bs ∙ (ap (λ t. 44 ∷ t) h ∙ ap (λ n. n ∷ bs) (sym (eqb-true b 44 e)))
    go false e h = joined_put b (cells bs) ∙ ap (λ t. b ∷ t) h

no_comma : (line : List ℕ) → EachLacks 44 (cells line)
no_comma [] = (tt, tt)
no_comma (b ∷ bs) = go (eqb b 44) refl (no_comma bs)
  where
    go : (t : Bool) → eqb b 44 ≡ t → EachLacks 44 (cells bs) → EachLacks 44 (cond t ([] ∷ cells bs) (put b (cells bs)))
    go true e h = (tt, h)
    go false e h = lacks_put b (cells bs) (eqb-false b 44 e) h

-- a field before a comma, and alone
cell_more : (c rest : List ℕ) → Lacks 44 c → cells (c ++ 44 ∷ rest) ≡ c ∷ cells rest
cell_more [] rest h = refl
cell_more (b ∷ bs) rest h = ap (λ t. cond t ([] ∷ cells (bs ++ 44 ∷ rest)) (put b (cells (bs ++ 44 ∷ rest)))) (ne_eqb b 44 h.0) ∙ ap (put b) (cell_more bs rest h.1)

cell_last : (c : List ℕ) → Lacks 44 c → cells (c ++ []) ≡ c ∷ []
cell_last [] h = refl
cell_last (b ∷ bs) h = ap (λ t. cond t ([] ∷ cells (bs ++ [])) (put b (cells (bs ++ [])))) (ne_eqb b 44 h.0) ∙ ap (put b) (cell_last bs h.1)

joined_read : (c : List ℕ) (cs : List (List ℕ)) → EachLacks 44 (c ∷ cs) → cells (joined (c ∷ cs)) ≡ c ∷ cs
joined_read c [] h = cell_last c h.0
joined_read c (d ∷ ds) h = cell_more c (joined (d ∷ ds)) h.0 ∙ ap (λ t. c ∷ t) (joined_read d ds h.1)

-- where a field stands
joined_parts : (before : List (List ℕ)) (c : List ℕ) (after : List (List ℕ)) → joined (before ++ c ∷ after) ≡ before_commas before ++ (c ++ after_commas after)
joined_parts [] c after = refl
joined_parts (b ∷ bs) c after =
    ap (λ t. b ++ t) (next bs) ∙ (ap (λ t. b ++ 44 ∷ t) (joined_parts bs c after) ∙ sym (append_assoc b (44 ∷ before_commas bs) (c ++ after_commas after)))
  where
    next : (ds : List (List ℕ)) → after_commas (ds ++ c ∷ after) ≡ 44 ∷ joined (ds ++ c ∷ after)
    next [] = refl
    next (d ∷ ds) = refl

stands : (line : List ℕ) (before : List (List ℕ)) (c : List ℕ) (after : List (List ℕ)) → cells line ≡ before ++ c ∷ after → line ≡ before_commas before ++ (c ++ after_commas after)
stands line before c after e = sym (line_back line) ∙ (ap joined e ∙ joined_parts before c after)

place_of : (at : ℕ) (before : List (List ℕ)) (c : List ℕ) (after : List (List ℕ)) → slice_index (places at (before ++ c ∷ after)) (length before) ≡ at + length (before_commas before)
place_of at [] c after = omega arith
place_of at (b ∷ bs) c after = omega (arith, place_of (at + length b + 1) bs c after, length-append b (44 ∷ before_commas bs))

placed : (line : List ℕ) (before : List (List ℕ)) (c : List ℕ) (after : List (List ℕ)) → cells line ≡ before ++ c ∷ after → slice_index (places 1 (cells line)) (length before) ≡ length (before_commas before) + 1
placed line before c after e = ap (λ t. slice_index (places 1 t) (length before)) e ∙ (place_of 1 before c after ∙ add_comm 1 (length (before_commas before)))

-- the library's words on digits say the same
own : IsNumeralModel (λ ds. all_digits ds ≡ true) (digits_value 0)
own = numerals_by_fold _ (search rules) digits_value (search rules)

number_some : (bs : List ℕ) → 1 ≤ length bs → length bs ≤ 9 → all_digits bs ≡ true → number_of bs ≡ Some (digits_value 0 bs)
number_some bs a b f = grind (arith, nat_tests)

written_read : (n : ℕ) → n < 1_000_000_000 → number_of (decimal n) ≡ Some n
written_read n h =
    number_some (decimal n) (search (rules, decimal_nonempty)) (length-decimal-le 9 n (omega arith) (omega arith) (omega arith)) (digits_decimal own n (omega arith))
    ∙ ap Some (digits_value-decimal own n (omega arith))

leading_zero : (bs : List ℕ) → 1 ≤ length bs → length bs ≤ 8 → number_of (48 ∷ bs) ≡ number_of bs
leading_zero bs a b = grind (arith, nat_tests)

pub day_lines_hold : DayLinesHold
day_lines_hold = record {
  lines = record { ended_read = ended_read; last_read = last_read; every_text = every_text };
  fields = record { line_back = line_back; no_comma = no_comma; joined_read = joined_read; stands = stands; placed = placed };
  numbers = record { written_read = written_read; leading_zero = leading_zero };
}
