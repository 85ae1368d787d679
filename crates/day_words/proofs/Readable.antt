-- A line that is read as a call can be spelled
use Rattle.std.proofs.Common.{◌≡◌, ℕ, ◌+◌, ◌-◌, ◌*◌, ◌^◌, ◌<◌, ◌≤◌, Bool, true, false, cond, ◌&&◌, eqb, List, [], ◌∷◌, length, drop, Some, None, Ok, Err, Option, refl, subst, arith, lit<}
use Rattle.std.specs.Prelude.{unwrap_or, nat_le}
use Rattle.std.proofs.Math.Nat.{pow-le-pow_right}
use Rattle.std.proofs.lemmas.Bool.{and_parts, leb-true}
use Rattle.day_lines.specs.Lines.{cells, places, number_of, is_digit, all_digits, digits_value}
use Rattle.day_lines.proofs.Digits.{digit_more}
use Rattle.day_words.specs.declared.fault.Fault.{Fault}
use Rattle.day_words.specs.declared.line.Line.{Line}
use Rattle.day_words.specs.Spelling.{Form, first_fault, fault_else, call_letters, letter_of, number_in, uses, field, meaning, read_line, read_by, read_fields, bad_line}
use Rattle.day_words.specs.Spelling.Form.{Entry, Cancellation, RetailEntry, Telling, PhaseChange, Approval, Withdrawal, Exception, Lifting, Routing, Identifier}
use Rattle.day_words.specs.SpellingLaws.{Fits, OffsetFits, Spellable}

-- At most nine digits are a number of at most nine digits.
value_fits : (bs : List ℕ) (n i : ℕ) → n < 10 ^ i → i + length bs ≤ 9 → all_digits bs ≡ true → Fits (digits_value n bs)
value_fits [] n i a b h = let up : i ≤ 9 = omega arith in let most : 10 ^ i ≤ 10 ^ 9 = pow-le-pow_right (lit< tt) up in omega arith
value_fits (b ∷ bs) n i a c h =
    let each = and_parts (is_digit b) (all_digits bs) h in
    let digit = and_parts (nat_le 48 b) (nat_le b 57) each.0 in
    let more = digit_more n i (b - 48) a (omega arith) (omega (arith, leb-true b 57 digit.1)) in
    value_fits bs (10 * n + (b - 48)) (i + 1) more.0 (omega arith) each.1

number_fits : (bs : List ℕ) → OffsetFits (number_of bs)
number_fits bs = go (nat_le 1 (length bs) && nat_le (length bs) 9 && all_digits bs) refl
  where
    go : (t : Bool) → (nat_le 1 (length bs) && nat_le (length bs) 9 && all_digits bs) ≡ t → OffsetFits (cond t (Some (digits_value 0 bs)) None)
    go false e = tt
    go true e =
        let all = and_parts (nat_le 1 (length bs) && nat_le (length bs) 9) (all_digits bs) e in
        let few = leb-true (length bs) 9 (and_parts (nat_le 1 (length bs)) (nat_le (length bs) 9) all.0).1 in
        value_fits bs 0 0 (lit< tt) (omega arith) all.1

pub in_fits : (bs : List ℕ) → Fits (number_in bs)
in_fits bs = go (number_of bs) (number_fits bs)
  where
    go : (o : Option ℕ) → OffsetFits o → Fits (unwrap_or o 0)
    go None h = lit< tt
    go (Some n) h = h

meaning_spellable : (form : Form) (fields : List (List ℕ)) → Spellable (meaning form fields)
meaning_spellable Entry f = (in_fits (field 1 f), in_fits (field 4 f), number_fits (field 5 f), in_fits (field 6 f))
meaning_spellable Cancellation f = (in_fits (field 1 f), in_fits (field 7 f))
meaning_spellable RetailEntry f = (in_fits (field 1 f), in_fits (field 4 f), in_fits (field 6 f), refl)
meaning_spellable Telling f = (in_fits (field 1 f), in_fits (field 4 f), in_fits (field 6 f))
meaning_spellable PhaseChange f = tt
meaning_spellable Approval f = in_fits (field 1 f)
meaning_spellable Withdrawal f = in_fits (field 1 f)
meaning_spellable Exception f = in_fits (field 1 f)
meaning_spellable Lifting f = in_fits (field 1 f)
meaning_spellable Routing f = (in_fits (field 7 f), in_fits (field 6 f))
meaning_spellable Identifier f = tt

-- a line that is read is what its form means
meant_by : (o : Option Form) (fields : List (List ℕ)) (at : List ℕ) (line : Line) → read_by o fields at ≡ Ok line → Spellable line
meant_by None fields at line h = absurd cc
meant_by (Some form) fields at line h = go (first_fault (uses form) (drop 1 fields) (drop 1 at)) h
  where
    go : (o : Option Fault) → fault_else o (meaning form fields) ≡ Ok line → Spellable line
    go None h = let same : meaning form fields ≡ line = cc in subst Spellable same (meaning_spellable form fields)
    go (Some fault) h = absurd cc

pub read_spellable : (text : List ℕ) (line : Line) → read_line text ≡ Ok line → Spellable line
read_spellable text line h = go (nat_le (length text) 120 && eqb (length (cells text)) 8) h
  where
    go : (t : Bool) → cond t (read_fields (cells text) (places 1 (cells text))) (Err bad_line) ≡ Ok line → Spellable line
    go true h = meant_by (letter_of call_letters (field 0 (cells text))) (cells text) (places 1 (cells text)) line h
    go false h = absurd cc
