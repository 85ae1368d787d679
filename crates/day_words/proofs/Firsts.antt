-- The fault of a line is that of its first wrong field
use Rattle.std.proofs.Common.{◌≡◌, ◌≢◌, ℕ, zero, suc, ◌+◌, ◌<◌, ◌≤◌, Bool, true, false, cond, ◌&&◌, ◌||◌, ◌⊎◌, eqb, List, [], ◌∷◌, map, length, get_or, Some, None, Err, Option, IsOk, sym, refl, ap, subst, ◌∙◌, inl, inr, arith}
use Rattle.std.specs.Prelude.{Contains, nat_le, is_ok, is_some}
use Rattle.std.specs.List.{AllByRecursion as Each}
use Rattle.std.proofs.lemmas.Bool.{eqb-true, eqb-false, or_parts, and_parts, and_from, leb-true, leb-false, le-leb, eq-eqb, and_cases, both_ways}
use Rattle.day_lines.specs.Lines.{cells, places, is_digit, all_digits, digits_value}
use Rattle.day_words.specs.declared.fault.Fault.{Fault}
use Rattle.day_words.specs.declared.fault.FaultKind.{FaultKind}
use Rattle.day_words.specs.declared.fault.FaultKind.TheVariants.{BadLine, Blank, UnknownLetter, NotDigits}
use Rattle.day_words.specs.declared.line.Line.{Line}
use Rattle.day_words.specs.declared.line.Line.TheVariants.{Identify}
use Rattle.day_words.specs.Spelling.{Form, Use, among, is_number, blank_or, unless, fault_of, first_fault, or_later, call_letters, letter_in, letter_of, named, uses, field, meaning, fault_else, read_line, read_by, read_fields, bad_line}
use Rattle.day_words.specs.Spelling.Form.{Entry}
use Rattle.day_words.specs.Spelling.Use.{Unused, Letter, Number, MayBeBlank}
use Rattle.day_words.specs.SpellingLaws.{IsNumber, Wrong, asked, asked_behind, RightAt, FaultOf, WellFormed, FaultsHold}

-- a letter that is among the letters, and one that is not
among_found : (letters : List ℕ) (b : ℕ) → among letters b ≡ true → Contains letters b
among_found [] b h = cc
among_found (l ∷ ls) b h = go (among_found ls b) (eqb b l) refl h
  where
    go : (among ls b ≡ true → Contains ls b) → (t : Bool) → eqb b l ≡ t → (t || among ls b) ≡ true → Contains (l ∷ ls) b
    go more true e h = (0, omega arith, sym (eqb-true b l e))
    go more false e h = let k = more h in (suc k.0, omega (arith, k.1), k.2)

among_missed : (letters : List ℕ) (b : ℕ) → among letters b ≡ false → Contains letters b → ⊥
among_missed [] b h (k, lt, e) = omega arith
among_missed (l ∷ ls) b h (zero, lt, e) = eqb-false b l (or_parts (eqb b l) (among ls b) h).0 (sym e)
among_missed (l ∷ ls) b h (suc k, lt, e) = among_missed ls b (or_parts (eqb b l) (among ls b) h).1 (k, omega arith, e)

-- digits
digits_each : (bs : List ℕ) → all_digits bs ≡ true → Each (λ b. (48 ≤ b) × (b ≤ 57)) bs
digits_each [] h = tt
digits_each (b ∷ bs) h =
    let all = and_parts (is_digit b) (all_digits bs) h in
    let one = and_parts (nat_le 48 b) (nat_le b 57) all.0 in
    ((leb-true 48 b one.0, leb-true b 57 one.1), digits_each bs all.1)

each_digits : (bs : List ℕ) → Each (λ b. (48 ≤ b) × (b ≤ 57)) bs → all_digits bs ≡ true
each_digits [] h = refl
each_digits (b ∷ bs) h = and_from (is_digit b) (all_digits bs) (and_from (nat_le 48 b) (nat_le b 57) (le-leb 48 b h.0.0) (le-leb b 57 h.0.1)) (each_digits bs h.1)

-- a number is what the definition reads as one
number_test : List ℕ → Bool
number_test bs = nat_le 1 (length bs) && nat_le (length bs) 9 && all_digits bs

is_number_test : (bs : List ℕ) → is_number bs ≡ number_test bs
unfolding number_test
is_number_test bs = go (number_test bs)
  where
    go : (t : Bool) → is_some (cond t (Some (digits_value 0 bs)) None) ≡ t
    go true = refl
    go false = refl

pub number_right : (bs : List ℕ) → is_number bs ≡ true → IsNumber bs
unfolding number_test
number_right bs h =
    let all = and_parts (nat_le 1 (length bs) && nat_le (length bs) 9) (all_digits bs) (sym (is_number_test bs) ∙ h) in
    let sized = and_parts (nat_le 1 (length bs)) (nat_le (length bs) 9) all.0 in
    record { some = leb-true 1 (length bs) sized.0; few = leb-true (length bs) 9 sized.1; digits = digits_each bs all.1 }

right_number : (bs : List ℕ) → IsNumber bs → is_number bs ≡ true
unfolding number_test
right_number bs h =
    let sized = and_from (nat_le 1 (length bs)) (nat_le (length bs) 9) (le-leb 1 (length bs) h.some) (le-leb (length bs) 9 h.few) in
    is_number_test bs ∙ and_from (nat_le 1 (length bs) && nat_le (length bs) 9) (all_digits bs) sized (each_digits bs h.digits)

-- WHAT A FIELD'S FAULT IS

unless_true : (t : Bool) (kind : FaultKind) → t ≡ true → unless t kind ≡ None
unless_true t kind h = ap (λ t. unless t kind) h

unless_false : (t : Bool) (kind : FaultKind) → t ≡ false → unless t kind ≡ Some kind
unless_false t kind h = ap (λ t. unless t kind) h

-- A field is right, or it is wrong in the way that its fault says.
data Judged (want : Use) (bs : List ℕ) : Type 0 where
  right : fault_of want bs ≡ None → Judged want bs
  wrong : (kind : FaultKind) → fault_of want bs ≡ Some kind → Wrong want kind bs → Judged want bs

judged_number : (b : ℕ) (bs : List ℕ) (t : Bool) → is_number (b ∷ bs) ≡ t → Judged Number (b ∷ bs) × Judged MayBeBlank (b ∷ bs)
judged_number b bs true e = (right (unless_true _ NotDigits e), right (unless_true _ NotDigits e))
judged_number b bs false e =
    let not_one : IsNumber (b ∷ bs) → ⊥ = λ n. both_ways _ e (right_number (b ∷ bs) n) in
    (wrong NotDigits (unless_false _ NotDigits e) (λ q. cc, not_one), wrong NotDigits (unless_false _ NotDigits e) (λ q. cc, not_one))

judged : (want : Use) (bs : List ℕ) → Judged want bs
judged Unused [] = right refl
judged Unused (b ∷ bs) = wrong Blank refl (λ q. cc)
judged (Letter ls) [] = wrong Blank refl refl
judged (Letter ls) (b ∷ []) = go (among ls b) refl
  where
    go : (t : Bool) → among ls b ≡ t → Judged (Letter ls) (b ∷ [])
    go true e = right (unless_true _ UnknownLetter e)
    go false e = wrong UnknownLetter (unless_false _ UnknownLetter e) (λ q. cc, λ l. among_missed ls b e (let same : l.0 ≡ b = cc in subst (Contains ls) same l.1))
judged (Letter ls) (b ∷ c ∷ bs) = wrong UnknownLetter refl (λ q. cc, λ l. cc)
judged Number [] = wrong Blank refl refl
judged Number (b ∷ bs) = (judged_number b bs (is_number (b ∷ bs)) refl).0
judged MayBeBlank [] = right refl
judged MayBeBlank (b ∷ bs) = (judged_number b bs (is_number (b ∷ bs)) refl).1

-- What is wrong in one way is not right, and is wrong in no other.
fault_is : (want : Use) (kind : FaultKind) (bs : List ℕ) → Wrong want kind bs → fault_of want bs ≡ Some kind
fault_is Unused Blank [] h = absurd (h refl)
fault_is Unused Blank (b ∷ bs) h = refl
fault_is (Letter ls) Blank bs h = ap (fault_of (Letter ls)) h
fault_is (Letter ls) UnknownLetter [] h = absurd (h.0 refl)
fault_is (Letter ls) UnknownLetter (b ∷ []) h = go (among ls b) refl
  where
    go : (t : Bool) → among ls b ≡ t → unless (among ls b) UnknownLetter ≡ Some UnknownLetter
    go true e = absurd (h.1 (b, among_found ls b e, refl))
    go false e = unless_false _ UnknownLetter e
fault_is (Letter ls) UnknownLetter (b ∷ c ∷ bs) h = refl
fault_is Number Blank bs h = ap (fault_of Number) h
fault_is Number NotDigits [] h = absurd (h.0 refl)
fault_is Number NotDigits (b ∷ bs) h = go (is_number (b ∷ bs)) refl
  where
    go : (t : Bool) → is_number (b ∷ bs) ≡ t → unless (is_number (b ∷ bs)) NotDigits ≡ Some NotDigits
    go true e = absurd (h.1 (number_right (b ∷ bs) e))
    go false e = unless_false _ NotDigits e
fault_is MayBeBlank NotDigits [] h = absurd (h.0 refl)
fault_is MayBeBlank NotDigits (b ∷ bs) h = go (is_number (b ∷ bs)) refl
  where
    go : (t : Bool) → is_number (b ∷ bs) ≡ t → unless (is_number (b ∷ bs)) NotDigits ≡ Some NotDigits
    go true e = absurd (h.1 (number_right (b ∷ bs) e))
    go false e = unless_false _ NotDigits e
fault_is _ _ bs h = absurd h

-- THE FIRST OF SEVERAL

abbrev WrongIn : List Use → List (List ℕ) → ℕ → FaultKind → Type 0
WrongIn us cs at kind = Wrong (get_or us at Unused) kind (get_or cs at [])

abbrev RightIn : List Use → List (List ℕ) → ℕ → Type 0
RightIn us cs at = (kind : FaultKind) → WrongIn us cs at kind → ⊥

record FirstIn (us : List Use) (cs : List (List ℕ)) (at : ℕ) (kind : FaultKind) : Type 0 where
  one : at < length us
  wrong : WrongIn us cs at kind
  left_right : (before : ℕ) → before < at → RightIn us cs before

right_one : (u : Use) (bs : List ℕ) → fault_of u bs ≡ None → (kind : FaultKind) → Wrong u kind bs → ⊥
right_one u bs e kind w = let k = fault_is u kind bs w in cc

-- at fault, so the first wrong one is here or later
module _ (u : Use) (us : List Use) (c : List ℕ) (cs : List (List ℕ)) where
  here : (kind : FaultKind) → Wrong u kind c → FirstIn (u ∷ us) (c ∷ cs) 0 kind
  here kind w = record { one = omega arith; wrong = w; left_right = λ before lt. absurd (omega arith) }

  later : (at : ℕ) (kind : FaultKind) → fault_of u c ≡ None → FirstIn us cs at kind → FirstIn (u ∷ us) (c ∷ cs) (suc at) kind
  later at kind e f = record { one = omega (arith, f.one); wrong = f.wrong; left_right = left }
    where
      left : (before : ℕ) → before < suc at → RightIn (u ∷ us) (c ∷ cs) before
      left zero lt = right_one u c e
      left (suc before) lt = f.left_right before (omega arith)

abbrev FirstAt : List Use → List (List ℕ) → List ℕ → Fault → Type 0
FirstAt us cs ps f = (at : ℕ) × FirstIn us cs at f.kind × (f.place ≡ get_or ps at 0)

first_in : (us : List Use) (cs : List (List ℕ)) (ps : List ℕ) → length us ≤ length cs → length us ≤ length ps → (f : Fault) → first_fault us cs ps ≡ Some f → FirstAt us cs ps f
first_in [] cs ps a b f h = cc
first_in (u ∷ us) [] ps a b f h = absurd (omega arith)
first_in (u ∷ us) (c ∷ cs) [] a b f h = absurd (omega arith)
first_in (u ∷ us) (c ∷ cs) (p ∷ ps) a b f h = go (judged u c) (first_in us cs ps (omega arith) (omega arith) f)
  where
    go : Judged u c → (first_fault us cs ps ≡ Some f → FirstAt us cs ps f) → FirstAt (u ∷ us) (c ∷ cs) (p ∷ ps) f
    go (right e) more =
        let x = more (ap (λ o. or_later p o (first_fault us cs ps)) (sym e) ∙ h) in
        (suc x.0, later u us c cs x.0 f.kind e x.1, x.2)
    go (wrong kind e w) more =
        let same : record { kind = kind; place = p } ≡ f = let one = ap (λ o. or_later p o (first_fault us cs ps)) (sym e) ∙ h in cc in
        subst (FirstAt (u ∷ us) (c ∷ cs) (p ∷ ps)) same (0, here u us c cs kind w, refl)

in_first : (us : List Use) (cs : List (List ℕ)) (ps : List ℕ) → length us ≤ length cs → length us ≤ length ps → (at : ℕ) (kind : FaultKind) → FirstIn us cs at kind
    → first_fault us cs ps ≡ Some (record { kind = kind; place = get_or ps at 0 })
in_first [] cs ps a b at kind f = absurd (omega (arith, f.one))
in_first (u ∷ us) [] ps a b at kind f = absurd (omega arith)
in_first (u ∷ us) (c ∷ cs) [] a b at kind f = absurd (omega arith)
in_first (u ∷ us) (c ∷ cs) (p ∷ ps) a b zero kind f = ap (λ o. or_later p o (first_fault us cs ps)) (fault_is u kind c f.wrong)
in_first (u ∷ us) (c ∷ cs) (p ∷ ps) a b (suc at) kind f = go (judged u c) (in_first us cs ps (omega arith) (omega arith) at kind rest)
  where
    rest : FirstIn us cs at kind
    rest = record { one = omega (arith, f.one); wrong = f.wrong; left_right = λ before lt. f.left_right (suc before) (omega arith) }

    go : Judged u c → first_fault us cs ps ≡ Some (record { kind = kind; place = get_or ps at 0 }) → or_later p (fault_of u c) (first_fault us cs ps) ≡ Some (record { kind = kind; place = get_or ps at 0 })
    go (right e) more = ap (λ o. or_later p o (first_fault us cs ps)) e ∙ more
    go (wrong k e w) more = absurd (f.left_right zero (omega arith) k w)

none_right : (us : List Use) (cs : List (List ℕ)) (ps : List ℕ) → length us ≤ length cs → length us ≤ length ps → first_fault us cs ps ≡ None → (at : ℕ) → at < length us → RightIn us cs at
none_right [] cs ps a b h at lt = absurd (omega arith)
none_right (u ∷ us) [] ps a b h at lt = absurd (omega arith)
none_right (u ∷ us) (c ∷ cs) [] a b h at lt = absurd (omega arith)
none_right (u ∷ us) (c ∷ cs) (p ∷ ps) a b h at lt = go (judged u c) at lt (none_right us cs ps (omega arith) (omega arith))
  where
    go : Judged u c → (at : ℕ) → at < suc (length us) → (first_fault us cs ps ≡ None → (at : ℕ) → at < length us → RightIn us cs at) → RightIn (u ∷ us) (c ∷ cs) at
    go (right e) zero lt more = right_one u c e
    go (right e) (suc at) lt more = more (ap (λ o. or_later p o (first_fault us cs ps)) (sym e) ∙ h) at (omega arith)
    go (wrong kind e w) at lt more = let one = ap (λ o. or_later p o (first_fault us cs ps)) (sym e) ∙ h in absurd cc

right_none : (us : List Use) (cs : List (List ℕ)) (ps : List ℕ) → length us ≤ length cs → length us ≤ length ps → ((at : ℕ) → at < length us → RightIn us cs at) → first_fault us cs ps ≡ None
right_none us cs ps a b h = go (first_fault us cs ps) refl
  where
    go : (o : Option Fault) → first_fault us cs ps ≡ o → o ≡ None
    go None e = refl
    go (Some f) e = let x = first_in us cs ps a b f e in absurd (h x.0 x.1.one f.kind x.1.wrong)

-- THE CALL LETTER

-- A letter is one of the table's exactly if it stands for something.
among_named : {X : Type 0} (table : List (ℕ × X)) (b : ℕ) → among (map (λ entry. entry.0) table) b ≡ is_some (named table b)
among_named [] b = refl
among_named (entry ∷ entries) b = go (eqb b entry.0) (among_named entries b)
  where
    go : (t : Bool) → among (map (λ entry. entry.0) entries) b ≡ is_some (named entries b) → (t || among (map (λ entry. entry.0) entries) b) ≡ is_some (cond t (Some entry.1) (named entries b))
    go true more = refl
    go false more = more

pub fault_of-letter : {X : Type 0} (table : List (ℕ × X)) (bs : List ℕ) → fault_of (letter_in table) bs ≡ unless (is_some (letter_of table bs)) (blank_or UnknownLetter bs)
fault_of-letter table [] = refl
fault_of-letter table (b ∷ []) = ap (λ t. unless t UnknownLetter) (among_named table b)
fault_of-letter table (b ∷ c ∷ bs) = refl

-- A line's meaning by its letter; a line without a call's letter has none that is read.
abbrev meaning_by : Option Form → List (List ℕ) → Line
meaning_by None fields = Identify
meaning_by (Some form) fields = meaning form fields

read_asked : (fields : List (List ℕ)) (at : List ℕ) → length fields ≡ 8 → length at ≡ 8
    → read_fields fields at ≡ fault_else (first_fault (asked fields) fields at) (meaning_by (letter_of call_letters (field 0 fields)) fields)
read_asked [] at a b = absurd (omega arith)
read_asked (c ∷ cs) [] a b = absurd (omega arith)
read_asked (c ∷ cs) (p ∷ ps) a b =
    go (letter_of call_letters c)
    ∙ ap (λ o. fault_else (or_later p o (first_fault (asked_behind (letter_of call_letters c)) cs ps)) (meaning_by (letter_of call_letters c) (c ∷ cs))) (sym (fault_of-letter call_letters c))
  where
    go : (o : Option Form) → read_by o (c ∷ cs) (p ∷ ps) ≡ fault_else (or_later p (unless (is_some o) (blank_or UnknownLetter c)) (first_fault (asked_behind o) cs ps)) (meaning_by o (c ∷ cs))
    go None = refl
    go (Some form) = refl

pub uses_seven : (form : Form) → length (uses form) ≡ 7
uses_seven form = elim form as (λ f. length (uses f) ≡ 7) [ Entry ↦ refl | _ ↦ refl ]

-- All eight fields are asked for where the letter is known, and the first where it is not.
asked_some : (fields : List (List ℕ)) → length (asked fields) ≤ 8
asked_some fields = go (letter_of call_letters (field 0 fields))
  where
    go : (o : Option Form) → length (letter_in call_letters ∷ asked_behind o) ≤ 8
    go None = omega arith
    go (Some form) = omega (arith, uses_seven form)

asked_known : (fields : List (List ℕ)) → RightAt fields 0 → length (asked fields) ≡ 8
asked_known fields h = go (letter_of call_letters (field 0 fields)) refl (judged (letter_in call_letters) (field 0 fields))
  where
    go : (o : Option Form) → letter_of call_letters (field 0 fields) ≡ o → Judged (letter_in call_letters) (field 0 fields) → length (letter_in call_letters ∷ asked_behind o) ≡ 8
    go (Some form) e j = omega (arith, uses_seven form)
    go None e (wrong kind q w) = absurd (h kind w)
    go None e (right q) = let one = fault_of-letter call_letters (field 0 fields) ∙ ap (λ o. unless (is_some o) (blank_or UnknownLetter (field 0 fields))) e in absurd (let two = sym q ∙ one in cc)

-- A LINE

pub length-places : (at : ℕ) (fields : List (List ℕ)) → length (places at fields) ≡ length fields
length-places at [] = refl
length-places at (c ∷ cs) = ap suc (length-places (at + length c + 1) cs)

sized : List ℕ → Bool
sized line = nat_le (length line) 120 && eqb (length (cells line)) 8

line_sized : (line : List ℕ) → WellFormed line → sized line ≡ true
unfolding sized
line_sized line w = and_from _ _ (le-leb (length line) 120 w.short) (eq-eqb (length (cells line)) 8 w.eight)

sized_line : (line : List ℕ) → sized line ≡ true → WellFormed line
unfolding sized
sized_line line h = let both = and_parts (nat_le (length line) 120) (eqb (length (cells line)) 8) h in record { short = leb-true (length line) 120 both.0; eight = eqb-true (length (cells line)) 8 both.1 }

not_sized : (line : List ℕ) → sized line ≡ false → (120 < length line) ⊎ (length (cells line) ≢ 8)
unfolding sized
not_sized line h = go (and_cases (nat_le (length line) 120) (eqb (length (cells line)) 8) h)
  where
    go : (nat_le (length line) 120 ≡ false) ⊎ (eqb (length (cells line)) 8 ≡ false) → (120 < length line) ⊎ (length (cells line) ≢ 8)
    go (inl e) = inl (leb-false (length line) 120 e)
    go (inr e) = inr (eqb-false (length (cells line)) 8 e)

read_sized : (line : List ℕ) (t : Bool) → sized line ≡ t → read_line line ≡ cond t (read_fields (cells line) (places 1 (cells line))) (Err bad_line)
unfolding sized
read_sized line t e = ap (λ t. cond t (read_fields (cells line) (places 1 (cells line))) (Err bad_line)) e

pub read_formed : (line : List ℕ) → WellFormed line → read_line line ≡ read_fields (cells line) (places 1 (cells line))
read_formed line w = read_sized line true (line_sized line w)

first_of : List ℕ → Option Fault
first_of line = first_fault (asked (cells line)) (cells line) (places 1 (cells line))

meant : List ℕ → Line
meant line = meaning_by (letter_of call_letters (field 0 (cells line))) (cells line)

read_well : (line : List ℕ) → WellFormed line → read_line line ≡ fault_else (first_of line) (meant line)
unfolding first_of meant
read_well line w = read_formed line w ∙ read_asked (cells line) (places 1 (cells line)) w.eight (length-places 1 (cells line) ∙ w.eight)

-- the first fault is that of the first wrong field
fault_of-first : (line : List ℕ) → WellFormed line → (f : Fault) → first_of line ≡ Some f → FaultOf line f
unfolding first_of
fault_of-first line w f h =
    let some = asked_some (cells line) in
    let x = first_in (asked (cells line)) (cells line) (places 1 (cells line)) (omega (arith, w.eight, some)) (omega (arith, w.eight, some, length-places 1 (cells line))) f h in
    record { at = x.0; first = record { one = omega (arith, x.1.one, some); wrong = x.1.wrong; left_right = x.1.left_right }; place = x.2 }

-- a field is asked for, if all left of it are right
asked_at : (fields : List (List ℕ)) (at : ℕ) → at < 8 → ((before : ℕ) → before < at → RightAt fields before) → at < length (asked fields)
asked_at fields zero lt left = omega arith
asked_at fields (suc at) lt left = omega (arith, asked_known fields (left zero (omega arith)))

first-fault_of : (line : List ℕ) → WellFormed line → (f : Fault) → FaultOf line f → first_of line ≡ Some f
unfolding first_of
first-fault_of line w f x =
    let some = asked_some (cells line) in
    let one : FirstIn (asked (cells line)) (cells line) x.at f.kind = record { one = asked_at (cells line) x.at x.first.one x.first.left_right; wrong = x.first.wrong; left_right = x.first.left_right } in
    in_first (asked (cells line)) (cells line) (places 1 (cells line)) (omega (arith, w.eight, some)) (omega (arith, w.eight, some, length-places 1 (cells line))) x.at f.kind one
    ∙ ap (λ p. Some (record { kind = f.kind; place = p })) (sym x.place)

none-right : (line : List ℕ) → WellFormed line → first_of line ≡ None → (at : ℕ) → at < 8 → RightAt (cells line) at
unfolding first_of
none-right line w h at lt =
    let some = asked_some (cells line) in
    let all = none_right (asked (cells line)) (cells line) (places 1 (cells line)) (omega (arith, w.eight, some)) (omega (arith, w.eight, some, length-places 1 (cells line))) h in
    all at (omega (arith, lt, asked_known (cells line) (all 0 (omega arith))))

right-none : (line : List ℕ) → WellFormed line → ((at : ℕ) → at < 8 → RightAt (cells line) at) → first_of line ≡ None
unfolding first_of
right-none line w h =
    let some = asked_some (cells line) in
    right_none (asked (cells line)) (cells line) (places 1 (cells line)) (omega (arith, w.eight, some)) (omega (arith, w.eight, some, length-places 1 (cells line))) (λ at lt. h at (omega (arith, lt, some)))

-- no field is at fault for the whole line
never_bad : (u : Use) (bs : List ℕ) → Wrong u BadLine bs → ⊥
never_bad Unused bs h = h
never_bad (Letter ls) bs h = h
never_bad Number bs h = h
never_bad MayBeBlank bs h = h

err_first : (o : Option Fault) (line : Line) (f : Fault) → fault_else o line ≡ Err f → o ≡ Some f
err_first None line f h = cc
err_first (Some g) line f h = cc

ok_first : (o : Option Fault) (line : Line) → IsOk (fault_else o line) → o ≡ None
ok_first None line h = refl
ok_first (Some g) line h = cc

reads_fault : (line : List ℕ) → WellFormed line → (f : Fault) → read_line line ≡ Err f → FaultOf line f
reads_fault line w f h = fault_of-first line w f (err_first (first_of line) (meant line) f (sym (read_well line w) ∙ h))

bad_only : (line : List ℕ) → read_line line ≡ Err bad_line → (120 < length line) ⊎ (length (cells line) ≢ 8)
bad_only line h = go (sized line) refl
  where
    go : (t : Bool) → sized line ≡ t → (120 < length line) ⊎ (length (cells line) ≢ 8)
    go true e = let x = reads_fault line (sized_line line e) bad_line h in absurd (never_bad _ _ x.first.wrong)
    go false e = not_sized line e

bad_if : (line : List ℕ) → (120 < length line) ⊎ (length (cells line) ≢ 8) → read_line line ≡ Err bad_line
bad_if line h = go (sized line) refl h
  where
    go : (t : Bool) → sized line ≡ t → (120 < length line) ⊎ (length (cells line) ≢ 8) → read_line line ≡ Err bad_line
    go false e h = read_sized line false e
    go true e (inl long) = let w = sized_line line e in absurd (omega (arith, w.short, long))
    go true e (inr other) = let w = sized_line line e in absurd (other w.eight)

pub faults_hold : (line : List ℕ) → FaultsHold line
faults_hold line = record {
  bad = record { only = bad_only line; if = bad_if line };
  faults = λ w f. record {
    only = reads_fault line w f;
    if = λ x. read_well line w ∙ ap (λ o. fault_else o (meant line)) (first-fault_of line w f x);
  };
  call = λ w. record {
    only = λ h. none-right line w (ok_first (first_of line) (meant line) (subst IsOk (read_well line w) h));
    if = λ h. ap is_ok (read_well line w ∙ ap (λ o. fault_else o (meant line)) (right-none line w h));
  };
}
