-- A line that is read has the fields of its spelling
use Rattle.std.proofs.Common.{◌≡◌, ℕ, zero, suc, Bool, true, false, cond, ◌&&◌, ◌⊎◌, eqb, List, [], ◌∷◌, length, get_or, drop, Some, None, Ok, Err, Option, refl, ap, subst, sym, ◌∙◌, inl, inr, arith}
use Rattle.std.specs.Prelude.{codes, decimal, unwrap_or, is_some, nat_le}
use Rattle.std.specs.List.{AllByRecursion as Each}
use Rattle.std.proofs.lemmas.Bool.{and_parts, eqb-true}
use Rattle.terms.specs.declared.market.Side.TheVariants.{Buy}
use Rattle.terms.specs.declared.orders.OrderKind.TheVariants.{Rpi}
use Rattle.terms.specs.declared.orders.RetailType.TheVariants.{One}
use Rattle.terms.specs.declared.orders.PhaseEvent.TheVariants.{Opening}
use Rattle.day_lines.specs.Lines.{cells, places, number_of}
use Rattle.day_lines.proofs.ReadBack.{day_lines_hold}
use Rattle.day_words.specs.declared.fault.Fault.{Fault}
use Rattle.day_words.specs.declared.fault.FaultKind.{FaultKind}
use Rattle.day_words.specs.declared.fault.FaultKind.TheVariants.{UnknownLetter, NotDigits}
use Rattle.day_words.specs.declared.line.Line.{Line}
use Rattle.day_words.specs.Spelling.{Form, Use, is_number, blank_or, unless, fault_of, first_fault, or_later, fault_else, call_letters, side_letters, kind_letters, retail_letters, phase_letters, letter_in, letter_of, letter_else, named, number_in, uses, field, side, kind, meaning, read_line, read_by, read_fields, bad_line}
use Rattle.day_words.specs.Spelling.Form.{Entry, Cancellation, RetailEntry, Telling, PhaseChange, Approval, Withdrawal, Exception, Lifting, Routing, Identifier}
use Rattle.day_words.specs.Spelling.Use.{Unused, Number, MayBeBlank}
use Rattle.day_words.specs.SpellingLaws.{side_text, kind_text, retail_text, phase_text, offset_text, SameBytesOrNumber, SameFields, Spells}
use Rattle.day_words.proofs.Readable.{in_fits}
use Rattle.day_words.proofs.Firsts.{uses_seven, fault_of-letter, length-places}

unless_right : (t : Bool) (kind : FaultKind) → unless t kind ≡ None → t ≡ true
unless_right true kind h = refl
unless_right false kind h = absurd cc

-- NUMBERS AND BLANKS

some_in : (o : Option ℕ) → is_some o ≡ true → o ≡ Some (unwrap_or o 0)
some_in None h = absurd cc
some_in (Some n) h = refl

written_back : (c : List ℕ) → number_of (decimal (number_in c)) ≡ Some (number_in c)
written_back c = day_lines_hold.numbers.written_read (number_in c) (in_fits c)

number_same : (c : List ℕ) → is_number c ≡ true → SameBytesOrNumber c (decimal (number_in c))
number_same c h = inr (number_in c, some_in (number_of c) h, written_back c)

right_number : (c : List ℕ) → fault_of Number c ≡ None → SameBytesOrNumber c (decimal (number_in c))
right_number c h = number_same c (unless_right (is_number c) (blank_or NotDigits c) h)

-- a number that may be blank
blank_or_number : (c : List ℕ) → fault_of MayBeBlank c ≡ None → (c ≡ []) ⊎ SameBytesOrNumber c (decimal (number_in c))
blank_or_number [] h = inl refl
blank_or_number (b ∷ bs) h = inr (number_same (b ∷ bs) (unless_right (is_number (b ∷ bs)) NotDigits h))

right_offset : (c : List ℕ) → fault_of MayBeBlank c ≡ None → SameBytesOrNumber c (offset_text (number_of c))
right_offset [] h = inl refl
right_offset (b ∷ bs) h =
    let is = some_in (number_of (b ∷ bs)) (unless_right (is_number (b ∷ bs)) NotDigits h) in
    inr (number_in (b ∷ bs), is, subst (λ o. number_of (offset_text o) ≡ Some (number_in (b ∷ bs))) (sym is) (written_back (b ∷ bs)))

right_blank : (c : List ℕ) → fault_of Unused c ≡ None → c ≡ []
right_blank [] h = refl
right_blank (b ∷ bs) h = absurd cc

-- LETTERS, where each letter of a table is the text of what it stands for

module _ {X : Type 0} (text : X → List ℕ) where
  abbrev Texted : List (ℕ × X) → Type 0
  Texted table = Each (λ entry. text entry.1 ≡ entry.0 ∷ []) table

  named_text : (table : List (ℕ × X)) → Texted table → (b : ℕ) (x : X) → named table b ≡ Some x → b ∷ [] ≡ text x
  named_text [] all b x h = absurd cc
  named_text (entry ∷ entries) all b x h = go (eqb b entry.0) refl (named_text entries all.1 b x) h
    where
      go : (t : Bool) → eqb b entry.0 ≡ t → (named entries b ≡ Some x → b ∷ [] ≡ text x) → cond t (Some entry.1) (named entries b) ≡ Some x → b ∷ [] ≡ text x
      go true e more h =
          let same : entry.1 ≡ x = cc in
          ap (λ n. n ∷ []) (eqb-true b entry.0 e) ∙ (sym all.0 ∙ ap text same)
      go false e more h = more h

  letter_text : (table : List (ℕ × X)) → Texted table → (c : List ℕ) (x : X) → letter_of table c ≡ Some x → c ≡ text x
  letter_text table all [] x h = absurd cc
  letter_text table all (b ∷ []) x h = named_text table all b x h
  letter_text table all (b ∷ d ∷ bs) x h = absurd cc

  right_letter : (table : List (ℕ × X)) → Texted table → (x : X) (c : List ℕ) → fault_of (letter_in table) c ≡ None → c ≡ text (letter_else x table c)
  right_letter table all x c h = go (letter_of table c) refl (unless_right (is_some (letter_of table c)) (blank_or UnknownLetter c) (sym (fault_of-letter table c) ∙ h))
    where
      go : (o : Option X) → letter_of table c ≡ o → is_some (letter_of table c) ≡ true → c ≡ text (letter_else x table c)
      go None e t = let no : is_some {T = X} None ≡ true = ap is_some (sym e) ∙ t in absurd cc
      go (Some y) e t = letter_text table all c y e ∙ ap text (sym (ap (λ o. unwrap_or o x) e))

abbrev form_text : Form → List ℕ
form_text Entry = codes "E"
form_text Cancellation = codes "C"
form_text RetailEntry = codes "R"
form_text Telling = codes "T"
form_text PhaseChange = codes "P"
form_text Approval = codes "A"
form_text Withdrawal = codes "W"
form_text Exception = codes "X"
form_text Lifting = codes "L"
form_text Routing = codes "S"
form_text Identifier = codes "I"

right_form : (form : Form) (c : List ℕ) → letter_of call_letters c ≡ Some form → c ≡ form_text form
right_form form c h = letter_text form_text call_letters (refl, (refl, (refl, (refl, (refl, (refl, (refl, (refl, (refl, (refl, (refl, tt))))))))))) c form h

right_side : (c : List ℕ) → fault_of (letter_in side_letters) c ≡ None → c ≡ side_text (letter_else Buy side_letters c)
right_side c h = right_letter side_text side_letters (refl, (refl, tt)) Buy c h

right_kind : (c : List ℕ) → fault_of (letter_in kind_letters) c ≡ None → c ≡ kind_text (letter_else Rpi kind_letters c)
right_kind c h = right_letter kind_text kind_letters (refl, (refl, (refl, tt))) Rpi c h

right_type : (c : List ℕ) → fault_of (letter_in retail_letters) c ≡ None → c ≡ retail_text (letter_else One retail_letters c)
right_type c h = right_letter retail_text retail_letters (refl, (refl, (refl, tt))) One c h

right_event : (c : List ℕ) → fault_of (letter_in phase_letters) c ≡ None → c ≡ phase_text (letter_else Opening phase_letters c)
right_event c h = right_letter phase_text phase_letters (refl, (refl, (refl, tt))) Opening c h

-- ALL FIELDS

-- Each field is right for what is asked of it.
abbrev Right : List Use → List (List ℕ) → Type 0
Right us cs = (at : ℕ) → fault_of (get_or us at Unused) (get_or cs at []) ≡ None

all_right : (us : List Use) (cs : List (List ℕ)) (ps : List ℕ) → length cs ≡ length us → length ps ≡ length us → first_fault us cs ps ≡ None → Right us cs
all_right [] [] ps a b h at = refl
all_right [] (c ∷ cs) ps a b h at = absurd (omega (arith, a))
all_right (u ∷ us) [] ps a b h at = absurd (omega (arith, a))
all_right (u ∷ us) (c ∷ cs) [] a b h at = absurd (omega (arith, b))
all_right (u ∷ us) (c ∷ cs) (p ∷ ps) a b h at = go (fault_of u c) refl (all_right us cs ps (omega (arith, a)) (omega (arith, b))) h at
  where
    go : (o : Option FaultKind) → fault_of u c ≡ o → (first_fault us cs ps ≡ None → Right us cs) → or_later p o (first_fault us cs ps) ≡ None → Right (u ∷ us) (c ∷ cs)
    go None e more h zero = e
    go None e more h (suc at) = more h at
    go (Some kind) e more h at = absurd cc

-- the call letter's field, and the seven after it
module _ (c : List ℕ) (cs : List (List ℕ)) (seven : length cs ≡ 7) where
  abbrev all : List (List ℕ)
  all = c ∷ cs

  -- a number, and nothing after it
  only_who : (form : Form) → letter_of call_letters c ≡ Some form → Right (uses Approval) cs → SameFields all (form_text form ∷ decimal (number_in (field 1 all)) ∷ [] ∷ [] ∷ [] ∷ [] ∷ [] ∷ [] ∷ [])
  only_who form l r = record {
    count = omega (arith, seven);
    call = right_form form c l;
    who = right_number _ (r 0);
    side = right_blank _ (r 1);
    kind = right_blank _ (r 2);
    price = inl (right_blank _ (r 3));
    offset = inl (right_blank _ (r 4));
    shares = inl (right_blank _ (r 5));
    reference = inl (right_blank _ (r 6));
  }

  tells : letter_of call_letters c ≡ Some Telling → Right (uses Telling) cs → Spells all (meaning Telling all)
  tells l r = go (blank_or_number (field 4 all) (r 3))
    where
      go : (field 4 all ≡ []) ⊎ SameBytesOrNumber (field 4 all) (decimal (number_in (field 4 all))) → Spells all (meaning Telling all)
      go (inr is) = inl (record {
        count = omega (arith, seven);
        call = right_form Telling c l;
        who = right_number _ (r 0);
        side = right_side _ (r 1);
        kind = right_blank _ (r 2);
        price = is;
        offset = inl (right_blank _ (r 4));
        shares = right_number _ (r 5);
        reference = inl (right_blank _ (r 6));
      })
      go (inl none) = inr (
        record { centre = number_in (field 1 all); side = side all; price = number_in (field 4 all); size = number_in (field 6 all) },
        refl,
        ap number_in none,
        record {
          count = omega (arith, seven);
          call = right_form Telling c l;
          who = right_number _ (r 0);
          side = right_side _ (r 1);
          kind = right_blank _ (r 2);
          price = inl none;
          offset = inl (right_blank _ (r 4));
          shares = right_number _ (r 5);
          reference = inl (right_blank _ (r 6));
        },
      )

  by_form : (form : Form) → letter_of call_letters c ≡ Some form → Right (uses form) cs → Spells all (meaning form all)
  by_form Entry l r = inl (record {
    count = omega (arith, seven);
    call = right_form Entry c l;
    who = right_number _ (r 0);
    side = right_side _ (r 1);
    kind = right_kind _ (r 2);
    price = right_number _ (r 3);
    offset = right_offset _ (r 4);
    shares = right_number _ (r 5);
    reference = inl (right_blank _ (r 6));
  })
  by_form Cancellation l r = inl (record {
    count = omega (arith, seven);
    call = right_form Cancellation c l;
    who = right_number _ (r 0);
    side = right_blank _ (r 1);
    kind = right_blank _ (r 2);
    price = inl (right_blank _ (r 3));
    offset = inl (right_blank _ (r 4));
    shares = inl (right_blank _ (r 5));
    reference = right_number _ (r 6);
  })
  by_form RetailEntry l r = inl (record {
    count = omega (arith, seven);
    call = right_form RetailEntry c l;
    who = right_number _ (r 0);
    side = right_side _ (r 1);
    kind = right_type _ (r 2);
    price = right_number _ (r 3);
    offset = inl (right_blank _ (r 4));
    shares = right_number _ (r 5);
    reference = inl (right_blank _ (r 6));
  })
  by_form Telling l r = tells l r
  by_form PhaseChange l r = inl (record {
    count = omega (arith, seven);
    call = right_form PhaseChange c l;
    who = inl (right_blank _ (r 0));
    side = right_blank _ (r 1);
    kind = right_event _ (r 2);
    price = inl (right_blank _ (r 3));
    offset = inl (right_blank _ (r 4));
    shares = inl (right_blank _ (r 5));
    reference = inl (right_blank _ (r 6));
  })
  by_form Approval l r = inl (only_who Approval l r)
  by_form Withdrawal l r = inl (only_who Withdrawal l r)
  by_form Exception l r = inl (only_who Exception l r)
  by_form Lifting l r = inl (only_who Lifting l r)
  by_form Routing l r = inl (record {
    count = omega (arith, seven);
    call = right_form Routing c l;
    who = inl (right_blank _ (r 0));
    side = right_blank _ (r 1);
    kind = right_blank _ (r 2);
    price = inl (right_blank _ (r 3));
    offset = inl (right_blank _ (r 4));
    shares = right_number _ (r 5);
    reference = right_number _ (r 6);
  })
  by_form Identifier l r = inl (record {
    count = omega (arith, seven);
    call = right_form Identifier c l;
    who = inl (right_blank _ (r 0));
    side = right_blank _ (r 1);
    kind = right_blank _ (r 2);
    price = inl (right_blank _ (r 3));
    offset = inl (right_blank _ (r 4));
    shares = inl (right_blank _ (r 5));
    reference = inl (right_blank _ (r 6));
  })

eight : (form : Form) (cs : List (List ℕ)) (ps : List ℕ) → length cs ≡ 8 → length ps ≡ 8 → letter_of call_letters (field 0 cs) ≡ Some form → first_fault (uses form) (drop 1 cs) (drop 1 ps) ≡ None → Spells cs (meaning form cs)
eight form [] ps a b l h = absurd (omega (arith, a))
eight form (c ∷ cs) [] a b l h = absurd (omega (arith, b))
eight form (c ∷ cs) (p ∷ ps) a b l h = by_form c cs (omega (arith, a)) form l (all_right (uses form) cs ps (omega (arith, a, uses_seven form)) (omega (arith, b, uses_seven form)) h)

-- a line that is read is what its form means
spelled_by : (o : Option Form) (cs : List (List ℕ)) (ps : List ℕ) (line : Line) → length cs ≡ 8 → length ps ≡ 8 → letter_of call_letters (field 0 cs) ≡ o → read_by o cs ps ≡ Ok line → Spells cs line
spelled_by None cs ps line a b l h = absurd cc
spelled_by (Some form) cs ps line a b l h = go (first_fault (uses form) (drop 1 cs) (drop 1 ps)) refl h
  where
    go : (o : Option Fault) → first_fault (uses form) (drop 1 cs) (drop 1 ps) ≡ o → fault_else o (meaning form cs) ≡ Ok line → Spells cs line
    go None e h = let same : meaning form cs ≡ line = cc in subst (Spells cs) same (eight form cs ps a b l e)
    go (Some fault) e h = absurd cc

pub read_spelled : (text : List ℕ) (line : Line) → read_line text ≡ Ok line → Spells (cells text) line
read_spelled text line h = go (nat_le (length text) 120 && eqb (length (cells text)) 8) refl h
  where
    go : (t : Bool) → (nat_le (length text) 120 && eqb (length (cells text)) 8) ≡ t → cond t (read_fields (cells text) (places 1 (cells text))) (Err bad_line) ≡ Ok line → Spells (cells text) line
    go true e h =
        let eight_fields = eqb-true (length (cells text)) 8 (and_parts (nat_le (length text) 120) (eqb (length (cells text)) 8) e).1 in
        spelled_by (letter_of call_letters (field 0 (cells text))) (cells text) (places 1 (cells text)) line eight_fields (length-places 1 (cells text) ∙ eight_fields) refl h
    go false e h = absurd cc
