-- What fills leave of the orders, one fill after another, and what the queues know of the order of a number
use Rattle.std.proofs.Common.{◌≡◌, ℕ, ◌+◌, ◌-◌, ◌<◌, ◌≤◌, true, cond, eqb, List, [], ◌∷◌, ◌++◌, get_or, set, Some, None, vec_items, Option, sym, refl, ap, ◌∙◌, subst, arith}
use Rattle.std.specs.List.{AllByRecursion as Each, position, remove}
use Rattle.std.proofs.lemmas.Bool.{eq-eqb, eqb-true, ne_eqb}
use Rattle.std.proofs.lemmas.List.Quantifiers.{position-Some}
use Rattle.terms.specs.declared.orders.Fill.{Fill}
use Rattle.terms.specs.declared.orders.RestingOrder.{RestingOrder}
use Rattle.rules.specs.Lists.{Distinct, and_then, any, picked}
use Rattle.rules.specs.Rules.{after_fill, filled_to, with_shares}
use Rattle.rules.proofs.Members.{all_of, sum_push}
use Rattle.rules.proofs.Perms.{perm_sort, perm_sym, all_perm, distinct_perm}
use Rattle.rules.proofs.Picks.{distinct_right}
use Rattle.rules.proofs.Taken.{after_cases}
use Rattle.queues.specs.declared.side.SideQueues.{SideQueues}
use Rattle.queues.specs.Queues.{Lined, first_by_offset, unless_number}
use Rattle.queues.proofs.Enters.{front, back}
use Rattle.queues.proofs.Places.{Lacks, any_other, left_out, none_picked, put_in}
use Rattle.queues.proofs.Testing.{lined_from, some_from}

-- FILLS

-- An order of a share or more that has none of the fills stays as it is.
pub untouched : (fs : List Fill) (o : RestingOrder) → 1 ≤ o.shares → filled_to fs o.number ≡ 0 → after_fill fs o ≡ Some o
untouched fs o some none =
    after_cases (λ m. m ≡ Some o) fs o
    (λ le. absurd (omega (arith, some, none, le)))
    (λ _. let all : o.shares - filled_to fs o.number ≡ o.shares = omega (arith, none) in ap (λ n. Some (with_shares o n)) all)

pub unfilled : (fs : List Fill) (xs : List RestingOrder) → Each (λ o. 1 ≤ o.shares) xs → Each (λ o. filled_to fs o.number ≡ 0) xs → xs ≡ picked (after_fill fs) xs
unfilled fs [] h k = refl
unfilled fs (x ∷ xs) h k = sym (ap (λ r. and_then r (picked (after_fill fs) xs)) (untouched fs x h.0 k.0) ∙ ap (λ l. x ∷ l) (sym (unfilled fs xs h.1 k.1)))

-- before the first fill
pub none_yet : (xs : List RestingOrder) → Each (λ o. 1 ≤ o.shares) xs → xs ≡ picked (after_fill []) xs
none_yet xs h = unfilled [] xs h (all_of (λ _. 0 ≡ 0) (λ _. refl) xs)

module _ (fs : List Fill) (f : Fill) where
  filled_more : (n : ℕ) → filled_to (fs ++ f ∷ []) n ≡ filled_to fs n + filled_to (f ∷ []) n
  filled_more n = omega (arith, sum_push (λ g. cond (eqb g.number n) g.shares 0) fs f)

  -- what a further fill leaves of what the first ones left is what all leave
  one_more : (o : RestingOrder) (ys : List RestingOrder) → picked (after_fill (f ∷ [])) (and_then (after_fill fs o) ys) ≡ and_then (after_fill (fs ++ f ∷ []) o) (picked (after_fill (f ∷ [])) ys)
  one_more o ys =
      let rest = picked (after_fill (f ∷ [])) ys in
      after_cases (λ m. picked (after_fill (f ∷ [])) (and_then m ys) ≡ and_then (after_fill (fs ++ f ∷ []) o) rest) fs o
      (λ le.
      after_cases (λ m. rest ≡ and_then m rest) (fs ++ f ∷ []) o
      (λ _. refl)
      (λ less. absurd (omega (arith, le, less, filled_more o.number))))
      (λ less.
      let same : o.shares - filled_to fs o.number - filled_to (f ∷ []) o.number ≡ o.shares - filled_to (fs ++ f ∷ []) o.number = omega (arith, filled_more o.number) in
      ap (λ n. and_then (cond (eqb n 0) None (Some (with_shares o n))) rest) same)

  pub settled_more : (xs : List RestingOrder) → picked (after_fill (f ∷ [])) (picked (after_fill fs) xs) ≡ picked (after_fill (fs ++ f ∷ [])) xs
  settled_more [] = refl
  settled_more (x ∷ xs) = one_more x (picked (after_fill fs) xs) ∙ ap (and_then (after_fill (fs ++ f ∷ []) x)) (settled_more xs)

-- a fill of another number
pub other_fill : (f : Fill) (o : RestingOrder) → 1 ≤ o.shares → (o.number ≡ f.number → ⊥) → after_fill (f ∷ []) o ≡ Some o
other_fill f o some ne =
    untouched (f ∷ []) o some (ap (λ b. cond b f.shares 0 + 0) (ne_eqb f.number o.number (λ e. ne (sym e))))

pub other_number : (n : ℕ) (o : RestingOrder) → Unit {0} → (o.number ≡ n → ⊥) → unless_number n o ≡ Some o
other_number n o _ ne = ap (λ b. cond b None (Some o)) (ne_eqb o.number n ne)

-- the order of a fill's number leaves if it is filled whole, and rests with less if not
module _ (f : Fill) (xs : List RestingOrder) (i : ℕ) (o : RestingOrder) (place : position (λ x. eqb x.number f.number) xs ≡ Some i) (is : o ≡ get_or xs i o)
    (apart : Distinct (λ x. x.number) xs) (some : Each (λ x. 1 ≤ x.shares) xs) where
  its : o.number ≡ f.number
  its = eqb-true o.number f.number (subst (λ x. eqb x.number f.number ≡ true) (sym is) (position-Some (λ x. eqb x.number f.number) xs i o place).1)

  own : filled_to (f ∷ []) o.number ≡ f.shares
  own = ap (λ b. cond b f.shares 0 + 0) (eq-eqb f.number o.number (sym its)) ∙ omega arith

  pub gives_whole : o.shares ≤ f.shares → remove xs i ≡ picked (after_fill (f ∷ [])) xs
  gives_whole le =
      left_out (λ x. x.number) f.number (λ x. 1 ≤ x.shares) (after_fill (f ∷ [])) (other_fill f) xs i o place apart some
      (ap (after_fill (f ∷ [])) (sym is)
      ∙ after_cases (λ m. m ≡ None) (f ∷ []) o (λ _. refl) (λ less. absurd (omega (arith, less, own, le))))

  pub gives_part : f.shares < o.shares → set xs i (with_shares o (o.shares - f.shares)) ≡ picked (after_fill (f ∷ [])) xs
  gives_part lt =
      put_in (λ x. x.number) f.number (λ x. 1 ≤ x.shares) (after_fill (f ∷ [])) (other_fill f) xs i o place apart some (with_shares o (o.shares - f.shares))
      (ap (after_fill (f ∷ [])) (sym is)
      ∙ after_cases (λ m. m ≡ Some (with_shares o (o.shares - f.shares))) (f ∷ []) o
      (λ le. absurd (omega (arith, le, own, lt)))
      (λ _. ap (λ n. Some (with_shares o (o.shares - n))) own))

-- so does the order of a number
pub takes_out : (n : ℕ) (xs : List RestingOrder) (i : ℕ) (o : RestingOrder) → position (λ x. eqb x.number n) xs ≡ Some i → Distinct (λ x. x.number) xs → remove xs i ≡ picked (unless_number n) xs
takes_out n xs i o place apart =
    left_out (λ x. x.number) n (λ _. Unit {0}) (unless_number n) (other_number n) xs i o place apart (all_of (λ _. Unit {0}) (λ _. tt) xs)
    (ap (λ b. cond b None (Some (get_or xs i o))) (position-Some (λ x. eqb x.number n) xs i o place).1)

-- QUEUES

distinct_left : {X : Type 0} (key : X → ℕ) (xs ys : List X) → Distinct key (xs ++ ys) → Distinct key xs
distinct_left key [] ys h = tt
distinct_left key (x ∷ xs) ys h = (front (λ y. key y ≡ key x → ⊥) xs ys h.0, distinct_left key xs ys h.1)

module _ (h : SideQueues) where
  abbrev p : List RestingOrder
  p = vec_items h.fixed

  abbrev q : List RestingOrder
  q = vec_items h.following

  abbrev a : List RestingOrder
  a = vec_items h.by_offset

  lined : Lined h.side p q a
  lined = lined_from h.side p q a h.lined h.again

  pub apart_fixed : Distinct (λ o. o.number) (vec_items h.fixed)
  apart_fixed = distinct_left (λ o. o.number) p q lined.apart

  pub apart_following : Distinct (λ o. o.number) (vec_items h.following)
  apart_following = distinct_right (λ o. o.number) p q lined.apart

  pub apart_again : Distinct (λ o. o.number) (vec_items h.by_offset)
  apart_again = subst (Distinct (λ o. o.number)) (sym h.again) (distinct_perm (λ o. o.number) (perm_sym (perm_sort first_by_offset q)) apart_following)

  -- what holds of the second queue holds of the third
  pub each_again : (P : RestingOrder → Type 0) → Each P (vec_items h.following) → Each P (vec_items h.by_offset)
  each_again P k = subst (Each P) (sym h.again) (all_perm P (perm_sym (perm_sort first_by_offset q)) k)

  pub some_orders : Each (λ o. 1 ≤ o.shares) (vec_items h.fixed ++ vec_items h.following)
  some_orders = some_from (p ++ q) h.some

  pub some_fixed : Each (λ o. 1 ≤ o.shares) (vec_items h.fixed)
  some_fixed = front (λ o. 1 ≤ o.shares) p q some_orders

  pub some_following : Each (λ o. 1 ≤ o.shares) (vec_items h.following)
  some_following = back (λ o. 1 ≤ o.shares) p q some_orders

  pub some_again : Each (λ o. 1 ≤ o.shares) (vec_items h.by_offset)
  some_again = each_again (λ o. 1 ≤ o.shares) some_following

  -- If the order of a number is in the first queue, what changes it alone leaves the others.
  module _ (P : RestingOrder → Type 0) (f : RestingOrder → Option RestingOrder) (n : ℕ) (stays : (o : RestingOrder) → P o → (o.number ≡ n → ⊥) → f o ≡ Some o)
      (each : Each P (vec_items h.following)) (here : any (λ o. eqb o.number n) (vec_items h.fixed) ≡ true) where
    lacks : Lacks (λ o. o.number) n q
    lacks = any_other (λ o. o.number) n p q lined.apart here

    pub same_following : vec_items h.following ≡ picked f (vec_items h.following)
    same_following = sym (none_picked (λ o. o.number) n P f stays q each lacks)

    pub same_again : vec_items h.by_offset ≡ picked f (vec_items h.by_offset)
    same_again = sym (none_picked (λ o. o.number) n P f stays a (each_again P each) (each_again (λ o. o.number ≡ n → ⊥) lacks))
