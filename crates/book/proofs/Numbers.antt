-- The orders of both sides in the order of their numbers: how entries, look-ups and cancellations on the sides show in them
use Rattle.std.proofs.Common.{◌≡◌, ℕ, ◌+◌, ◌<◌, Bool, true, false, cond, not, ◌||◌, eqb, List, [], ◌∷◌, ◌++◌, length, Some, None, filter, Option, sym, refl, ap, ◌∙◌, arith}
use Rattle.std.specs.List.{AllByRecursion as Each}
use Rattle.std.specs.Option.{MatchOption}
use Rattle.std.proofs.ByRecursion.{All-weaker, all_kept_by}
use Rattle.std.proofs.lemmas.List.{length-append, append-nil}
use Rattle.std.proofs.lemmas.Bool.{cond_both, cond-false, eqb-true, eqb-false, ne_eqb, le-ltb, and_left}
use Rattle.std.proofs.lemmas.Bool.Decides.{nat_tests}
use Rattle.terms.specs.declared.orders.RestingOrder.{RestingOrder}
use Rattle.terms.specs.Words.{only_if}
use Rattle.rules.specs.Lists.{sort, insert, picked, and_then, found, any, present, Distinct}
use Rattle.rules.specs.Sorted.{Sorted, Perm}
use Rattle.rules.specs.Sorted.Perm.{perm_nil, perm_cons, perm_swap, perm_trans}
use Rattle.rules.proofs.Sorting.{Strict, sorted_sort, all_sort}
use Rattle.rules.proofs.Perms.{perm_sym, perm_is, perm_middle, perm_sort, perm_picked, all_perm, distinct_perm, unique_perm, sort_perm}
use Rattle.rules.proofs.Members.{distinct_kept}
use Rattle.laws.specs.Book.{is_order}
use Rattle.rules.proofs.Finds.{any_append, found_left, found_right}
use Rattle.queues.proofs.Enters.{length_same}
use Rattle.queues.specs.Queues.{unless_number}
use Rattle.book.specs.BookState.{by_number, resting_of}

-- each number stands once
abbrev pub OneEach : List RestingOrder → Type 0
OneEach os = Distinct (λ o. o.number) os

-- the order of this number
abbrev pub numbered : ℕ → RestingOrder → Bool
numbered n o = eqb o.number n

pub by_number_strict : Strict by_number (λ o. o.number)
by_number_strict = record {
  never = λ a. grind (arith, nat_tests);
  trans = λ a b c h k. grind (arith, nat_tests);
  total = λ a b ne h. grind (arith, nat_tests);
}

-- ALL THE ORDERS

pub resting_length : (buys sells : List RestingOrder) → length (resting_of buys sells) ≡ length buys + length sells
resting_length buys sells = length_same (perm_sort by_number (buys ++ sells)) ∙ length-append buys sells

pub all_resting : (P : RestingOrder → Type 0) (buys sells : List RestingOrder) → Each P (buys ++ sells) → Each P (resting_of buys sells)
all_resting P buys sells h = all_sort by_number P (buys ++ sells) h

-- ENTRY

-- the greatest number comes last
insert_greatest : (o : RestingOrder) (xs : List RestingOrder) → Each (λ x. x.number < o.number) xs → insert by_number o xs ≡ xs ++ o ∷ []
insert_greatest o [] h = refl
insert_greatest o (x ∷ xs) h =
    cond-false (by_number o x) (o ∷ x ∷ xs) (x ∷ insert by_number o xs) (le-ltb o.number x.number (omega (arith, h.0))) ∙
    ap (λ l. x ∷ l) (insert_greatest o xs h.1)

pub resting_push : (o : RestingOrder) (xs ys : List RestingOrder) → OneEach xs → Each (λ x. x.number < o.number) xs → Perm (o ∷ xs) ys
    → sort by_number ys ≡ sort by_number xs ++ o ∷ []
resting_push o xs ys d h p =
    let new : OneEach (o ∷ xs) = (All-weaker (λ x. x.number < o.number) (λ x. x.number ≡ o.number → ⊥) (λ x l e. omega arith) xs h, d) in
    sym (sort_perm by_number (λ x. x.number) by_number_strict new p) ∙
    insert_greatest o (sort by_number xs) (all_sort by_number (λ x. x.number < o.number) xs h)

-- WHETHER ANY PASSES

module _ {X : Type 0} (p : X → Bool) where
  pub any_perm : {xs ys : List X} → Perm xs ys → any p xs ≡ any p ys
  any_perm perm_nil = refl
  any_perm (perm_cons {x} q) = ap (λ b. cond (p x) true b) (any_perm q)
  any_perm (perm_swap {x} {y} {xs}) = swap (p x) (p y) (any p xs)
    where
      swap : (a b c : Bool) → cond a true (cond b true c) ≡ cond b true (cond a true c)
      swap true true c = refl
      swap true false c = refl
      swap false b c = refl
  any_perm (perm_trans q r) = any_perm q ∙ any_perm r

  pub any_found : (xs : List X) → any p xs ≡ present (found p xs)
  any_found [] = refl
  any_found (x ∷ xs) = go (p x) (any_found xs)
    where
      go : (b : Bool) → any p xs ≡ present (found p xs) → cond b true (any p xs) ≡ present (cond b (Some x) (found p xs))
      go true ih = refl
      go false ih = ih

  -- nothing is found exactly where each fails
  none_fails : (xs : List X) → found p xs ≡ None → Each (λ x. p x ≡ false) xs
  none_fails [] h = tt
  none_fails (x ∷ xs) h = go (p x) refl h (none_fails xs)
    where
      go : (b : Bool) → p x ≡ b → cond b (Some x) (found p xs) ≡ None → (found p xs ≡ None → Each (λ x. p x ≡ false) xs) → Each (λ x. p x ≡ false) (x ∷ xs)
      go true e h ih = absurd cc
      go false e h ih = (e, ih h)

  fails_none : (xs : List X) → Each (λ x. p x ≡ false) xs → found p xs ≡ None
  fails_none [] h = refl
  fails_none (x ∷ xs) h = cond-false (p x) (Some x) (found p xs) h.0 ∙ fails_none xs h.1

  sorted_kept : (lt : X → X → Bool) (xs : List X) → Sorted lt xs → Sorted lt (filter p xs)
  sorted_kept lt [] s = tt
  sorted_kept lt (x ∷ xs) s =
      cond_both (p x) (x ∷ filter p xs) (filter p xs) (Sorted lt)
      (λ _. (all_kept_by p (λ y. lt x y ≡ true) xs s.0, sorted_kept lt xs s.1))
      (λ _. sorted_kept lt xs s.1)

  -- a test that answers the same of each
  module _ (q : X → Bool) where
    found_same : (xs : List X) → Each (λ x. p x ≡ q x) xs → found p xs ≡ found q xs
    found_same [] h = refl
    found_same (x ∷ xs) h = let e = h.0 in let f = found_same xs h.1 in cc

    kept_same : (xs : List X) → Each (λ x. p x ≡ q x) xs → filter (λ x. not (p x)) xs ≡ filter (λ x. not (q x)) xs
    kept_same [] h = refl
    kept_same (x ∷ xs) h = let e = h.0 in let f = kept_same xs h.1 in cc

pub any_resting : (p : RestingOrder → Bool) (buys sells : List RestingOrder) → any p (resting_of buys sells) ≡ (any p buys || any p sells)
any_resting p buys sells = any_perm p (perm_sort by_number (buys ++ sells)) ∙ any_append p buys sells

-- FINDING BY NUMBER

-- no order of this number
abbrev pub Lacks : ℕ → List RestingOrder → Type 0
Lacks n os = Each (λ o. o.number ≡ n → ⊥) os

module _ (n : ℕ) where
  -- where each number stands once, the order of a number is found wherever it stands
  pub found_perm : {xs ys : List RestingOrder} → OneEach xs → Perm xs ys → found (numbered n) xs ≡ found (numbered n) ys
  found_perm d perm_nil = refl
  found_perm d (perm_cons {x} p) = ap (cond (numbered n x) (Some x)) (found_perm d.1 p)
  found_perm d (perm_swap {x} {y} {xs}) = grind (arith, nat_tests, d.0.0)
  found_perm d (perm_trans p q) = found_perm d p ∙ found_perm (distinct_perm (λ o. o.number) p d) q

  pub found_resting : (buys sells : List RestingOrder) → OneEach (buys ++ sells) → found (numbered n) (buys ++ sells) ≡ found (numbered n) (resting_of buys sells)
  found_resting buys sells d = found_perm d (perm_sym (perm_sort by_number (buys ++ sells)))

  -- looked for on the one side, and then on the other
  pub found_either : (buys sells : List RestingOrder) (f r : Option RestingOrder) {P : Type 0} → OneEach (buys ++ sells) → f ≡ found (numbered n) buys → MatchOption f P (λ o. r ≡ Some o)
      → (P → r ≡ found (numbered n) sells) → r ≡ found (numbered n) (resting_of buys sells)
  found_either buys sells None r d e h other = other h ∙ (sym (found_right (numbered n) buys sells (sym e)) ∙ found_resting buys sells d)
  found_either buys sells (Some o) r d e h other = h ∙ (sym (found_left (numbered n) buys sells o (sym e)) ∙ found_resting buys sells d)

  -- the orders after the one of a number have other numbers
  behind : (x : RestingOrder) (xs : List RestingOrder) → x.number ≡ n → Each (λ y. y.number ≡ x.number → ⊥) xs → Lacks n xs
  behind x xs e h = All-weaker (λ y. y.number ≡ x.number → ⊥) (λ y. y.number ≡ n → ⊥) (λ y ne q. ne (q ∙ sym e)) xs h

  -- the one found is the only one of its number
  pub only_found : (xs : List RestingOrder) (o : RestingOrder) → OneEach xs → found (numbered n) xs ≡ Some o → Each (λ x. x.number ≡ n → x ≡ o) xs
  only_found [] o d h = tt
  only_found (x ∷ xs) o d h = go (numbered n x) refl h (only_found xs o d.1)
    where
      go : (b : Bool) → numbered n x ≡ b → cond b (Some x) (found (numbered n) xs) ≡ Some o
          → (found (numbered n) xs ≡ Some o → Each (λ x. x.number ≡ n → x ≡ o) xs) → Each (λ x. x.number ≡ n → x ≡ o) (x ∷ xs)
      go true e h ih =
          ((λ _. cc), All-weaker (λ y. y.number ≡ n → ⊥) (λ y. y.number ≡ n → y ≡ o) (λ y ne q. absurd (ne q)) xs (behind x xs (eqb-true x.number n e) d.0))
      go false e h ih = ((λ q. absurd (eqb-false x.number n e q)), ih h)

module _ (member n : ℕ) where
  -- where the one order of a number is the member's, asking for the member changes nothing
  same_order : (o : RestingOrder) (xs : List RestingOrder) → o.member ≡ member → Each (λ x. x.number ≡ n → x ≡ o) xs → Each (λ x. is_order member n x ≡ numbered n x) xs
  same_order o xs e h =
      All-weaker (λ x. x.number ≡ n → x ≡ o) (λ x. is_order member n x ≡ numbered n x)
      (λ x only. let own : x.number ≡ n → x.member ≡ member = λ q. ap (λ v. v.member) (only q) ∙ e in grind (arith, nat_tests)) xs h

  pub found_order : (buys sells : List RestingOrder) (o : RestingOrder) → OneEach (buys ++ sells) → found (numbered n) (buys ++ sells) ≡ Some o
      → found (is_order member n) (resting_of buys sells) ≡ only_if (eqb o.member member) (Some o)
  found_order buys sells o d h = go (resting_of buys sells) (perm_sym (perm_sort by_number (buys ++ sells))) (eqb o.member member) refl
    where
      only : (xs : List RestingOrder) → Perm (buys ++ sells) xs → Each (λ x. x.number ≡ n → x ≡ o) xs
      only xs p = all_perm (λ x. x.number ≡ n → x ≡ o) p (only_found n (buys ++ sells) o d h)

      go : (xs : List RestingOrder) → Perm (buys ++ sells) xs → (b : Bool) → eqb o.member member ≡ b → found (is_order member n) xs ≡ only_if b (Some o)
      go xs p true e =
          found_same (is_order member n) (numbered n) xs (same_order o xs (eqb-true o.member member e) (only xs p)) ∙ (sym (found_perm n d p) ∙ h)
      go xs p false e =
          fails_none (is_order member n) xs
          (All-weaker (λ x. x.number ≡ n → x ≡ o) (λ x. is_order member n x ≡ false)
          (λ x one. let other : x.number ≡ n → eqb x.member member ≡ false = λ q. ap (λ v. eqb v.member member) (one q) ∙ e in grind (arith, nat_tests)) xs (only xs p))

  pub found_none : (buys sells : List RestingOrder) → found (numbered n) (buys ++ sells) ≡ None → found (is_order member n) (resting_of buys sells) ≡ None
  found_none buys sells h =
      fails_none (is_order member n) (resting_of buys sells)
      (all_resting (λ x. is_order member n x ≡ false) buys sells
      (All-weaker (λ x. numbered n x ≡ false) (λ x. is_order member n x ≡ false) (λ x e. and_left (numbered n x) (eqb x.member member) e) (buys ++ sells)
      (none_fails (numbered n) (buys ++ sells) h)))

-- CANCELLATION

module _ (n : ℕ) where
  kept_picked : (xs : List RestingOrder) → filter (λ x. not (numbered n x)) xs ≡ picked (unless_number n) xs
  kept_picked [] = refl
  kept_picked (x ∷ xs) = go (numbered n x) (kept_picked xs)
    where
      go : (b : Bool) → filter (λ x. not (numbered n x)) xs ≡ picked (unless_number n) xs
          → cond (not b) (x ∷ filter (λ x. not (numbered n x)) xs) (filter (λ x. not (numbered n x)) xs) ≡ and_then (cond b None (Some x)) (picked (unless_number n) xs)
      go true ih = ih
      go false ih = ap (λ l. x ∷ l) ih

  pub picked_lacks : (xs : List RestingOrder) → Lacks n xs → picked (unless_number n) xs ≡ xs
  picked_lacks [] h = refl
  picked_lacks (x ∷ xs) h =
      ap (λ b. and_then (cond b None (Some x)) (picked (unless_number n) xs)) (ne_eqb x.number n h.0) ∙ ap (λ l. x ∷ l) (picked_lacks xs h.1)

  -- taking one out of the sorted orders is sorting the others
  kept_sort : (xs : List RestingOrder) → OneEach xs → filter (λ x. not (numbered n x)) (sort by_number xs) ≡ sort by_number (picked (unless_number n) xs)
  kept_sort xs d =
      let stay = λ (x : RestingOrder). not (numbered n x) in
      let key = λ (x : RestingOrder). x.number in
      let same : Perm (filter stay (sort by_number xs)) (filter stay xs) =
      perm_trans (perm_is (kept_picked (sort by_number xs))) (perm_trans (perm_picked (unless_number n) (perm_sort by_number xs)) (perm_is (sym (kept_picked xs)))) in
      unique_perm by_number key by_number_strict
      (sorted_kept stay by_number (sort by_number xs) (sorted_sort by_number key by_number_strict xs d))
      (sorted_sort by_number key by_number_strict (filter stay xs) (distinct_kept key stay xs d))
      (perm_trans same (perm_sym (perm_sort by_number (filter stay xs))))
      ∙ ap (sort by_number) (kept_picked xs)

-- the orders of the one side and of the other, in either order
pub perm_around : (xs ys : List RestingOrder) → Perm (xs ++ ys) (ys ++ xs)
perm_around [] ys = perm_is (sym (append-nil ys))
perm_around (x ∷ xs) ys = perm_trans (perm_cons (perm_around xs ys)) (perm_sym (perm_middle ys x xs))

module _ (member n : ℕ) where
  pub cancel_kept : (buys sells : List RestingOrder) (o : RestingOrder) → OneEach (buys ++ sells) → found (numbered n) (buys ++ sells) ≡ Some o → o.member ≡ member
      → filter (λ x. not (is_order member n x)) (resting_of buys sells) ≡ sort by_number (picked (unless_number n) (buys ++ sells))
  cancel_kept buys sells o d h e =
      kept_same (is_order member n) (numbered n) (resting_of buys sells)
      (all_resting (λ x. is_order member n x ≡ numbered n x) buys sells (same_order member n o (buys ++ sells) e (only_found n (buys ++ sells) o d h)))
      ∙ kept_sort n (buys ++ sells) d
