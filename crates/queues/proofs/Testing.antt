-- The queues pass their test exactly if they stand as they should
use Rattle.std.proofs.Common.{◌≡◌, ℕ, ◌≤◌, Bool, true, not, ◌&&◌, eqb, leb, List, [], ◌∷◌, ◌++◌, Some, None, Option, refl, ap, arith}
use Rattle.std.specs.List.{AllByRecursion as Each}
use Rattle.std.proofs.lemmas.Bool.{and_parts, and_from, false≢true, not-true, not_from_false, eqb-false, ne_eqb, leb-true, le-leb}
use Rattle.terms.specs.declared.market.Side.{Side}
use Rattle.terms.specs.declared.market.Side.TheVariants.{Buy, Sell}
use Rattle.terms.specs.declared.orders.RestingOrder.{RestingOrder}
use Rattle.terms.specs.Words.{same_side}
use Rattle.rules.specs.Lists.{Distinct, present, sort}
use Rattle.rules.specs.Sorted.{Sorted}
use Rattle.queues.specs.Queues.{Lined, first_by_limit, first_by_offset, every, is_sorted, is_distinct, is_lined}

module _ {X : Type 0} where
  pub every_from : (p : X → Bool) (P : X → Type 0) → ((x : X) → p x ≡ true → P x) → (xs : List X) → every p xs ≡ true → Each P xs
  every_from p P f [] h = tt
  every_from p P f (x ∷ xs) h = let k = and_parts (p x) (every p xs) h in (f x k.0, every_from p P f xs k.1)

  pub every_test : (p : X → Bool) (P : X → Type 0) → ((x : X) → P x → p x ≡ true) → (xs : List X) → Each P xs → every p xs ≡ true
  every_test p P f [] h = refl
  every_test p P f (x ∷ xs) h = and_from (p x) (every p xs) (f x h.0) (every_test p P f xs h.1)

  sorted_from : (lt : X → X → Bool) (xs : List X) → is_sorted lt xs ≡ true → Sorted lt xs
  sorted_from lt [] h = tt
  sorted_from lt (x ∷ xs) h =
      let k = and_parts (every (lt x) xs) (is_sorted lt xs) h in
      (every_from (lt x) (λ y. lt x y ≡ true) (λ y e. e) xs k.0, sorted_from lt xs k.1)

  sorted_test : (lt : X → X → Bool) (xs : List X) → Sorted lt xs → is_sorted lt xs ≡ true
  sorted_test lt [] h = refl
  sorted_test lt (x ∷ xs) h =
      and_from (every (lt x) xs) (is_sorted lt xs) (every_test (lt x) (λ y. lt x y ≡ true) (λ y e. e) xs h.0) (sorted_test lt xs h.1)

  module _ (key : X → ℕ) where
    pub distinct_from : (xs : List X) → is_distinct key xs ≡ true → Distinct key xs
    distinct_from [] h = tt
    distinct_from (x ∷ xs) h =
        let k = and_parts (every (λ y. not (eqb (key y) (key x))) xs) (is_distinct key xs) h in
        (every_from (λ y. not (eqb (key y) (key x))) (λ y. key y ≡ key x → ⊥) (λ y e. eqb-false (key y) (key x) (not-true (eqb (key y) (key x)) e)) xs k.0, distinct_from xs k.1)

    pub distinct_test : (xs : List X) → Distinct key xs → is_distinct key xs ≡ true
    distinct_test [] h = refl
    distinct_test (x ∷ xs) h =
        and_from (every (λ y. not (eqb (key y) (key x))) xs) (is_distinct key xs)
        (every_test (λ y. not (eqb (key y) (key x))) (λ y. key y ≡ key x → ⊥) (λ y ne. not_from_false (eqb (key y) (key x)) (ne_eqb (key y) (key x) ne)) xs h.0)
        (distinct_test xs h.1)

pub some_from : (os : List RestingOrder) → every (λ o. leb 1 o.shares) os ≡ true → Each (λ o. 1 ≤ o.shares) os
some_from os h = every_from (λ o. leb 1 o.shares) (λ o. 1 ≤ o.shares) (λ o. leb-true 1 o.shares) os h

pub some_test : (os : List RestingOrder) → Each (λ o. 1 ≤ o.shares) os → every (λ o. leb 1 o.shares) os ≡ true
some_test os h = every_test (λ o. leb 1 o.shares) (λ o. 1 ≤ o.shares) (λ o. le-leb 1 o.shares) os h

absent_from : (m : Option ℕ) → not (present m) ≡ true → m ≡ None
absent_from None h = refl
absent_from (Some n) h = let z : ◌≡◌ {A = ℕ} 0 1 = cc in absurd (omega arith)

absent_test : (m : Option ℕ) → m ≡ None → not (present m) ≡ true
absent_test m e = ap (λ v. not (present v)) e

pub some_present : {m : Option ℕ} {n : ℕ} → m ≡ Some n → m ≡ None → ⊥
some_present e k = let z : ◌≡◌ {A = ℕ} 0 1 = cc in omega arith

present_from : (m : Option ℕ) → present m ≡ true → m ≡ None → ⊥
present_from None h = absurd (false≢true h)
present_from (Some n) h = some_present refl

present_test : (m : Option ℕ) → (m ≡ None → ⊥) → present m ≡ true
present_test None n = absurd (n refl)
present_test (Some d) n = refl

pub side_from : (s t : Side) → same_side s t ≡ true → s ≡ t
side_from Buy Buy h = refl
side_from Buy Sell h = let z : ◌≡◌ {A = ℕ} 0 1 = cc in absurd (omega arith)
side_from Sell Buy h = let z : ◌≡◌ {A = ℕ} 0 1 = cc in absurd (omega arith)
side_from Sell Sell h = refl

side_test : (s t : Side) → s ≡ t → same_side s t ≡ true
side_test Buy Buy e = refl
side_test Buy Sell e = let z : ◌≡◌ {A = ℕ} 0 1 = cc in absurd (omega arith)
side_test Sell Buy e = let z : ◌≡◌ {A = ℕ} 0 1 = cc in absurd (omega arith)
side_test Sell Sell e = refl

module _ (side : Side) (p q a : List RestingOrder) where
  pub lined_from : is_lined side p q ≡ true → a ≡ sort first_by_offset q → Lined side p q a
  lined_from h e =
      let none = every (λ o. not (present o.offset)) p in
      let some = every (λ o. present o.offset) q in
      let first = is_sorted (first_by_limit side) p in
      let second = is_sorted (first_by_limit side) q in
      let sides = every (λ o. same_side o.side side) (p ++ q) in
      let apart = is_distinct (λ o. o.number) (p ++ q) in
      let i = and_parts none (some && (first && (second && (sides && apart)))) h in
      let j = and_parts some (first && (second && (sides && apart))) i.1 in
      let k = and_parts first (second && (sides && apart)) j.1 in
      let l = and_parts second (sides && apart) k.1 in
      let m = and_parts sides apart l.1 in
      record {
        no_offsets = every_from (λ o. not (present o.offset)) (λ o. o.offset ≡ None) (λ o. absent_from o.offset) p i.0;
        offsets = every_from (λ o. present o.offset) (λ o. o.offset ≡ None → ⊥) (λ o. present_from o.offset) q j.0;
        first = sorted_from (first_by_limit side) p k.0;
        second = sorted_from (first_by_limit side) q l.0;
        third = e;
        of_side = every_from (λ o. same_side o.side side) (λ o. o.side ≡ side) (λ o. side_from o.side side) (p ++ q) m.0;
        apart = distinct_from (λ o. o.number) (p ++ q) m.1;
      }

  pub lined_test : Lined side p q a → is_lined side p q ≡ true
  lined_test l =
      let none = every (λ o. not (present o.offset)) p in
      let some = every (λ o. present o.offset) q in
      let first = is_sorted (first_by_limit side) p in
      let second = is_sorted (first_by_limit side) q in
      let sides = every (λ o. same_side o.side side) (p ++ q) in
      let apart = is_distinct (λ o. o.number) (p ++ q) in
      and_from none (some && (first && (second && (sides && apart))))
      (every_test (λ o. not (present o.offset)) (λ o. o.offset ≡ None) (λ o. absent_test o.offset) p l.no_offsets)
      (and_from some (first && (second && (sides && apart)))
      (every_test (λ o. present o.offset) (λ o. o.offset ≡ None → ⊥) (λ o. present_test o.offset) q l.offsets)
      (and_from first (second && (sides && apart))
      (sorted_test (first_by_limit side) p l.first)
      (and_from second (sides && apart)
      (sorted_test (first_by_limit side) q l.second)
      (and_from sides apart
      (every_test (λ o. same_side o.side side) (λ o. o.side ≡ side) (λ o. side_test o.side side) (p ++ q) l.of_side)
      (distinct_test (λ o. o.number) (p ++ q) l.apart)))))
