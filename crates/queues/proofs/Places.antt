-- What becomes of a list when the one element of a key leaves or is changed, at its place
use Rattle.std.proofs.Common.{◌≡◌, ℕ, zero, suc, ◌+◌, ◌<◌, ◌≤◌, Bool, true, false, cond, not, eqb, ltb, List, [], ◌∷◌, ◌++◌, length, get_or, take, drop, set, Some, None, Option, sym, refl, ap, ap₂, ◌∙◌, arith}
use Rattle.std.specs.List.{AllByRecursion as Each, position, position_or_len, remove}
use Rattle.std.proofs.ByRecursion.{All-weaker}
use Rattle.std.proofs.lemmas.Bool.{false≢true, eqb-true, eqb-false, ltb-false}
use Rattle.std.proofs.lemmas.List.{take-append-drop, take-set, drop-set}
use Rattle.std.proofs.lemmas.List.Quantifiers.{position-Some}
use Rattle.rules.specs.Lists.{Distinct, any, picked, and_then}

module _ {X : Type 0} (key : X → ℕ) (n : ℕ) where
  abbrev has : X → Bool
  has x = eqb (key x) n

  abbrev pub Lacks : List X → Type 0
  Lacks xs = Each (λ x. key x ≡ n → ⊥) xs

  pub any_lacks : (xs : List X) → any has xs ≡ false → Lacks xs
  any_lacks [] h = tt
  any_lacks (x ∷ xs) h = go (has x) refl h (any_lacks xs)
    where
      go : (b : Bool) → has x ≡ b → cond b true (any has xs) ≡ false → (any has xs ≡ false → Lacks xs) → Lacks (x ∷ xs)
      go true e k ih = absurd (false≢true (sym k))
      go false e k ih = (eqb-false (key x) n e, ih k)

  -- where one of a first list has the key, none of a second one has it
  pub any_other : (xs ys : List X) → Distinct key (xs ++ ys) → any has xs ≡ true → Lacks ys
  any_other [] ys d h = absurd (false≢true h)
  any_other (x ∷ xs) ys d h = go (has x) refl h (any_other xs ys d.1)
    where
      back : (us : List X) → Each (λ y. key y ≡ key x → ⊥) (us ++ ys) → Each (λ y. key y ≡ key x → ⊥) ys
      back [] k = k
      back (u ∷ us) k = back us k.1

      go : (b : Bool) → has x ≡ b → cond b true (any has xs) ≡ true → (any has xs ≡ true → Lacks ys) → Lacks ys
      go true e k ih = All-weaker (λ y. key y ≡ key x → ⊥) (λ y. key y ≡ n → ⊥) (λ y ne q. ne (q ∙ sym (eqb-true (key x) n e))) ys (back xs d.0)
      go false e k ih = ih k

  -- no place is found exactly if none has the key
  pub no_place : (xs : List X) → position has xs ≡ None → any has xs ≡ false
  no_place xs h = past xs (ltb (position_or_len has xs) (length xs)) refl h
    where
      beyond : (ys : List X) → length ys ≤ position_or_len has ys → any has ys ≡ false
      beyond [] le = refl
      beyond (y ∷ ys) le = go (has y) le (beyond ys)
        where
          go : (b : Bool) → length (y ∷ ys) ≤ cond (not b) (1 + position_or_len has ys) 0 → (length ys ≤ position_or_len has ys → any has ys ≡ false) → cond b true (any has ys) ≡ false
          go true k ih = absurd (omega (arith, k))
          go false k ih = ih (omega (arith, k))

      past : (ys : List X) (b : Bool) → ltb (position_or_len has ys) (length ys) ≡ b → cond b (Some (position_or_len has ys)) None ≡ None → any has ys ≡ false
      past ys true e k = let z : ◌≡◌ {A = ℕ} 0 1 = cc in absurd (omega arith)
      past ys false e k = beyond ys (ltb-false (position_or_len has ys) (length ys) e)

  at_place : (xs : List X) (i : ℕ) (d : X) → i < length xs → has (get_or xs i d) ≡ true → any has xs ≡ true
  at_place [] i d lt h = absurd (omega (arith, lt))
  at_place (x ∷ xs) zero d lt h = ap (λ b. cond b true (any has xs)) h
  at_place (x ∷ xs) (suc i) d lt h = go (has x) (at_place xs i d (omega (arith, lt)) h)
    where
      go : (b : Bool) → any has xs ≡ true → cond b true (any has xs) ≡ true
      go true k = refl
      go false k = k

  pub some_place : (xs : List X) (i : ℕ) (d : X) → position has xs ≡ Some i → any has xs ≡ true
  some_place xs i d h = let p = position-Some has xs i d h in at_place xs i d p.0 p.1

  -- a change of what has the key
  module _ (P : X → Type 0) (f : X → Option X) (stays : (x : X) → P x → (key x ≡ n → ⊥) → f x ≡ Some x) where
    pub none_picked : (xs : List X) → Each P xs → Lacks xs → picked f xs ≡ xs
    none_picked [] h k = refl
    none_picked (x ∷ xs) h k = ap (λ r. and_then r (picked f xs)) (stays x h.0 k.0) ∙ ap (λ l. x ∷ l) (none_picked xs h.1 k.1)

    one_picked : (xs : List X) (i : ℕ) (d : X) → i < length xs → has (get_or xs i d) ≡ true → ((k : ℕ) → k < i → has (get_or xs k d) ≡ false) → Distinct key xs → Each P xs
        → picked f xs ≡ take i xs ++ and_then (f (get_or xs i d)) (drop (suc i) xs)
    one_picked [] i d lt e first a h = absurd (omega (arith, lt))
    one_picked (x ∷ xs) zero d lt e first a h =
        ap (and_then (f x)) (none_picked xs h.1 (All-weaker (λ y. key y ≡ key x → ⊥) (λ y. key y ≡ n → ⊥) (λ y ne q. ne (q ∙ sym (eqb-true (key x) n e))) xs a.0))
    one_picked (x ∷ xs) (suc i) d lt e first a h =
        ap (λ r. and_then r (picked f xs)) (stays x h.0 (eqb-false (key x) n (first 0 (omega arith))))
        ∙ ap (λ l. x ∷ l) (one_picked xs i d (omega (arith, lt)) e (λ k le. first (suc k) (omega (arith, le))) a.1 h.1)

    module _ (xs : List X) (i : ℕ) (d : X) (place : position has xs ≡ Some i) (apart : Distinct key xs) (each : Each P xs) where
      around : picked f xs ≡ take i xs ++ and_then (f (get_or xs i d)) (drop (suc i) xs)
      around = let p = position-Some has xs i d place in one_picked xs i d p.0 p.1 p.2 apart each

      -- it leaves
      pub left_out : f (get_or xs i d) ≡ None → remove xs i ≡ picked f xs
      left_out e = sym (around ∙ ap (λ r. take i xs ++ and_then r (drop (suc i) xs)) e)

      -- it is changed
      pub put_in : (y : X) → f (get_or xs i d) ≡ Some y → set xs i y ≡ picked f xs
      put_in y e =
          let next : i + 1 ≡ suc i = omega arith in
          sym (take-append-drop i (set xs i y))
          ∙ (ap₂ ◌++◌ (take-set xs i y) (drop-set xs i y (position-Some has xs i d place).0 ∙ ap (λ k. y ∷ drop k xs) next) ∙ sym (around ∙ ap (λ r. take i xs ++ and_then r (drop (suc i) xs)) e))
