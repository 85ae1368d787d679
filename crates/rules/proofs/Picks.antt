-- What is picked from a list
use Rattle.std.proofs.Common.{◌≡◌, ℕ, suc, ◌≤◌, Bool, true, List, [], ◌∷◌, ◌++◌, length, Some, None, Option, sym, refl, subst, arith}
use Rattle.std.specs.List.{ContainsAt as Has, AllByRecursion as Each}
use Rattle.std.proofs.ByRecursion.{All-weaker, all-has, all_has_itself, has_push, has_append_left, has_append_right}
use Rattle.rules.specs.Lists.{picked, and_then, Distinct, Downward}
use Rattle.rules.specs.Sorted.{Sorted}
use Rattle.rules.proofs.Members.{all_picked}

module _ {X Y : Type 0} (f : X → Option Y) where
  pub length_picked : (xs : List X) → length (picked f xs) ≤ length xs
  length_picked [] = omega arith
  length_picked (x ∷ xs) = out (f x) (length_picked xs)
    where
      out : (r : Option Y) → length (picked f xs) ≤ length xs → length (and_then r (picked f xs)) ≤ suc (length xs)
      out None h = omega arith
      out (Some y) h = omega arith

  -- a list stays sorted, if what is picked compares as what it is picked from
  pub sorted_picked : (lt : X → X → Bool) (lt' : Y → Y → Bool)
      → ((a b : X) (c e : Y) → f a ≡ Some c → f b ≡ Some e → lt a b ≡ true → lt' c e ≡ true)
      → (xs : List X) → Sorted lt xs → Sorted lt' (picked f xs)
  sorted_picked lt lt' same [] h = tt
  sorted_picked lt lt' same (x ∷ xs) h = out (sorted_picked lt lt' same xs h.1) (f x) refl
    where
      out : Sorted lt' (picked f xs) → (r : Option Y) → f x ≡ r → Sorted lt' (and_then r (picked f xs))
      out rest None e = rest
      out rest (Some y) e = (all_picked f (λ z. lt x z ≡ true) (λ z. lt' y z ≡ true) (λ a b ahead eb. same x a y b e eb ahead) xs h.0, rest)

  -- each element still stands in its relation to every later one, if what is picked stands as that from which it is picked
  pub downward_picked : (R : X → X → Type 0) (R' : Y → Y → Type 0)
      → ((a b : X) (c e : Y) → f a ≡ Some c → f b ≡ Some e → R a b → R' c e)
      → (xs : List X) → Downward R xs → Downward R' (picked f xs)
  downward_picked R R' same [] h = tt
  downward_picked R R' same (x ∷ xs) h = out (downward_picked R R' same xs h.1) (f x) refl
    where
      out : Downward R' (picked f xs) → (r : Option Y) → f x ≡ r → Downward R' (and_then r (picked f xs))
      out rest None e = rest
      out rest (Some y) e = (all_picked f (R x) (R' y) (λ a b here eb. same x a y b e eb here) xs h.0, rest)

  -- what is picked from an element is in what is picked,
  each_picked : (xs : List X) → Each (λ x. (y : Y) → f x ≡ Some y → Has (picked f xs) y) xs
  each_picked [] = tt
  each_picked (x ∷ xs) = (
    λ y e. subst (λ o. Has (and_then o (picked f xs)) y) (sym e) (has_append_left (y ∷ []) (picked f xs) y (has_push [] y)),
    All-weaker (λ z. (y : Y) → f z ≡ Some y → Has (picked f xs) y) (λ z. (y : Y) → f z ≡ Some y → Has (picked f (x ∷ xs)) y) (λ z h y e. later (f x) y (h y e)) xs (each_picked xs),
  )
    where
      later : (o : Option Y) (y : Y) → Has (picked f xs) y → Has (and_then o (picked f xs)) y
      later None y h = h
      later (Some z) y h = has_append_right (z ∷ []) (picked f xs) y h

  pub has_picked : (xs : List X) (x : X) (y : Y) → Has xs x → f x ≡ Some y → Has (picked f xs) y
  has_picked xs x y h e = all-has (λ z. (y : Y) → f z ≡ Some y → Has (picked f xs) y) xs x (each_picked xs) h y e

  -- and nothing else is
  pub picked_from : (xs : List X) (y : Y) → Has (picked f xs) y → (x : X) × Has xs x × (f x ≡ Some y)
  picked_from xs y h =
      let from : Y → Type 0 = λ y. (x : X) × Has xs x × (f x ≡ Some y) in
      all-has from (picked f xs) y (all_picked f (Has xs) from (λ x y here e. (x, here, e)) xs (all_has_itself xs)) h

pub distinct_right : {X : Type 0} (key : X → ℕ) (xs ys : List X) → Distinct key (xs ++ ys) → Distinct key ys
distinct_right key [] ys h = h
distinct_right key (x ∷ xs) ys h = distinct_right key xs ys h.1
