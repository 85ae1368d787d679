-- The first element that passes a test
use Rattle.std.proofs.Common.{◌≡◌, ℕ, Bool, true, false, cond, ◌||◌, List, [], ◌∷◌, ◌++◌, Some, None, refl, arith}
use Rattle.std.specs.List.{ContainsAt as Has}
use Rattle.std.proofs.ByRecursion.{has_push, has_append_left, has_append_right}
use Rattle.std.proofs.lemmas.Bool.{false≢true}
use Rattle.rules.specs.Lists.{any, found}

module _ {X : Type 0} (p : X → Bool) where
  -- whether one passes, of two lists
  pub any_append : (xs ys : List X) → any p (xs ++ ys) ≡ (any p xs || any p ys)
  any_append [] ys = refl
  any_append (x ∷ xs) ys = go (p x) (any_append xs ys)
    where
      go : (b : Bool) → any p (xs ++ ys) ≡ (any p xs || any p ys) → cond b true (any p (xs ++ ys)) ≡ (cond b true (any p xs) || any p ys)
      go true ih = refl
      go false ih = ih

  -- in one of two lists
  pub found_left : (xs ys : List X) (x : X) → found p xs ≡ Some x → found p (xs ++ ys) ≡ Some x
  found_left [] ys x h = let z : ◌≡◌ {A = ℕ} 0 1 = cc in absurd (omega arith)
  found_left (y ∷ xs) ys x h = go (p y) h (found_left xs ys x)
    where
      go : (b : Bool) → cond b (Some y) (found p xs) ≡ Some x → (found p xs ≡ Some x → found p (xs ++ ys) ≡ Some x) → cond b (Some y) (found p (xs ++ ys)) ≡ Some x
      go true k ih = k
      go false k ih = ih k

  pub found_right : (xs ys : List X) → found p xs ≡ None → found p (xs ++ ys) ≡ found p ys
  found_right [] ys h = refl
  found_right (y ∷ xs) ys h = go (p y) h (found_right xs ys)
    where
      go : (b : Bool) → cond b (Some y) (found p xs) ≡ None → (found p xs ≡ None → found p (xs ++ ys) ≡ found p ys) → cond b (Some y) (found p (xs ++ ys)) ≡ found p ys
      go true k ih = let z : ◌≡◌ {A = ℕ} 0 1 = cc in absurd (omega arith)
      go false k ih = ih k

  -- where one passes, one is found: it is in the list, and passes
  pub found_passes : (xs : List X) → any p xs ≡ true → (x : X) × Has xs x × (p x ≡ true) × (found p xs ≡ Some x)
  found_passes [] h = absurd (false≢true h)
  found_passes (x ∷ xs) h = go (p x) refl h (found_passes xs)
    where
      go : (b : Bool) → p x ≡ b → cond b true (any p xs) ≡ true → (any p xs ≡ true → (y : X) × Has xs y × (p y ≡ true) × (found p xs ≡ Some y))
          → (y : X) × Has (x ∷ xs) y × (p y ≡ true) × (cond b (Some x) (found p xs) ≡ Some y)
      go true e k ih = (x, has_append_left (x ∷ []) xs x (has_push [] x), e, refl)
      go false e k ih = let t = ih k in (t.0, has_append_right (x ∷ []) xs t.0 t.1, t.2, t.3)
