-- Sorted lists that a test parts in two
use Rattle.std.proofs.Common.{◌≡◌, ℕ, zero, suc, ◌<◌, zero-le, Bool, true, false, List, [], ◌∷◌, length, get_or, drop, sym, refl, ◌∙◌, arith}
use Rattle.std.specs.List.{AllByRecursion as Each, AllWithin}
use Rattle.std.specs.List.Sorted.{IsPartitionedBy}
use Rattle.std.proofs.lemmas.Bool.{true≢false}
use Rattle.rules.specs.Sorted.{Sorted}

-- what holds of each element from an index on
pub each_drop : {X : Type 0} (P : X → Type 0) (xs : List X) (i : ℕ) → AllWithin P xs i (length xs) → Each P (drop i xs)
each_drop P [] zero h = tt
each_drop P [] (suc i) h = tt
each_drop P (x ∷ xs) zero h = (h 0 x zero-le (omega arith), each_drop P xs zero (λ k d a b. h (suc k) d zero-le (omega (arith, b))))
each_drop P (x ∷ xs) (suc i) h = each_drop P xs i (λ k d a b. h (suc k) d (omega (arith, a)) (omega (arith, b)))

pub each_at : {X : Type 0} (P : X → Type 0) (xs : List X) (i : ℕ) (d : X) → i < length xs → Each P xs → P (get_or xs i d)
each_at P [] i d h a = absurd (omega arith)
each_at P (x ∷ xs) zero d h a = a.0
each_at P (x ∷ xs) (suc i) d h a = each_at P xs i d (omega arith) a.1

-- what holds of each element holds of each from an index on
pub each_behind : {X : Type 0} (P : X → Type 0) (i : ℕ) (xs : List X) → Each P xs → Each P (drop i xs)
each_behind P zero xs h = h
each_behind P (suc i) [] h = tt
each_behind P (suc i) (x ∷ xs) h = each_behind P i xs h.1

-- In a sorted list all that pass a test stand before all that fail it, if each after one that fails it fails it too.
pub parted : {X : Type 0} (lt : X → X → Bool) (p : X → Bool) → ((a b : X) → lt a b ≡ true → p a ≡ false → p b ≡ false) → (xs : List X) → Sorted lt xs → IsPartitionedBy p xs
parted lt p down [] s i j d h k e = absurd (omega arith)
parted lt p down (x ∷ xs) s zero zero d h k e = e
parted lt p down (x ∷ xs) s zero (suc j) d h k e = go (p x) refl
  where
    go : (b : Bool) → p x ≡ b → p x ≡ true
    go true i = i
    go false i = absurd (true≢false (sym e ∙ down x (get_or xs j d) (each_at (λ y. lt x y ≡ true) xs j d (omega (arith, k)) s.0) i))
parted lt p down (x ∷ xs) s (suc i) zero d h k e = absurd (omega (arith, h))
parted lt p down (x ∷ xs) s (suc i) (suc j) d h k e = parted lt p down xs s.1 i j d (omega (arith, h)) (omega (arith, k)) e
