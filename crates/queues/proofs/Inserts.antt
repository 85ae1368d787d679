-- The place of a new element
use Rattle.std.proofs.Common.{◌≡◌, ℕ, zero-le, ◌+◌, ◌≤◌, Bool, true, false, cond, not, List, [], ◌∷◌, length, get_or, sym, refl, ap, ◌∙◌, one-add, arith}
use Rattle.std.specs.List.{insert as inserted, position_or_len}
use Rattle.std.specs.List.Sorted.{IsPartitionedBy, IsPartitionPoint}
use Rattle.std.proofs.lemmas.List.Sums.{position_or_len_is}
use Rattle.rules.specs.Lists.{insert}
use Rattle.rules.specs.Sorted.{Sorted}
use Rattle.rules.proofs.Parts.{parted}

module _ {X : Type 0} (lt : X → X → Bool) (x : X) where
  inserted_first : (xs : List X) → inserted xs (position_or_len (lt x) xs) x ≡ insert lt x xs
  inserted_first [] = refl
  inserted_first (y ∷ ys) = go (lt x y) (inserted_first ys)
    where
      go : (b : Bool) → inserted ys (position_or_len (lt x) ys) x ≡ insert lt x ys → inserted (y ∷ ys) (cond (not b) (1 + position_or_len (lt x) ys) 0) x ≡ cond b (x ∷ y ∷ ys) (y ∷ insert lt x ys)
      go true h = refl
      go false h = rw one-add (ap (λ l. y ∷ l) h)

  turned : (b : Bool) → not b ≡ true → b ≡ false
  turned true h = sym h
  turned false h = refl

  kept : (b : Bool) → not b ≡ false → b ≡ true
  kept true h = refl
  kept false h = sym h

  -- all before which it does not stand come first, so the place where these end is the one where lt puts it
  pub parted_insert : (xs : List X) (i : ℕ) → i ≤ length xs → IsPartitionPoint (λ y. not (lt x y) ≡ true) (λ y. not (lt x y) ≡ false) xs i → inserted xs i x ≡ insert lt x xs
  parted_insert xs i within p =
      ap (λ n. inserted xs n x) (sym (position_or_len_is (lt x) xs i x within (λ k h. turned (lt x (get_or xs k x)) (p.0 k x zero-le h)) (λ h. kept (lt x (get_or xs i x)) (p.1 i x (omega arith) h))))
      ∙ inserted_first xs

  -- in a sorted list these do come first
  pub before_parted : ((a b c : X) → lt a b ≡ true → lt b c ≡ true → lt a c ≡ true) → (xs : List X) → Sorted lt xs → IsPartitionedBy (λ y. not (lt x y)) xs
  before_parted trans xs sorted = parted lt (λ y. not (lt x y)) (λ a b l h. ap not (trans x a b (kept (lt x a) h) l)) xs sorted
