-- Lists in a strict order, and lists with the same elements
use Rattle.std.specs.Prelude.{◌≡◌, Bool, true, List, [], ◌∷◌}
use Rattle.std.specs.List.{AllByRecursion as Each}

-- each element stands before every later one
abbrev pub Sorted : {X : Type 0} → (X → X → Bool) → List X → Type 0
Sorted lt [] = Unit {0}
Sorted lt (x ∷ xs) = Each (λ y. lt x y ≡ true) xs × Sorted lt xs

-- the same elements, each as often, in any order
pub data Perm {X : Type 0} : List X → List X → Type 0 where
  perm_nil : Perm [] []
  perm_cons : {x : X} {xs ys : List X} → Perm xs ys → Perm (x ∷ xs) (x ∷ ys)
  perm_swap : {x y : X} {xs : List X} → Perm (x ∷ y ∷ xs) (y ∷ x ∷ xs)
  perm_trans : {xs ys zs : List X} → Perm xs ys → Perm ys zs → Perm xs zs
