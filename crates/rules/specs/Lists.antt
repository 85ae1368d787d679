-- Words on lists
use Rattle.std.specs.Prelude.{ℕ, ◌+◌, Bool, true, false, cond, List, [], ◌∷◌, Some, None, Option, ◌≢◌}
use Rattle.std.specs.List.{AllByRecursion as Each}

abbrev pub sum_of : {X : Type 0} → (X → ℕ) → List X → ℕ
sum_of f [] = 0
sum_of f (x ∷ xs) = f x + sum_of f xs

-- no two elements have one key
abbrev pub Distinct : {X : Type 0} → (X → ℕ) → List X → Type 0
Distinct key [] = Unit {0}
Distinct key (x ∷ xs) = Each (λ y. key y ≢ key x) xs × Distinct key xs

-- each element stands in this relation to every later one
abbrev pub Downward : {X : Type 0} → (X → X → Type 0) → List X → Type 0
Downward R [] = Unit {0}
Downward R (x ∷ xs) = Each (R x) xs × Downward R xs

-- the first that passes the test
abbrev pub found : {X : Type 0} → (X → Bool) → List X → Option X
found p [] = None
found p (x ∷ xs) = cond (p x) (Some x) (found p xs)

abbrev pub any : {X : Type 0} → (X → Bool) → List X → Bool
any p [] = false
any p (x ∷ xs) = cond (p x) true (any p xs)

-- the values that f gives along a list
abbrev pub and_then : {Y : Type 0} → Option Y → List Y → List Y
and_then None ys = ys
and_then (Some y) ys = y ∷ ys

abbrev pub picked : {X Y : Type 0} → (X → Option Y) → List X → List Y
picked f [] = []
picked f (x ∷ xs) = and_then (f x) (picked f xs)

abbrev pub insert : {X : Type 0} → (X → X → Bool) → X → List X → List X
insert lt x [] = x ∷ []
insert lt x (y ∷ ys) = cond (lt x y) (x ∷ y ∷ ys) (y ∷ insert lt x ys)

abbrev pub sort : {X : Type 0} → (X → X → Bool) → List X → List X
sort lt [] = []
sort lt (x ∷ xs) = insert lt x (sort lt xs)

abbrev pub present : {X : Type 0} → Option X → Bool
present None = false
present (Some x) = true

-- f of what is there, or n
abbrev pub read : {X : Type 0} → (X → ℕ) → ℕ → Option X → ℕ
read f n None = n
read f n (Some x) = f x
