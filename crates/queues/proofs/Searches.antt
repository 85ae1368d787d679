-- The library's words for a search
use Rattle.std.proofs.Common.{◌≡◌, Bool, true, false, cond, ◌||◌, List, [], ◌∷◌, ◌++◌, Some, None, Option, sym, refl, ap, ◌∙◌}
use Rattle.std.specs.List.{find, list_any}
use Rattle.std.specs.Option.{MatchOption}
use Rattle.rules.specs.Lists.{any, found}
use Rattle.rules.proofs.Finds.{found_left, found_right}

module _ {X : Type 0} (p : X → Bool) where
  pub first_found : (xs : List X) → find p xs ≡ found p xs
  first_found [] = refl
  first_found (x ∷ xs) = ap (cond (p x) (Some x)) (first_found xs)

  pub any_listed : (xs : List X) → list_any p xs ≡ any p xs
  any_listed [] = refl
  any_listed (x ∷ xs) = go (p x) (any_listed xs)
    where
      go : (b : Bool) → list_any p xs ≡ any p xs → (b || list_any p xs) ≡ cond b true (any p xs)
      go true h = refl
      go false h = h

  -- in the first of two lists, or else in the second
  pub found_either : (xs ys : List X) (m r : Option X) → m ≡ found p xs → MatchOption m (r ≡ found p ys) (λ _. r ≡ m) → r ≡ found p (xs ++ ys)
  found_either xs ys None r e h = h ∙ sym (found_right p xs ys (sym e))
  found_either xs ys (Some x) r e h = h ∙ sym (found_left p xs ys x (sym e))
