-- What a draw and a return leave of the slips
use Rattle.std.proofs.Common.{◌≡◌, ℕ, Bool, true, false, cond, ◌&&◌, ◌||◌, eqb, List, [], ◌∷◌, map, Some, None, Option, Bor, sym, refl, ap, ◌∙◌}
use Rattle.std.specs.Bool.{beq}
use Rattle.std.specs.Option.{option_map}
use Rattle.std.specs.List.{find, list_any}
use Rattle.terms.specs.declared.orders.Slip.{Slip}
use Rattle.rules.specs.Lists.{any, found, present}
use Rattle.laws.specs.Book.{is_waiting, is_drawn, drawn_if}
use Rattle.slips.specs.Slips.{shares_of, shares_waiting, slips_drawn}

-- a slip waits exactly if its shares are found
pub any_present : (n : ℕ) (xs : List Slip) → any (is_waiting n) xs ≡ present (shares_waiting n xs)
any_present n [] = refl
any_present n (x ∷ xs) = go (is_waiting n x) (any_present n xs)
  where
    go : (b : Bool) → any (is_waiting n) xs ≡ present (shares_of (found (is_waiting n) xs)) → cond b true (any (is_waiting n) xs) ≡ present (shares_of (cond b (Some x) (found (is_waiting n) xs)))
    go true h = refl
    go false h = h

-- the shares on the first slip that passes the test, in the library's words
pub shares_found : (p : Slip → Bool) (xs : List Slip) (m : Option (Bor Slip)) → option_map (λ x. x.now) m ≡ find p xs → option_map (λ x. x.now.shares) m ≡ shares_of (found p xs)
shares_found p xs m e = told m ∙ ap shares_of (e ∙ first xs)
  where
    told : (m : Option (Bor Slip)) → option_map (λ x. x.now.shares) m ≡ shares_of (option_map (λ x. x.now) m)
    told None = refl
    told (Some x) = refl

    first : (ys : List Slip) → find p ys ≡ found p ys
    first [] = refl
    first (y ∷ ys) = ap (cond (p y) (Some y)) (first ys)

-- the slip that is out equals its note
abbrev pub same_slip : Slip → Slip → Bool
same_slip a b = eqb a.number b.number && (eqb a.shares b.shares && beq a.drawn b.drawn)

module _ (n shares : ℕ) (note : Slip) (is : note ≡ record { number = n; shares = shares; drawn = true }) where
  pub same_drawn : (x : Slip) → same_slip x note ≡ is_drawn n shares x
  same_drawn x = ap (same_slip x) is ∙ ap (λ b. eqb x.number n && b) (go (eqb x.shares shares) x.drawn)
    where
      go : (b c : Bool) → (b && beq c true) ≡ (c && b)
      go true true = refl
      go true false = refl
      go false true = refl
      go false false = refl

  pub any_out : (xs : List Slip) → list_any (λ x. same_slip x note) xs ≡ any (is_drawn n shares) xs
  any_out [] = refl
  any_out (x ∷ xs) = ap (λ b. b || list_any (λ y. same_slip y note) xs) (same_drawn x) ∙ go (is_drawn n shares x) (any_out xs)
    where
      go : (b : Bool) → list_any (λ y. same_slip y note) xs ≡ any (is_drawn n shares) xs → (b || list_any (λ y. same_slip y note) xs) ≡ cond b true (any (is_drawn n shares) xs)
      go true h = refl
      go false h = h

-- a draw changes the slips exactly if one is found
module _ (n : ℕ) (xs : List Slip) where
  pub none_drawn : shares_waiting n xs ≡ None → xs ≡ slips_drawn n xs
  none_drawn e = sym (ap (λ b. cond b (map (drawn_if n) xs) xs) (any_present n xs ∙ ap present e))

  pub some_drawn : {shares : ℕ} → shares_waiting n xs ≡ Some shares → map (drawn_if n) xs ≡ slips_drawn n xs
  some_drawn e = sym (ap (λ b. cond b (map (drawn_if n) xs) xs) (any_present n xs ∙ ap present e))
