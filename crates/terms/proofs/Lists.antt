-- Lemmas on lists that several crates use
use Rattle.std.proofs.Common.{◌≡◌, ℕ, zero, suc, ◌<◌, cond, eqb, List, length, get_or, set, replicate, sym, refl, ap, ◌∙◌, ⊎_elim}
use Rattle.std.proofs.lemmas.List.{get_or-set_same, get_or-set_other}
use Rattle.std.proofs.lemmas.Bool.{cases_eq, eq-eqb, ne_eqb}

-- a list that repeats its default reads the same everywhere
pub get_or_same : {X : Type 0} (n k : ℕ) (x : X) → get_or (replicate n x) k x ≡ x
get_or_same zero k x = refl
get_or_same (suc n) zero x = refl
get_or_same (suc n) (suc k) x = get_or_same n k x

-- a list after a write within it, read anywhere
pub get_or_set : {X : Type 0} (xs : List X) (i k : ℕ) (x d : X) → i < length xs → get_or (set xs i x) k d ≡ cond (eqb k i) x (get_or xs k d)
get_or_set xs i k x d h =
    ⊎_elim
    (λ (e : k ≡ i). ap (λ j. get_or (set xs i x) j d) e ∙ (get_or-set_same xs i x d h ∙ sym (ap (λ b. cond b x (get_or xs k d)) (eq-eqb k i e))))
    (λ (ne : k ≡ i → ⊥). get_or-set_other xs i k x d ne ∙ sym (ap (λ b. cond b x (get_or xs k d)) (ne_eqb k i ne)))
    (cases_eq k i)
