-- Lists with the same elements, and sorted lists that are the same
use Rattle.std.proofs.Common.{◌≡◌, ℕ, ◌+◌, Bool, true, ◌⊎◌, List, [], ◌∷◌, ◌++◌, Some, None, Option, sym, refl, ap, ◌∙◌, subst, inl, inr, ⊎_elim, arith}
use Rattle.std.specs.List.{AllByRecursion as Each}
use Rattle.std.proofs.ByRecursion.{All-weaker}
use Rattle.std.proofs.lemmas.Bool.{cond_both, cond-true, cond-false, both_ways, cases_Bool}
use Rattle.rules.specs.Lists.{insert, sort, sum_of, picked, and_then, Distinct}
use Rattle.rules.specs.Sorted.{Sorted, Perm}
use Rattle.rules.specs.Sorted.Perm.{perm_nil, perm_cons, perm_swap, perm_trans}
use Rattle.rules.proofs.Sorting.{Strict, sorted_sort, all_sort}

module _ {X : Type 0} where
  pub perm_refl : (xs : List X) → Perm xs xs
  perm_refl [] = perm_nil
  perm_refl (x ∷ xs) = perm_cons (perm_refl xs)

  pub perm_sym : {xs ys : List X} → Perm xs ys → Perm ys xs
  perm_sym perm_nil = perm_nil
  perm_sym (perm_cons p) = perm_cons (perm_sym p)
  perm_sym perm_swap = perm_swap
  perm_sym (perm_trans p q) = perm_trans (perm_sym q) (perm_sym p)

  pub perm_is : {xs ys : List X} → xs ≡ ys → Perm xs ys
  perm_is {xs} e = subst (λ l. Perm xs l) e (perm_refl xs)

  pub perm_left : (zs : List X) {xs ys : List X} → Perm xs ys → Perm (zs ++ xs) (zs ++ ys)
  perm_left [] p = p
  perm_left (z ∷ zs) p = perm_cons (perm_left zs p)

  pub perm_right : {xs ys : List X} (zs : List X) → Perm xs ys → Perm (xs ++ zs) (ys ++ zs)
  perm_right zs perm_nil = perm_refl zs
  perm_right zs (perm_cons p) = perm_cons (perm_right zs p)
  perm_right zs perm_swap = perm_swap
  perm_right zs (perm_trans p q) = perm_trans (perm_right zs p) (perm_right zs q)

  pub perm_both : {xs ys us vs : List X} → Perm xs ys → Perm us vs → Perm (xs ++ us) (ys ++ vs)
  perm_both {ys} {us} p q = perm_trans (perm_right us p) (perm_left ys q)

  pub perm_middle : (xs : List X) (y : X) (ys : List X) → Perm (xs ++ y ∷ ys) (y ∷ xs ++ ys)
  perm_middle [] y ys = perm_refl (y ∷ ys)
  perm_middle (x ∷ xs) y ys = perm_trans (perm_cons (perm_middle xs y ys)) perm_swap

  pub all_perm : (P : X → Type 0) {xs ys : List X} → Perm xs ys → Each P xs → Each P ys
  all_perm P perm_nil h = tt
  all_perm P (perm_cons p) h = (h.0, all_perm P p h.1)
  all_perm P perm_swap h = (h.1.0, (h.0, h.1.1))
  all_perm P (perm_trans p q) h = all_perm P q (all_perm P p h)

  pub sum_perm : (f : X → ℕ) {xs ys : List X} → Perm xs ys → sum_of f xs ≡ sum_of f ys
  sum_perm f perm_nil = refl
  sum_perm f (perm_cons {x} p) = ap (λ v. f x + v) (sum_perm f p)
  sum_perm f perm_swap = omega arith
  sum_perm f (perm_trans p q) = sum_perm f p ∙ sum_perm f q

  pub distinct_perm : (key : X → ℕ) {xs ys : List X} → Perm xs ys → Distinct key xs → Distinct key ys
  distinct_perm key perm_nil h = tt
  distinct_perm key (perm_cons {x} p) h = (all_perm (λ y. key y ≡ key x → ⊥) p h.0, distinct_perm key p h.1)
  distinct_perm key perm_swap h = (((λ e. h.0.0 (sym e)), h.1.0), (h.0.1, h.1.1))
  distinct_perm key (perm_trans p q) h = distinct_perm key q (distinct_perm key p h)

  module _ (lt : X → X → Bool) where
    pub perm_insert : (x : X) (xs : List X) → Perm (insert lt x xs) (x ∷ xs)
    perm_insert x [] = perm_refl (x ∷ [])
    perm_insert x (y ∷ ys) =
        cond_both (lt x y) (x ∷ y ∷ ys) (y ∷ insert lt x ys) (λ l. Perm l (x ∷ y ∷ ys))
        (λ _. perm_refl (x ∷ y ∷ ys))
        (λ _. perm_trans (perm_cons (perm_insert x ys)) perm_swap)

    pub perm_sort : (xs : List X) → Perm (sort lt xs) xs
    perm_sort [] = perm_nil
    perm_sort (x ∷ xs) = perm_trans (perm_insert x (sort lt xs)) (perm_cons (perm_sort xs))

    -- Two sorted lists with the same elements are the same
    module _ (key : X → ℕ) (law : Strict lt key) where
      asym : (a b : X) → lt a b ≡ true → lt b a ≡ true → ⊥
      asym a b h k = both_ways (lt a a) (law.never a) (law.trans a b a h k)

      -- what holds of each of ys, or of x, holds of each of xs that is not x
      sift : (x : X) (P : X → Type 0) (xs : List X) → Each (λ z. lt x z ≡ true) xs → Each (λ z. (z ≡ x) ⊎ P z) xs → Each P xs
      sift x P [] s h = tt
      sift x P (z ∷ zs) s h = (
        ⊎_elim (λ e. absurd (both_ways (lt x x) (law.never x) (subst (λ v. lt x v ≡ true) e s.0))) (λ p. p) h.0,
        sift x P zs s.1 h.1,
      )

      pub unique : (xs ys : List X) → Sorted lt xs → Sorted lt ys
          → ((P : X → Type 0) → Each P xs → Each P ys) → ((P : X → Type 0) → Each P ys → Each P xs) → xs ≡ ys
      unique [] [] s t f g = refl
      unique [] (y ∷ ys) s t f g = absurd (f (λ _. ⊥) tt).0
      unique (x ∷ xs) [] s t f g = absurd (g (λ _. ⊥) tt).0
      unique (x ∷ xs) (y ∷ ys) s t f g =
          let below = λ (a : X) (rest : List X) (h : Each (λ z. lt a z ≡ true) rest). All-weaker (λ z. lt a z ≡ true) (λ z. (z ≡ a) ⊎ (lt a z ≡ true)) (λ z. inr) rest h in
          let one : (y ≡ x) ⊎ (lt x y ≡ true) = (f (λ z. (z ≡ x) ⊎ (lt x z ≡ true)) (inl refl, below x xs s.0)).0 in
          let two : (x ≡ y) ⊎ (lt y x ≡ true) = (g (λ z. (z ≡ y) ⊎ (lt y z ≡ true)) (inl refl, below y ys t.0)).0 in
          let same : y ≡ x = ⊎_elim (λ e. e) (λ h. ⊎_elim sym (λ k. absurd (asym x y h k)) two) one in
          ap₂' (sym same)
          (unique xs ys s.1 t.1
          (λ P h. sift y P ys t.0 (f (λ z. (z ≡ y) ⊎ P z) (inl (sym same), All-weaker P (λ z. (z ≡ y) ⊎ P z) (λ z. inr) xs h)).1)
          (λ P h. sift x P xs s.0 (g (λ z. (z ≡ x) ⊎ P z) (inl same, All-weaker P (λ z. (z ≡ x) ⊎ P z) (λ z. inr) ys h)).1))
        where
          ap₂' : {a b : X} {us vs : List X} → a ≡ b → us ≡ vs → a ∷ us ≡ b ∷ vs
          ap₂' p q = cc

      pub unique_perm : {xs ys : List X} → Sorted lt xs → Sorted lt ys → Perm xs ys → xs ≡ ys
      unique_perm {xs} {ys} s t p = unique xs ys s t (λ P. all_perm P p) (λ P. all_perm P (perm_sym p))

      pub sort_perm : {xs ys : List X} → Distinct key xs → Perm xs ys → sort lt xs ≡ sort lt ys
      sort_perm {xs} {ys} d p =
          unique_perm (sorted_sort lt key law xs d) (sorted_sort lt key law ys (distinct_perm key p d))
          (perm_trans (perm_sort xs) (perm_trans p (perm_sym (perm_sort ys))))

      -- an element ahead of all others comes first
      pub insert_least : (x : X) (xs : List X) → Each (λ z. lt x z ≡ true) xs → insert lt x xs ≡ x ∷ xs
      insert_least x [] h = refl
      insert_least x (y ∷ ys) h = cond-true (lt x y) (x ∷ y ∷ ys) (y ∷ insert lt x ys) h.0

      pub sort_least : (xs : List X) (x : X) (ys : List X) → Each (λ z. lt x z ≡ true) xs → Each (λ z. lt x z ≡ true) ys
          → sort lt (xs ++ x ∷ ys) ≡ x ∷ sort lt (xs ++ ys)
      sort_least [] x ys h k = insert_least x (sort lt ys) (all_sort lt (λ z. lt x z ≡ true) ys k)
      sort_least (w ∷ ws) x ys h k =
          ap (insert lt w) (sort_least ws x ys h.1 k) ∙
          cond-false (lt w x) (w ∷ x ∷ sort lt (ws ++ ys)) (x ∷ insert lt w (sort lt (ws ++ ys)))
          (⊎_elim (λ e. absurd (asym w x e h.0)) (λ e. e) (cases_Bool (lt w x)))

module _ {X Y : Type 0} (f : X → Option Y) where
  pub and_then_perm : (r : Option Y) {ys zs : List Y} → Perm ys zs → Perm (and_then r ys) (and_then r zs)
  and_then_perm None p = p
  and_then_perm (Some y) p = perm_cons p

  and_then_swap : (r s : Option Y) (ys : List Y) → Perm (and_then r (and_then s ys)) (and_then s (and_then r ys))
  and_then_swap None s ys = perm_refl (and_then s ys)
  and_then_swap (Some y) None ys = perm_refl (y ∷ ys)
  and_then_swap (Some y) (Some z) ys = perm_swap

  pub perm_picked : {xs ys : List X} → Perm xs ys → Perm (picked f xs) (picked f ys)
  perm_picked perm_nil = perm_nil
  perm_picked (perm_cons {x} p) = and_then_perm (f x) (perm_picked p)
  perm_picked (perm_swap {x} {y} {xs}) = and_then_swap (f x) (f y) (picked f xs)
  perm_picked (perm_trans p q) = perm_trans (perm_picked p) (perm_picked q)

  pub picked_append : (xs ys : List X) → picked f (xs ++ ys) ≡ picked f xs ++ picked f ys
  picked_append [] ys = refl
  picked_append (x ∷ xs) ys = ap (and_then (f x)) (picked_append xs ys) ∙ out (f x)
    where
      out : (r : Option Y) → and_then r (picked f xs ++ picked f ys) ≡ and_then r (picked f xs) ++ picked f ys
      out None = refl
      out (Some y) = refl
