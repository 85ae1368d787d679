-- The fills in their sequence have the most shares at the best cost
use Rattle.std.proofs.Common.{◌≡◌, ℕ, ◌+◌, ◌-◌, ◌*◌, ◌≤◌, min, true, cond, eqb, List, [], ◌∷◌, sym, refl, ◌∙◌, subst, arith}
use Rattle.std.specs.List.{ContainsAt as Has, AllByRecursion as Each}
use Rattle.std.proofs.ByRecursion.{All-weaker, all_has_itself}
use Rattle.std.proofs.lemmas.Bool.{cond_both, eqb-true, eq-eqb, ne_eqb, cond-true, cond-false}
use Rattle.terms.specs.declared.market.Side.{Side}
use Rattle.terms.specs.declared.orders.Ranked.{Ranked}
use Rattle.rules.specs.Rules.{along, fill_of, ahead, sequence, fills, filled_to}
use Rattle.rules.specs.Allotment.{allotted, worth, first_worth, AsGood, FillsHaveMost, FillsCostBest}
use Rattle.rules.specs.Lists.{Distinct}
use Rattle.rules.specs.Sorted.{Sorted}
use Rattle.rules.proofs.Sorting.{all_sort, all_unsort, sum_sort, sorted_sort, distinct_sort}
use Rattle.rules.proofs.Greedy.{depth, Falling, filled_along, allotted_le, filled_to_none, first_worth_along, best_along}
use Rattle.rules.proofs.Members.{all_both, sum_same}
use Rattle.rules.proofs.Order.{ahead_strict, ahead_as_good}

along_zero : (q : List Ranked) → along q 0 ≡ []
along_zero [] = refl
along_zero (o ∷ os) = refl

-- the first order of the list, and the rest of it
filled_to_cons : (o : Ranked) (os : List Ranked) (n m : ℕ)
    → filled_to (along (o ∷ os) n) m ≡ cond (eqb o.number m) (min n o.shares) 0 + filled_to (along os (n - o.shares)) m
filled_to_cons o os n m =
    cond_both (eqb n 0) [] (fill_of o (min n o.shares) ∷ along os (n - o.shares))
    (λ l. filled_to l m ≡ cond (eqb o.number m) (min n o.shares) 0 + filled_to (along os (n - o.shares)) m)
    (λ e.
    let z : n ≡ 0 = eqb-true n 0 e in
    let y : n - o.shares ≡ 0 = omega arith in
    let x : filled_to (along os (n - o.shares)) m ≡ 0 = rw (y, along_zero os) in
    cond_both (eqb o.number m) (min n o.shares) 0 (λ v. 0 ≡ v + filled_to (along os (n - o.shares)) m)
    (λ _. omega arith) (λ _. omega arith))
    (λ e. refl)

-- what a later order gets does not depend on the first one's number
pub others : (o : Ranked) (os : List Ranked) (n : ℕ) → Each (λ p. p.number ≡ o.number → ⊥) os
    → (q : Ranked) → (q.number ≡ o.number → ⊥) → filled_to (along (o ∷ os) n) q.number ≡ filled_to (along os (n - o.shares)) q.number
others o os n h q d =
    filled_to_cons o os n q.number ∙
    (let f : cond (eqb o.number q.number) (min n o.shares) 0 ≡ 0 = cond-false (eqb o.number q.number) (min n o.shares) 0 (ne_eqb o.number q.number (λ e. d (sym e))) in
    omega arith)

pub own : (o : Ranked) (os : List Ranked) (n : ℕ) → Each (λ p. p.number ≡ o.number → ⊥) os
    → filled_to (along (o ∷ os) n) o.number ≡ min n o.shares
own o os n h =
    let z = filled_to_none os (n - o.shares) o.number h in
    let f : cond (eqb o.number o.number) (min n o.shares) 0 ≡ min n o.shares = cond-true (eqb o.number o.number) (min n o.shares) 0 (eq-eqb o.number o.number refl) in
    filled_to_cons o os n o.number ∙ omega arith

each_along : (q : List Ranked) (n : ℕ) → Distinct (λ o. o.number) q → Each (λ o. filled_to (along q n) o.number ≤ o.shares) q
each_along [] n d = tt
each_along (o ∷ os) n d = (
  omega (arith, own o os n d.0),
  all_both (λ p. p.number ≡ o.number → ⊥) (λ p. filled_to (along os (n - o.shares)) p.number ≤ p.shares) (λ p. filled_to (along (o ∷ os) n) p.number ≤ p.shares)
      (λ p ne le. omega (arith, others o os n d.0 p ne)) os d.0 (each_along os (n - o.shares) d.1),
)

whole_along : (q : List Ranked) (n : ℕ) → Distinct (λ o. o.number) q → allotted q (filled_to (along q n)) ≡ min n (depth q)
whole_along [] n d = omega arith
whole_along (o ∷ os) n d =
    let rest = sum_same (λ p. filled_to (along (o ∷ os) n) p.number) (λ p. filled_to (along os (n - o.shares)) p.number) os
    (All-weaker (λ p. p.number ≡ o.number → ⊥) (λ p. filled_to (along (o ∷ os) n) p.number ≡ filled_to (along os (n - o.shares)) p.number) (others o os n d.0) os d.0) in
    omega (arith, own o os n d.0, rest, whole_along os (n - o.shares) d.1)

pub ranked_along : (P : Ranked → Type 0) (q : List Ranked) (n : ℕ) → Each P q
    → Each (λ f. (o : Ranked) × P o × (f.number ≡ o.number) × (f.price ≡ o.price)) (along q n)
ranked_along P [] n h = tt
ranked_along P (o ∷ os) n h =
    cond_both (eqb n 0) [] (fill_of o (min n o.shares) ∷ along os (n - o.shares))
    (Each (λ f. (o : Ranked) × P o × (f.number ≡ o.number) × (f.price ≡ o.price)))
    (λ _. tt)
    (λ _. ((o, h.0, refl, refl), ranked_along P os (n - o.shares) h.1))

falling : (side : Side) (q : List Ranked) → Sorted (ahead side) q → Falling side q
falling side [] h = tt
falling side (o ∷ os) h =
    (All-weaker (λ p. ahead side o p ≡ true) (λ p. AsGood side o.price p.price) (ahead_as_good side o) os h.0, falling side os h.1)

pub fills_have_most : FillsHaveMost
fills_have_most side es n apart =
    let lt = ahead side in
    let q = sequence side es in
    let fs = fills side es n in
    let apart' = distinct_sort lt (λ o. o.number) es apart in
    let total = filled_along q n in
    record {
      allots = record {
        each = all_unsort lt (λ o. filled_to fs o.number ≤ o.shares) es (each_along q n apart');
        within = omega (arith, sum_sort lt (λ o. filled_to fs o.number) es, whole_along q n apart');
      };
      whole = sym (sum_sort lt (λ o. filled_to fs o.number) es) ∙ (whole_along q n apart' ∙ sym total);
      ranked = ranked_along (Has es) q n (all_sort lt (Has es) es (all_has_itself es));
      most = λ a al. omega (arith, al.within, sum_sort lt (λ o. a o.number) es, allotted_le q a (all_sort lt (λ o. a o.number ≤ o.shares) es al.each));
    }

pub fills_cost_best : FillsCostBest
fills_cost_best side es n apart a k al e le =
    let lt = ahead side in
    let q = sequence side es in
    let fs = fills side es n in
    let down = falling side q (sorted_sort lt (λ o. o.number) (ahead_strict side) es apart) in
    let total = filled_along q n in
    subst (λ w. AsGood side (first_worth fs k) w) (sum_sort lt (λ o. a o.number * o.price) es)
    (subst (λ w. AsGood side w (worth q a)) (sym (first_worth_along q n k (omega arith)))
    (best_along side q a k down (all_sort lt (λ o. a o.number ≤ o.shares) es al.each) (sum_sort lt (λ o. a o.number) es ∙ e)))
