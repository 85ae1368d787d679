-- No more fills than resting orders
use Rattle.std.proofs.Common.{ℕ, ◌-◌, ◌≤◌, min, Bool, eqb, List, [], ◌∷◌, length, arith}
use Rattle.std.proofs.lemmas.Bool.{cond_both}
use Rattle.terms.specs.declared.orders.Ranked.{Ranked}
use Rattle.terms.specs.declared.orders.RetailOrder.{RetailOrder}
use Rattle.rules.specs.Lists.{insert, sort}
use Rattle.quotes.specs.Quotes.{best_pair}
use Rattle.rules.specs.Rules.{candidate, eligible, ahead, sequence, along, fill_of}
use Rattle.rules.proofs.Picks.{length_picked}
use Rattle.laws.specs.Book.{State, fills_now}
use Rattle.laws.specs.Sound.{FillsFit}

module _ {X : Type 0} (lt : X → X → Bool) where
  length_insert : (x : X) (xs : List X) → length (insert lt x xs) ≤ length (x ∷ xs)
  length_insert x [] = omega arith
  length_insert x (y ∷ ys) =
      cond_both (lt x y) (x ∷ y ∷ ys) (y ∷ insert lt x ys) (λ l. length l ≤ length (x ∷ y ∷ ys)) (λ _. omega arith) (λ _. omega (arith, length_insert x ys))

  length_sort : (xs : List X) → length (sort lt xs) ≤ length xs
  length_sort [] = omega arith
  length_sort (x ∷ xs) = omega (arith, length_insert x (sort lt xs), length_sort xs)

length_along : (q : List Ranked) (n : ℕ) → length (along q n) ≤ length q
length_along [] n = omega arith
length_along (o ∷ os) n =
    cond_both (eqb n 0) [] (fill_of o (min n o.shares) ∷ along os (n - o.shares)) (λ l. length l ≤ length (o ∷ os)) (λ _. omega arith) (λ _. omega (arith, length_along os (n - o.shares)))

-- there are no more fills than resting orders
pub fills_few : (centres : ℕ) (s : State) (r : RetailOrder) → length (fills_now centres s r) ≤ length s.book.resting
fills_few centres s r =
    let q = best_pair centres s.quotes in
    let es = eligible q r s.book.resting in
    omega (arith, length_picked (candidate q r) s.book.resting, length_sort (ahead r.side) es, length_along (sequence r.side es) r.shares)

pub fills_fit : FillsFit
fills_fit centres s r h = omega (arith, fills_few centres s r, h.orders_fit)
