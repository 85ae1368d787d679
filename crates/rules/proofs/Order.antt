-- The sequence of fills is a strict order, total on orders of distinct numbers
use Rattle.std.proofs.Common.{◌≡◌, ℕ, Bool, true, false, ◌&&◌, ◌||◌, eqb, arith}
use Rattle.std.proofs.lemmas.Bool.Decides.{nat_tests}
use Rattle.terms.specs.declared.market.Side.{Side}
use Rattle.terms.specs.declared.market.Side.TheVariants.{Buy, Sell}
use Rattle.terms.specs.declared.orders.Ranked.{Ranked}
use Rattle.rules.specs.Rules.{better, earlier, is_displayed, ahead}
use Rattle.rules.specs.Allotment.{AsGood}
use Rattle.rules.proofs.Sorting.{Strict}

-- `ahead` over the parts
abbrev before : Side → ℕ → Bool → ℕ → ℕ → Bool → ℕ → Bool
before side p s n p' s' n' = better side p p' || (eqb p p' && earlier s s' n n')

never : (side : Side) (p n : ℕ) (s : Bool) → before side p s n p s n ≡ false
never Buy p n true = grind (arith, nat_tests)
never Buy p n false = grind (arith, nat_tests)
never Sell p n true = grind (arith, nat_tests)
never Sell p n false = grind (arith, nat_tests)

total : (side : Side) (p n p' n' : ℕ) (s s' : Bool) → (n' ≡ n → ⊥) → before side p s n p' s' n' ≡ false → before side p' s' n' p s n ≡ true
total Buy p n p' n' true true d h = grind (arith, nat_tests)
total Buy p n p' n' true false d h = grind (arith, nat_tests)
total Buy p n p' n' false true d h = grind (arith, nat_tests)
total Buy p n p' n' false false d h = grind (arith, nat_tests)
total Sell p n p' n' true true d h = grind (arith, nat_tests)
total Sell p n p' n' true false d h = grind (arith, nat_tests)
total Sell p n p' n' false true d h = grind (arith, nat_tests)
total Sell p n p' n' false false d h = grind (arith, nat_tests)

trans : (side : Side) (p n p' n' p'' n'' : ℕ) (s s' s'' : Bool) → before side p s n p' s' n' ≡ true → before side p' s' n' p'' s'' n'' ≡ true → before side p s n p'' s'' n'' ≡ true
trans Buy p n p' n' p'' n'' true true true h k = grind (arith, nat_tests)
trans Buy p n p' n' p'' n'' true true false h k = grind (arith, nat_tests)
trans Buy p n p' n' p'' n'' true false true h k = grind (arith, nat_tests)
trans Buy p n p' n' p'' n'' true false false h k = grind (arith, nat_tests)
trans Buy p n p' n' p'' n'' false true true h k = grind (arith, nat_tests)
trans Buy p n p' n' p'' n'' false true false h k = grind (arith, nat_tests)
trans Buy p n p' n' p'' n'' false false true h k = grind (arith, nat_tests)
trans Buy p n p' n' p'' n'' false false false h k = grind (arith, nat_tests)
trans Sell p n p' n' p'' n'' true true true h k = grind (arith, nat_tests)
trans Sell p n p' n' p'' n'' true true false h k = grind (arith, nat_tests)
trans Sell p n p' n' p'' n'' true false true h k = grind (arith, nat_tests)
trans Sell p n p' n' p'' n'' true false false h k = grind (arith, nat_tests)
trans Sell p n p' n' p'' n'' false true true h k = grind (arith, nat_tests)
trans Sell p n p' n' p'' n'' false true false h k = grind (arith, nat_tests)
trans Sell p n p' n' p'' n'' false false true h k = grind (arith, nat_tests)
trans Sell p n p' n' p'' n'' false false false h k = grind (arith, nat_tests)

as_good : (side : Side) (p n p' n' : ℕ) (s s' : Bool) → before side p s n p' s' n' ≡ true → AsGood side p p'
as_good Buy p n p' n' s s' h = grind (arith, nat_tests)
as_good Sell p n p' n' s s' h = grind (arith, nat_tests)

pub ahead_strict : (side : Side) → Strict (ahead side) (λ o. o.number)
ahead_strict side = record {
  never = λ a. never side a.price a.number (is_displayed a.kind);
  trans = λ a b c. trans side a.price a.number b.price b.number c.price c.number (is_displayed a.kind) (is_displayed b.kind) (is_displayed c.kind);
  total = λ a b. total side a.price a.number b.price b.number (is_displayed a.kind) (is_displayed b.kind);
}

pub ahead_as_good : (side : Side) (a b : Ranked) → ahead side a b ≡ true → AsGood side a.price b.price
ahead_as_good side a b = as_good side a.price a.number b.price b.number (is_displayed a.kind) (is_displayed b.kind)
