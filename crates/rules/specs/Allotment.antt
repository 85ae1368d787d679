-- Allotments of a Retail Order's shares to the eligible orders, and the best of them
use Rattle.std.specs.Prelude.{◌≡◌, ℕ, ◌+◌, ◌-◌, ◌*◌, ◌≤◌, min, List, [], ◌∷◌}
use Rattle.std.specs.List.{ContainsAt as Has, AllByRecursion as Each}
use Rattle.terms.specs.declared.market.Side.{Side}
use Rattle.terms.specs.declared.market.Side.TheVariants.{Buy, Sell}
use Rattle.terms.specs.declared.orders.Ranked.{Ranked}
use Rattle.terms.specs.declared.orders.Fill.{Fill}
use Rattle.rules.specs.Lists.{sum_of, Distinct}
use Rattle.rules.specs.Rules.{fills, filled, filled_to}

-- An allotment says how many shares the order of each number gives. In all:
abbrev pub allotted : List Ranked → (ℕ → ℕ) → ℕ
allotted orders a = sum_of (λ o. a o.number) orders

-- What it costs a buyer or brings a seller, at ranked prices:
abbrev pub worth : List Ranked → (ℕ → ℕ) → ℕ
worth orders a = sum_of (λ o. a o.number * o.price) orders

-- No eligible order gives more than its remaining shares, and all together give no more than the n shares that the Retail Order asks for.
pub record Allotment (orders : List Ranked) (n : ℕ) (a : ℕ → ℕ) : Type 0 where
  pub each : Each (λ o. a o.number ≤ o.shares) orders
  pub within : allotted orders a ≤ n

-- What the first k shares of the fills cost a buyer or bring a seller, each at the price of its fill.
abbrev pub first_worth : List Fill → ℕ → ℕ
first_worth [] k = 0
first_worth (f ∷ fs) k = min k f.shares * f.price + first_worth fs (k - f.shares)

-- x is as good for the customer as y: it costs a buyer at most, or brings a seller at least, y
abbrev pub AsGood : (customer : Side) → ℕ → ℕ → Type 0
AsGood Buy x y = x ≤ y
AsGood Sell x y = y ≤ x

-- Of a Retail Order of n shares that meets these eligible orders: the fill list is an allotment to them, each fill at its order's ranked price, and no other allotment has more shares.
pub record MostShares (orders : List Ranked) (n : ℕ) (fs : List Fill) : Type 0 where
  pub allots : Allotment orders n (filled_to fs)
  pub whole : allotted orders (filled_to fs) ≡ filled fs
  pub ranked : Each (λ f. (o : Ranked) × Has orders o × (f.number ≡ o.number) × (f.price ≡ o.price)) fs
  pub most : (a : ℕ → ℕ) → Allotment orders n a → allotted orders a ≤ filled fs

-- For each k up to the shares filled, no other allotment of k shares costs a buyer less, or brings a seller more, than the first k filled shares.
abbrev pub BestCost : (customer : Side) → List Ranked → ℕ → List Fill → Type 0
BestCost customer orders n fs = (a : ℕ → ℕ) (k : ℕ) → Allotment orders n a → allotted orders a ≡ k → k ≤ filled fs → AsGood customer (first_worth fs k) (worth orders a)

-- Fills in their sequence have the most shares at the best cost, whatever the eligible orders.
abbrev pub FillsHaveMost : Type 0
FillsHaveMost = (customer : Side) (orders : List Ranked) (n : ℕ) → Distinct (λ o. o.number) orders → MostShares orders n (fills customer orders n)

abbrev pub FillsCostBest : Type 0
FillsCostBest = (customer : Side) (orders : List Ranked) (n : ℕ) → Distinct (λ o. o.number) orders → BestCost customer orders n (fills customer orders n)
