-- The first of three heads
use Rattle.std.specs.Prelude.{◌≡◌, Bool, true, false, List, [], ◌++◌, Some, None, Option}
use Rattle.std.specs.Borrow.{Bor}
use Rattle.terms.specs.declared.market.Side.{Side}
use Rattle.terms.specs.declared.orders.RestingOrder.{RestingOrder}
use Rattle.terms.specs.declared.orders.Ranked.{Ranked}
use Rattle.rules.specs.Lists.{Distinct, and_then, sort}
use Rattle.rules.specs.Rules.{ahead}
use Rattle.rules.specs.Sorted.{Sorted}
use Rattle.matching.specs.declared.lanes.Lanes.{Lanes}
use Rattle.matching.specs.Lanes.{Gives}

-- the first of two heads is filled first, or there is no second
abbrev pub leads_by : (customer : Side) → Option Ranked → Option Ranked → Bool
leads_by customer head None = true
leads_by customer None (Some b) = false
leads_by customer (Some a) (Some b) = ahead customer a b

-- what three lanes have yet to give, in the sequence of fills
abbrev pub merged : (customer : Side) → (xs ys zs : List Ranked) → List Ranked
merged customer xs ys zs = sort (ahead customer) (xs ++ (ys ++ zs))

-- each lane gives its orders in the sequence of fills, and no two orders have one number
pub record Fit (customer : Side) (xs ys zs : List Ranked) : Type 0 where
  pub first : Sorted (ahead customer) xs
  pub second : Sorted (ahead customer) ys
  pub third : Sorted (ahead customer) zs
  pub apart : Distinct (λ e. e.number) (merged customer xs ys zs)

-- first is what three lanes had to give first, and they have the others
pub record Turned (customer : Side) (xs ys zs : List Ranked) (first : Option Ranked) (xs' ys' zs' : List Ranked) : Type 0 where
  pub takes : merged customer xs ys zs ≡ and_then first (merged customer xs' ys' zs')
  pub ends : first ≡ None → merged customer xs ys zs ≡ []
  pub fit : Fit customer xs' ys' zs'

module _ {F G : Type 0} (answers : F → Bor RestingOrder → Option Ranked → Type 0) (answers' : G → Bor RestingOrder → Option Ranked → Type 0) where
  -- three lanes give these orders, and fit
  pub record GiveAll (customer : Side) (l : Lanes F G) (xs ys zs : List Ranked) : Type 0 where
    pub fixed : Gives answers l.fixed xs
    pub following : Gives answers l.following ys
    pub by_offset : Gives answers' l.by_offset zs
    pub fit : Fit customer xs ys zs

  -- they gave these orders, and now give all but the first
  pub record Turn (customer : Side) (xs ys zs : List Ranked) (first : Option Ranked) (l : Lanes F G) : Type 0 where
    pub xs' : List Ranked
    pub ys' : List Ranked
    pub zs' : List Ranked
    pub turned : Turned customer xs ys zs first xs' ys' zs'
    pub gives : GiveAll customer l xs' ys' zs'
