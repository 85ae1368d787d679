-- The Retail Orders that are held against the resting orders
use Rattle.terms.specs.declared.market.Side.{Side}
use Rattle.terms.specs.declared.market.Side.TheVariants.{Buy, Sell}
use Rattle.terms.specs.declared.orders.RetailOrder.{RetailOrder}
use Rattle.terms.specs.declared.orders.RetailType.TheVariants.{One, Two}

-- A Retail sell of Type 1 at 10.000 dollars or more is held against the buys, and a Retail buy of Type 2 at 10.060 dollars or
-- less against the sells.
abbrev pub held_against : Side → RetailOrder
held_against Buy = record { member = 7; side = Sell; kind = One; limit = 10000; shares = 800 }
held_against Sell = record { member = 7; side = Buy; kind = Two; limit = 10060; shares = 500 }
