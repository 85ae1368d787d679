-- How far down a queue a Retail Order has to go
use Rattle.std.specs.Prelude.{◌≡◌, ℕ, ◌+◌, ◌-◌, Bool, false, cond, not, List, length, take, drop, Some, None, Option}
use Rattle.std.specs.List.{AllByRecursion as Each}
use Rattle.std.specs.List.Sorted.{IsPartitionedBy}
use Rattle.terms.specs.declared.market.Side.{Side}
use Rattle.terms.specs.declared.market.Side.TheVariants.{Buy, Sell}
use Rattle.terms.specs.declared.orders.RestingOrder.{RestingOrder}
use Rattle.terms.specs.declared.orders.RetailOrder.{RetailOrder}
use Rattle.rules.specs.Rules.{BestPair, better, opposite, own_side}
use Rattle.queues.specs.Queues.{offset_of}

-- The worst price at which a Retail Order meets anything: its limit, or a protected quote that is better for the customer.
abbrev pub worse_of : (customer : Side) → (limit : ℕ) → Option ℕ → ℕ
worse_of customer limit None = limit
worse_of customer limit (Some quote) = cond (better customer quote limit) quote limit

abbrev pub worst_price : BestPair → RetailOrder → ℕ
worst_price best r = worse_of r.side r.limit (own_side best (opposite r.side))

abbrev pub within_limit : BestPair → RetailOrder → RestingOrder → Bool
within_limit best r o = not (better r.side (worst_price best r) o.limit)

-- A price off a quote by an offset, and whether it is no worse than the limit; without a quote there is none.
abbrev pub off_price : Side → (quote offset : ℕ) → ℕ
off_price Buy bid offset = bid + offset
off_price Sell offer offset = offer - offset

abbrev pub off_within : Option ℕ → RetailOrder → RestingOrder → Bool
off_within None r o = false
off_within (Some quote) r o = not (better r.side r.limit (off_price (opposite r.side) quote (offset_of o)))

abbrev pub within_offset : BestPair → RetailOrder → RestingOrder → Bool
within_offset best r o = off_within (own_side best (opposite r.side)) r o

-- These are orders at the front of a queue, and if the queue has all that pass a test before all that fail it, those after them fail it.
pub record Reaches (p : RestingOrder → Bool) (queue front : List RestingOrder) : Type 0 where
  pub here : front ≡ take (length front) queue
  pub behind : IsPartitionedBy p queue → Each (λ o. p o ≡ false) (drop (length front) queue)
