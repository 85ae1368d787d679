-- What a resting order is worth, which orders a Retail Order meets, how they are filled, and what remains
use Rattle.std.specs.Prelude.{ℕ, ◌+◌, ◌-◌, min, max, Bool, true, false, cond, ◌&&◌, ◌||◌, List, [], ◌∷◌, Some, None, Option, ◌==◌, nat_le, nat_lt}
use Rattle.terms.specs.declared.market.Side.{Side}
use Rattle.terms.specs.declared.market.Side.TheVariants.{Buy, Sell}
use Rattle.terms.specs.declared.orders.OrderKind.{OrderKind}
use Rattle.terms.specs.declared.orders.OrderKind.TheVariants.{Rpi, Hidden, Displayed}
use Rattle.terms.specs.declared.orders.RetailType.{RetailType}
use Rattle.terms.specs.declared.orders.RetailType.TheVariants.{One, Two, TwoRoutable}
use Rattle.terms.specs.declared.orders.RestingOrder.{RestingOrder}
use Rattle.terms.specs.declared.orders.RetailOrder.{RetailOrder}
use Rattle.terms.specs.declared.orders.Ranked.{Ranked}
use Rattle.terms.specs.declared.orders.Fill.{Fill}
use Rattle.terms.specs.Words.{only_if, same_side}
use Rattle.rules.specs.Lists.{sum_of, any, picked, sort}

-- TWO NUMBERS

-- By how many mills an RPI Order must better the protected quote, and the lowest price at which it may, in mills.
abbrev pub least_improvement : ℕ
least_improvement = 1

abbrev pub lowest_rpi_price : ℕ
lowest_rpi_price = 1_000

-- RANKED PRICE

-- The best prices of the two sides, the bid and the offer; a side without a quote has none.
abbrev pub BestPair : Type 0
BestPair = Option ℕ × Option ℕ

-- the protected quote on an order's own side
abbrev pub own_side : BestPair → Side → Option ℕ
own_side best Buy = best.0
own_side best Sell = best.1

-- A buy follows the protected bid by its offset up to its ceiling; a sell follows the protected offer by its offset down to its floor.
abbrev pub following : Side → (limit offset quote : ℕ) → ℕ
following Buy ceiling offset bid = min ceiling (bid + offset)
following Sell floor offset offer = max floor (offer - offset)

-- An offset is counted from the quote of the order's own side; while none is protected there, the order has no price.
abbrev pub with_offset : Side → (limit offset : ℕ) → Option ℕ → Option ℕ
with_offset side limit offset None = None
with_offset side limit offset (Some quote) = Some (following side limit offset quote)

-- Only an RPI Order with an offset follows the quote; any other is ranked at its limit.
abbrev pub priced : OrderKind → Option ℕ → Side → (limit : ℕ) → Option ℕ → Option ℕ
priced Rpi None side limit quote = Some limit
priced Rpi (Some offset) side limit quote = with_offset side limit offset quote
priced Hidden offset side limit quote = Some limit
priced Displayed offset side limit quote = Some limit

abbrev pub ranked_price : BestPair → RestingOrder → Option ℕ
ranked_price best o = priced o.kind o.offset o.side o.limit (own_side best o.side)

-- ELIGIBILITY

-- p is better, or no worse, for the customer than m: who buys wants a low price, who sells a high one
abbrev pub better : (customer : Side) → ℕ → ℕ → Bool
better Buy p m = nat_lt p m
better Sell p m = nat_lt m p

abbrev pub no_worse : (customer : Side) → ℕ → ℕ → Bool
no_worse Buy p m = nat_le p m
no_worse Sell p m = nat_le m p

-- p is better by so many mills or more
abbrev pub better_by : ℕ → (customer : Side) → ℕ → ℕ → Bool
better_by mills Buy p m = nat_le (p + mills) m
better_by mills Sell p m = nat_le (m + mills) p

-- p betters the protected quote, which must be present, by so many mills or more
abbrev pub improves : ℕ → (customer : Side) → ℕ → Option ℕ → Bool
improves mills customer p None = false
improves mills customer p (Some quote) = better_by mills customer p quote

-- p is no worse than the protected quote, if that is present
abbrev pub matches : (customer : Side) → ℕ → Option ℕ → Bool
matches customer p None = true
matches customer p (Some quote) = no_worse customer p quote

-- An RPI Order must better the protected quote, at a dollar or more.
abbrev pub rpi_eligible : (customer : Side) → ℕ → Option ℕ → Bool
rpi_eligible customer p quote = improves least_improvement customer p quote && nat_le lowest_rpi_price p

-- A hidden or displayed order must better it, by a mill, for Type 1, and be no worse for Type 2.
abbrev pub ordinary_eligible : RetailType → (customer : Side) → ℕ → Option ℕ → Bool
ordinary_eligible One customer p quote = improves 1 customer p quote
ordinary_eligible Two customer p quote = matches customer p quote
ordinary_eligible TwoRoutable customer p quote = matches customer p quote

abbrev pub quote_allows : OrderKind → RetailType → (customer : Side) → ℕ → Option ℕ → Bool
quote_allows Rpi type customer p quote = rpi_eligible customer p quote
quote_allows Hidden type customer p quote = ordinary_eligible type customer p quote
quote_allows Displayed type customer p quote = ordinary_eligible type customer p quote

-- A Retail sell meets buy orders, a Retail buy sell orders.
abbrev pub opposite : Side → Side
opposite Buy = Sell
opposite Sell = Buy

-- whether an order at the price p is eligible for a Retail Order
abbrev pub eligible_at : BestPair → RetailOrder → RestingOrder → ℕ → Bool
eligible_at best r o p =
    same_side o.side (opposite r.side)
    && (quote_allows o.kind r.kind r.side p (own_side best o.side) && no_worse r.side p r.limit)

abbrev pub at_price : RestingOrder → ℕ → Ranked
at_price o p = record { number = o.number; kind = o.kind; price = p; shares = o.shares }

-- the order at its ranked price, if it has one and is eligible at it
abbrev pub if_eligible : BestPair → RetailOrder → RestingOrder → Option ℕ → Option Ranked
if_eligible best r o None = None
if_eligible best r o (Some p) = only_if (eligible_at best r o p) (Some (at_price o p))

abbrev pub candidate : BestPair → RetailOrder → RestingOrder → Option Ranked
candidate best r o = if_eligible best r o (ranked_price best o)

-- the eligible orders of a book, each at its ranked price
abbrev pub eligible : BestPair → RetailOrder → List RestingOrder → List Ranked
eligible best r resting = picked (candidate best r) resting

-- SEQUENCE OF FILLS

abbrev pub is_displayed : OrderKind → Bool
is_displayed Rpi = false
is_displayed Hidden = false
is_displayed Displayed = true

-- at one price: displayed orders first, then lower numbers
abbrev pub earlier : (displayed displayed' : Bool) → (number number' : ℕ) → Bool
earlier true false m n = true
earlier false true m n = false
earlier true true m n = nat_lt m n
earlier false false m n = nat_lt m n

-- a is filled before b
abbrev pub ahead : (customer : Side) → Ranked → Ranked → Bool
ahead customer a b =
    better customer a.price b.price
    || (a.price == b.price && earlier (is_displayed a.kind) (is_displayed b.kind) a.number b.number)

abbrev pub sequence : (customer : Side) → List Ranked → List Ranked
sequence customer orders = sort (ahead customer) orders

-- FILLS

abbrev pub fill_of : Ranked → ℕ → Fill
fill_of o n = record { number = o.number; price = o.price; shares = n }

-- n shares allotted along a sequence until they or the sequence run out
abbrev pub along : List Ranked → ℕ → List Fill
along [] n = []
along (o ∷ os) n = cond (n == 0) [] (fill_of o (min n o.shares) ∷ along os (n - o.shares))

abbrev pub fills : (customer : Side) → List Ranked → ℕ → List Fill
fills customer orders n = along (sequence customer orders) n

-- the shares of all fills, and those of the order of one number
abbrev pub filled : List Fill → ℕ
filled fs = sum_of (λ f. f.shares) fs

abbrev pub filled_to : List Fill → ℕ → ℕ
filled_to fs number = sum_of (λ f. cond (f.number == number) f.shares 0) fs

-- An order filled in part rests with its remaining shares.
abbrev pub with_shares : RestingOrder → ℕ → RestingOrder
with_shares o n =
    record { number = o.number; member = o.member; side = o.side; kind = o.kind; limit = o.limit; offset = o.offset; shares = n }

-- What some fills leave of an order: it rests with its remaining shares; if none remain, it leaves.
abbrev pub after_fill : List Fill → RestingOrder → Option RestingOrder
after_fill fs o =
    let left = o.shares - filled_to fs o.number in
    cond (left == 0) None (Some (with_shares o left))

-- REMAINDER: it goes onto a slip if the Retail Order is routable, and is cancelled otherwise

abbrev pub routable : RetailType → Bool
routable One = false
routable Two = false
routable TwoRoutable = true

abbrev pub cancelled_rest : RetailType → (rest : ℕ) → ℕ
cancelled_rest type rest = cond (routable type) 0 rest

abbrev pub waiting_rest : RetailType → (rest : ℕ) → ℕ
waiting_rest type rest = cond (routable type) rest 0

-- LIQUIDITY IDENTIFIER

abbrev pub rpi_shows : OrderKind → (customer : Side) → Option ℕ → Option ℕ → Bool
rpi_shows Rpi customer None quote = false
rpi_shows Rpi customer (Some p) quote = rpi_eligible customer p quote
rpi_shows Hidden customer p quote = false
rpi_shows Displayed customer p quote = false

-- A side is shown if there is an RPI Order on it that passes every test but that of the Retail limit.
abbrev pub side_on : BestPair → List RestingOrder → Side → Bool
side_on best resting side =
    any (λ o. same_side o.side side && rpi_shows o.kind (opposite side) (ranked_price best o) (own_side best side)) resting
