-- What the rules owe their reader, in plain relations: above each definition that computes stands one that says what holds
use Rattle.std.specs.Prelude.{◌≡◌, ℕ, ◌+◌, ◌-◌, ◌<◌, ◌≤◌, true, ◌⊎◌, List, Some, None, Option, ◌≢◌}
use Rattle.std.specs.List.{ContainsAt as Has, AllByRecursion as Each}
use Rattle.terms.specs.declared.market.Side.{Side}
use Rattle.terms.specs.declared.market.Side.TheVariants.{Buy, Sell}
use Rattle.terms.specs.declared.orders.OrderKind.{OrderKind}
use Rattle.terms.specs.declared.orders.OrderKind.TheVariants.{Rpi, Hidden, Displayed}
use Rattle.terms.specs.declared.orders.RetailType.{RetailType}
use Rattle.terms.specs.declared.orders.RetailType.TheVariants.{One, Two, TwoRoutable}
use Rattle.terms.specs.declared.orders.RestingOrder.{RestingOrder}
use Rattle.terms.specs.declared.orders.RetailOrder.{RetailOrder}
use Rattle.terms.specs.declared.orders.Ranked.{Ranked}
use Rattle.terms.specs.declared.orders.Fill.{Fill}
use Rattle.terms.specs.Words.{ExactlyIf}
use Rattle.rules.specs.Lists.{Distinct, Downward}
use Rattle.rules.specs.Rules.{BestPair, ranked_price, candidate, at_price, eligible, fills, filled_to, cancelled_rest, waiting_rest, side_on, ahead}

-- RANKED PRICE

-- The price p that a buy with a ceiling and an offset has at a protected bid: no more than either, and one of the two.
pub record RanksBuy (ceiling offset bid p : ℕ) : Type 0 where
  pub under_ceiling : p ≤ ceiling
  pub under_bid : p ≤ bid + offset
  pub one : (p ≡ ceiling) ⊎ (p ≡ bid + offset)

-- The price p that a sell with a floor and an offset has at a protected offer: no less than either, and one of the two.
pub record RanksSell (floor offset offer p : ℕ) : Type 0 where
  pub over_floor : floor ≤ p
  pub over_offer : offer ≤ p + offset
  pub one : (p ≡ floor) ⊎ (p + offset ≡ offer)

-- While no quote of its side is protected, such an order has no price.
abbrev pub Follows : Side → (limit offset : ℕ) → BestPair → (p : ℕ) → Type 0
Follows Buy limit offset (None, offer) p = ⊥
Follows Buy limit offset (Some bid, offer) p = RanksBuy limit offset bid p
Follows Sell limit offset (bid, None) p = ⊥
Follows Sell limit offset (bid, Some offer) p = RanksSell limit offset offer p

-- Only an RPI Order follows the quote by its offset; every other order's price is its limit.
abbrev pub Ranks : OrderKind → Option ℕ → Side → (limit : ℕ) → BestPair → (p : ℕ) → Type 0
Ranks Rpi (Some offset) side limit best p = Follows side limit offset best p
Ranks Rpi None side limit best p = p ≡ limit
Ranks Hidden offset side limit best p = p ≡ limit
Ranks Displayed offset side limit best p = p ≡ limit

abbrev pub RanksAt : BestPair → RestingOrder → ℕ → Type 0
RanksAt best o p = Ranks o.kind o.offset o.side o.limit best p

-- ELIGIBILITY

-- What a Retail sell with the limit L asks of a buy order at the price p, where the protected bid is the given one.
abbrev pub SellMeetsOrdinary : RetailType → (L p : ℕ) → Option ℕ → Type 0
SellMeetsOrdinary One L p None = ⊥
SellMeetsOrdinary One L p (Some bid) = (bid + 1 ≤ p) × (L ≤ p)
SellMeetsOrdinary Two L p None = L ≤ p
SellMeetsOrdinary Two L p (Some bid) = (bid ≤ p) × (L ≤ p)
SellMeetsOrdinary TwoRoutable L p None = L ≤ p
SellMeetsOrdinary TwoRoutable L p (Some bid) = (bid ≤ p) × (L ≤ p)

abbrev pub SellMeetsRpi : (L p : ℕ) → Option ℕ → Type 0
SellMeetsRpi L p None = ⊥
SellMeetsRpi L p (Some bid) = (bid + 1 ≤ p) × (L ≤ p) × (1_000 ≤ p)

-- What a Retail buy with the limit L asks of a sell order at the price p, where the protected offer is the given one.
abbrev pub BuyMeetsOrdinary : RetailType → (L p : ℕ) → Option ℕ → Type 0
BuyMeetsOrdinary One L p None = ⊥
BuyMeetsOrdinary One L p (Some offer) = (p + 1 ≤ offer) × (p ≤ L)
BuyMeetsOrdinary Two L p None = p ≤ L
BuyMeetsOrdinary Two L p (Some offer) = (p ≤ offer) × (p ≤ L)
BuyMeetsOrdinary TwoRoutable L p None = p ≤ L
BuyMeetsOrdinary TwoRoutable L p (Some offer) = (p ≤ offer) × (p ≤ L)

abbrev pub BuyMeetsRpi : (L p : ℕ) → Option ℕ → Type 0
BuyMeetsRpi L p None = ⊥
BuyMeetsRpi L p (Some offer) = (p + 1 ≤ offer) × (p ≤ L) × (1_000 ≤ p)

abbrev pub SellMeets : RetailType → OrderKind → (L p : ℕ) → Option ℕ → Type 0
SellMeets type Rpi L p bid = SellMeetsRpi L p bid
SellMeets type Hidden L p bid = SellMeetsOrdinary type L p bid
SellMeets type Displayed L p bid = SellMeetsOrdinary type L p bid

abbrev pub BuyMeets : RetailType → OrderKind → (L p : ℕ) → Option ℕ → Type 0
BuyMeets type Rpi L p offer = BuyMeetsRpi L p offer
BuyMeets type Hidden L p offer = BuyMeetsOrdinary type L p offer
BuyMeets type Displayed L p offer = BuyMeetsOrdinary type L p offer

-- What is asked of an order by a Retail Order of the other side: a Retail sell holds buys against the protected bid, a Retail buy holds sells against the protected offer. Orders of one side never meet.
abbrev pub Meets : (customer order : Side) → RetailType → OrderKind → (L p : ℕ) → BestPair → Type 0
Meets Sell Buy type kind L p best = SellMeets type kind L p best.0
Meets Buy Sell type kind L p best = BuyMeets type kind L p best.1
Meets Sell Sell type kind L p best = ⊥
Meets Buy Buy type kind L p best = ⊥

-- An order is eligible for a Retail Order at p exactly if p is its ranked price and the Retail Order meets it there.
pub record EligibleAt (best : BestPair) (r : RetailOrder) (o : RestingOrder) (p : ℕ) : Type 0 where
  pub ranks : RanksAt best o p
  pub meets : Meets r.side o.side r.kind o.kind r.limit p best

-- An order is found eligible as e exactly if e has its number, its kind and its shares, and a price at which it is eligible.
pub record FoundAs (best : BestPair) (r : RetailOrder) (o : RestingOrder) (e : Ranked) : Type 0 where
  pub number : e.number ≡ o.number
  pub kind : e.kind ≡ o.kind
  pub shares : e.shares ≡ o.shares
  pub eligible : EligibleAt best r o e.price

-- SEQUENCE AND PRIORITY

-- p is better for the customer than m
abbrev pub BetterPrice : (customer : Side) → (p m : ℕ) → Type 0
BetterPrice Buy p m = p < m
BetterPrice Sell p m = m < p

-- At one price displayed orders are ahead of the others, and then the lower number is ahead.
pub data AheadAtPrice (m n : ℕ) : (kind kind' : OrderKind) → Type 0 where
  displayed_first : (kind' : OrderKind) → (kind' ≢ Displayed) → AheadAtPrice m n Displayed kind'
  displayed_both : m < n → AheadAtPrice m n Displayed Displayed
  undisplayed_both : (kind kind' : OrderKind) → (kind ≢ Displayed) → (kind' ≢ Displayed) → m < n → AheadAtPrice m n kind kind'

-- a is ahead of b: it has the better price for the customer, or at the same price it is ahead there
abbrev pub Ahead : (customer : Side) → Ranked → Ranked → Type 0
Ahead customer a b = BetterPrice customer a.price b.price ⊎ ((a.price ≡ b.price) × AheadAtPrice a.number b.number a.kind b.kind)

-- The eligible order that a fill names.
abbrev pub BehindFill : List Ranked → Fill → Ranked → Type 0
BehindFill orders f o = Has orders o × (o.number ≡ f.number)

-- Priority among these eligible orders: along the fill list each order is ahead of every later one, each stands there once, and with shares if it has any, every eligible order ahead of a filled one is filled whole, and only the last fill can be partial.
pub record InPriority (customer : Side) (orders : List Ranked) (fs : List Fill) : Type 0 where
  pub in_turn : Downward (λ f g. (a b : Ranked) → BehindFill orders f a → BehindFill orders g b → Ahead customer a b) fs
  pub once : Distinct (λ f. f.number) fs
  pub some : Each (λ f. (a : Ranked) → BehindFill orders f a → 0 < a.shares → 0 < f.shares) fs
  pub ahead_whole : (a b : Ranked) → Has orders a → Has orders b → Ahead customer a b → 0 < filled_to fs b.number → filled_to fs a.number ≡ a.shares
  pub last_partial : Downward (λ f g. (a : Ranked) → BehindFill orders f a → f.shares ≡ a.shares) fs

-- REMAINDER

-- Shares are filled, cancelled or waiting; none waits unless the order is routable, and none is cancelled if it is.
pub record Remains (type : RetailType) (shares filled cancelled waiting : ℕ) : Type 0 where
  pub all : shares ≡ filled + cancelled + waiting
  pub waits_if_routable : (type ≢ TwoRoutable) → waiting ≡ 0
  pub cancels_if_not : type ≡ TwoRoutable → cancelled ≡ 0

-- LIQUIDITY IDENTIFIER

-- The book has an RPI Order of that side that some Retail Order of the other side, at some limit, would find eligible.
pub record SomeRpi (best : BestPair) (resting : List RestingOrder) (side : Side) : Type 0 where
  pub order : RestingOrder
  pub rests : Has resting order
  pub is_rpi : order.kind ≡ Rpi
  pub of_side : order.side ≡ side
  pub customer : RetailOrder
  pub price : ℕ
  pub eligible : EligibleAt best customer order price

-- THE LAWS

pub record RulesHold (best : BestPair) (resting : List RestingOrder) : Type 0 where
  pub ranks : (o : RestingOrder) (p : ℕ) → ExactlyIf (ranked_price best o ≡ Some p) (RanksAt best o p)
  pub meets : (r : RetailOrder) (o : RestingOrder) (p : ℕ) → ExactlyIf (candidate best r o ≡ Some (at_price o p)) (EligibleAt best r o p)
  -- an eligible order is that resting order, at a price
  pub carries : (r : RetailOrder) (o : RestingOrder) (e : Ranked) → candidate best r o ≡ Some e → e ≡ at_price o e.price
  pub finds : (r : RetailOrder) (o : RestingOrder) (e : Ranked) → ExactlyIf (candidate best r o ≡ Some e) (FoundAs best r o e)
  -- in the list of the eligible orders an order stands exactly if some resting order is found eligible as it
  pub lists : (r : RetailOrder) (e : Ranked) → ExactlyIf (Has (eligible best r resting) e) ((o : RestingOrder) × Has resting o × FoundAs best r o e)
  -- where numbers rise along the resting orders, as in a book, they rise along the list, so none stands in it twice
  pub lists_rise : (r : RetailOrder) → Downward (λ a b. a.number < b.number) resting → Downward (λ a b. a.number < b.number) (eligible best r resting)
  pub precedes : (customer : Side) (a b : Ranked) → ExactlyIf (ahead customer a b ≡ true) (Ahead customer a b)
  pub remains : (type : RetailType) (shares filled : ℕ) → filled ≤ shares → Remains type shares filled (cancelled_rest type (shares - filled)) (waiting_rest type (shares - filled))
  pub identifies : (side : Side) → ExactlyIf (side_on best resting side ≡ true) (SomeRpi best resting side)

abbrev pub RulesAlwaysHold : Type 0
RulesAlwaysHold = (best : BestPair) (resting : List RestingOrder) → RulesHold best resting

-- Fills in their sequence keep priority, whatever the eligible orders.
abbrev pub FillsKeepPriority : Type 0
FillsKeepPriority = (customer : Side) (orders : List Ranked) (n : ℕ) → Distinct (λ o. o.number) orders → InPriority customer orders (fills customer orders n)
