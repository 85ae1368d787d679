-- Nine worked prices, and the turns at one price, computed by the rules
use Rattle.std.specs.Prelude.{ℕ, ◌-◌, Bool, true, false, not, ◌&&◌, List, [], ◌∷◌, Some, None, Option, ◌==◌}
use Rattle.terms.specs.declared.market.Side.{Side}
use Rattle.terms.specs.declared.market.Side.TheVariants.{Buy, Sell}
use Rattle.terms.specs.declared.orders.OrderKind.{OrderKind}
use Rattle.terms.specs.declared.orders.OrderKind.TheVariants.{Rpi, Hidden, Displayed}
use Rattle.terms.specs.declared.orders.RetailType.{RetailType}
use Rattle.terms.specs.declared.orders.RetailType.TheVariants.{One, Two, TwoRoutable}
use Rattle.terms.specs.declared.orders.RestingOrder.{RestingOrder}
use Rattle.terms.specs.declared.orders.RetailOrder.{RetailOrder}
use Rattle.terms.specs.declared.orders.Fill.{Fill}
use Rattle.rules.specs.Lists.{present}
use Rattle.rules.specs.Rules.{BestPair, ranked_price, candidate, eligible, fills, filled, cancelled_rest}

abbrev pub at_bid : ℕ → BestPair
at_bid p = (Some p, None)

abbrev pub at_offer : ℕ → BestPair
at_offer p = (None, Some p)

abbrev pub no_quote : BestPair
no_quote = (None, None)

abbrev pub rests : OrderKind → Side → (number limit : ℕ) → Option ℕ → (shares : ℕ) → RestingOrder
rests kind side number limit offset shares =
    record { number = number; member = 1; side = side; kind = kind; limit = limit; offset = offset; shares = shares }

abbrev pub retail_sell : RetailType → (limit shares : ℕ) → RetailOrder
retail_sell type limit shares = record { member = 1; side = Sell; kind = type; limit = limit; shares = shares }

abbrev pub fill : (number price shares : ℕ) → Fill
fill number price shares = record { number = number; price = price; shares = shares }

abbrev pub gives_fills : BestPair → List RestingOrder → RetailOrder → List Fill
gives_fills best resting r = fills r.side (eligible best r resting) r.shares

abbrev pub cancels : BestPair → List RestingOrder → RetailOrder → ℕ
cancels best resting r = cancelled_rest r.kind (r.shares - filled (gives_fills best resting r))

abbrev pub same_fills : List Fill → List Fill → Bool
same_fills [] [] = true
same_fills [] (g ∷ gs) = false
same_fills (f ∷ fs) [] = false
same_fills (f ∷ fs) (g ∷ gs) =
    (f.number == g.number) && (f.price == g.price && (f.shares == g.shares && same_fills fs gs))

abbrev pub is_at : Option ℕ → ℕ → Bool
is_at None p = false
is_at (Some x) p = x == p

abbrev pub is_eligible : BestPair → RetailOrder → RestingOrder → Bool
is_eligible best r o = present (candidate best r o)

-- a buy that follows the bid by 15 mills up to 10,040, and one that follows it by 1 up to 1,020
abbrev pub by_15 : RestingOrder
by_15 = rests Rpi Buy 1 10_040 (Some 15) 100

abbrev pub by_1 : RestingOrder
by_1 = rests Rpi Buy 1 1_020 (Some 1) 100

-- THE NINE PRICES

-- 1. At a bid of 10,000 a sell of 1,000 takes 500 at 10,035 and 500 at 10,020, and leaves 10,015.
abbrev pub price_1 : Bool
price_1 =
    same_fills
    (gives_fills (at_bid 10_000) (rests Rpi Buy 1 10_015 None 500 ∷ rests Rpi Buy 2 10_020 None 500 ∷ rests Rpi Buy 3 10_035 None 500 ∷ []) (retail_sell One 10_000 1_000))
    (fill 3 10_035 500 ∷ fill 2 10_020 500 ∷ [])

-- 2. With only 100 at 10,020 it takes 400 at 10,015 too.
abbrev pub price_2 : Bool
price_2 =
    same_fills
    (gives_fills (at_bid 10_000) (rests Rpi Buy 1 10_015 None 500 ∷ rests Rpi Buy 2 10_020 None 100 ∷ rests Rpi Buy 3 10_035 None 500 ∷ []) (retail_sell One 10_000 1_000))
    (fill 3 10_035 500 ∷ fill 2 10_020 100 ∷ fill 1 10_015 400 ∷ [])

-- 3. A sell with the floor 10,020 follows an offer of 10,050 by 15 to 10,035.
abbrev pub price_3 : Bool
price_3 = is_at (ranked_price (at_offer 10_050) (rests Rpi Sell 1 10_020 (Some 15) 100)) 10_035

-- 4. At a bid of 10,020 the buy that follows by 15 stands at 10,035, and a fixed 10,036 is filled before it.
abbrev pub price_4 : Bool
price_4 =
    is_at (ranked_price (at_bid 10_020) by_15) 10_035
    && same_fills
    (gives_fills (at_bid 10_020) (by_15 ∷ rests Rpi Buy 2 10_036 None 100 ∷ []) (retail_sell One 10_000 200))
    (fill 2 10_036 100 ∷ fill 1 10_035 100 ∷ [])

-- 5. At a bid of 10,039 it stands at its ceiling, and is eligible.
abbrev pub price_5 : Bool
price_5 = is_at (ranked_price (at_bid 10_039) by_15) 10_040 && is_eligible (at_bid 10_039) (retail_sell One 990 100) by_15

-- 6. At a bid of 10,040 it is not eligible.
abbrev pub price_6 : Bool
price_6 = not (is_eligible (at_bid 10_040) (retail_sell One 990 100) by_15)

-- 7. Below a dollar no RPI Order is eligible, but Type 2, routable or not, still meets ordinary interest.
abbrev pub price_7 : Bool
price_7 =
    is_at (ranked_price (at_bid 990) by_1) 991
    && (not (is_eligible (at_bid 990) (retail_sell One 990 100) by_1)
    && (not (is_eligible (at_bid 990) (retail_sell Two 990 100) by_1)
    && (not (is_eligible (at_bid 990) (retail_sell TwoRoutable 990 100) by_1)
    && (is_eligible (at_bid 990) (retail_sell Two 990 100) (rests Hidden Buy 2 990 None 100)
    && is_eligible (at_bid 990) (retail_sell TwoRoutable 990 100) (rests Hidden Buy 2 990 None 100)))))

-- 8. At a bid of 999 it stands at a dollar, and is eligible.
abbrev pub price_8 : Bool
price_8 = is_at (ranked_price (at_bid 999) by_1) 1_000 && is_eligible (at_bid 999) (retail_sell One 990 100) by_1

-- 9. With no bid Type 1 cancels whole, and Type 2, routable or not, meets a hidden buy at its limit.
abbrev pub price_9 : Bool
price_9 =
    same_fills (gives_fills no_quote no_bid_orders (retail_sell One 9_000 100)) []
    && (cancels no_quote no_bid_orders (retail_sell One 9_000 100) == 100
    && (same_fills (gives_fills no_quote no_bid_orders (retail_sell Two 9_000 100)) (fill 3 9_000 100 ∷ [])
    && same_fills (gives_fills no_quote no_bid_orders (retail_sell TwoRoutable 9_000 100)) (fill 3 9_000 100 ∷ [])))
  where
    no_bid_orders : List RestingOrder
    no_bid_orders = by_15 ∷ rests Rpi Buy 2 9_000 None 100 ∷ rests Hidden Buy 3 9_000 None 100 ∷ []

abbrev pub nine_prices : Bool
nine_prices = price_1 && (price_2 && (price_3 && (price_4 && (price_5 && (price_6 && (price_7 && (price_8 && price_9)))))))

-- Five orders at the same price, two of them displayed, one of them there by its offset: the displayed ones give first, then the others by number.
abbrev pub turns_at_one_price : Bool
turns_at_one_price =
    same_fills
    (gives_fills
    (at_bid 10_000)
    (rests Rpi Buy 1 10_020 None 100 ∷ rests Rpi Buy 2 10_040 (Some 20) 100 ∷ rests Hidden Buy 3 10_020 None 100 ∷ rests Displayed Buy 4 10_020 None 100 ∷ rests Displayed Buy 5 10_020 None 100 ∷ [])
    (retail_sell One 10_000 450))
    (fill 4 10_020 100 ∷ fill 5 10_020 100 ∷ fill 1 10_020 100 ∷ fill 2 10_020 100 ∷ fill 3 10_020 50 ∷ [])
