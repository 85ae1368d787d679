-- What the law refuses of accepted Retail Orders: small trades, each wrong in one way, and each against the part of the law that its line names
use Rattle.std.specs.Prelude.{◌≡◌, ℕ, ◌-◌, Bool, true, List, [], ◌∷◌, None}
use Rattle.terms.specs.declared.market.Side.{Side}
use Rattle.terms.specs.declared.market.Side.TheVariants.{Buy, Sell}
use Rattle.terms.specs.declared.orders.OrderKind.TheVariants.{Rpi, Hidden}
use Rattle.terms.specs.declared.orders.RetailType.{RetailType}
use Rattle.terms.specs.declared.orders.RetailType.TheVariants.{One, Two, TwoRoutable}
use Rattle.terms.specs.declared.orders.RestingOrder.{RestingOrder}
use Rattle.terms.specs.declared.orders.RetailOrder.{RetailOrder}
use Rattle.terms.specs.declared.orders.Fill.{Fill}
use Rattle.terms.specs.declared.orders.Phase.TheVariants.{Open}
use Rattle.terms.specs.declared.calls.Call.TheVariants.{Retail}
use Rattle.quotes.specs.Quotes.{no_quotes, after_tell}
use Rattle.quotes.specs.Quotes.{Quotes as QuoteState}
use Rattle.rules.specs.Rules.{opposite, filled}
use Rattle.rules.specs.WorkedPrices.{fill, rests}
use Rattle.laws.specs.Book.{State, Trade}
use Rattle.laws.specs.Book.Answer.{Traded}
use Rattle.laws.specs.Law.{OfTrades, TradeHasMost, TradeCostsBest, Priority, Remainder, Betters, BettersQuotes, Improvement, Savings, TradeLaw, FillList}
use Rattle.laws.specs.Steps.{Met}

-- THE SMALL BOOK

-- The quotes with one more: 100 shares at a price, of one centre on one side.
abbrev pub quoted_at : (centre : ℕ) → Side → (price : ℕ) → QuoteState → QuoteState
quoted_at centre side price q = after_tell q (record { centre = centre; side = side; price = price; size = 100 })

-- For a customer who sells: RPI buys of 100 shares at 10 and at 20 mills above the bid of 10,000, and a hidden buy at the bid. For one who buys: the same below the offer of 10,000.
abbrev pub orders_for : (customer : Side) → List RestingOrder
orders_for Sell = rests Rpi Buy 1 10_010 None 100 ∷ rests Rpi Buy 2 10_020 None 100 ∷ rests Hidden Buy 3 10_000 None 100 ∷ []
orders_for Buy = rests Rpi Sell 1 9_990 None 100 ∷ rests Rpi Sell 2 9_980 None 100 ∷ rests Hidden Sell 3 10_000 None 100 ∷ []

abbrev pub small_book : (customer : Side) → State
small_book customer =
    record {
      book = record { phase = Open; approved = λ _. true; last = 3; resting = orders_for customer; slips = [] };
      quotes = quoted_at 0 (opposite customer) 10_000 no_quotes;
      fill_list = fill 8 1 1 ∷ fill 9 1 1 ∷ [];
    }

-- A Retail Order with the quote as its limit comes upon the small book, is answered so, and leaves this fill list.
abbrev pub comes : (customer : Side) → RetailType → (shares : ℕ) → Trade → (fill_list : List Fill) → Met
comes customer type shares t fill_list =
    let s = small_book customer in
    record {
      before = s;
      call = Retail (record { member = 5; side = customer; kind = type; limit = 10_000; shares = shares }) 256;
      answer = Traded t;
      after = record { book = s.book; quotes = s.quotes; fill_list = fill_list };
    }

-- It is of Type 1, is filled so, and its remainder is cancelled.
abbrev pub gets : (customer : Side) → (shares : ℕ) → List Fill → Met
gets customer shares fs = comes customer One shares (record { number = 4; fills = fs; filled = filled fs; cancelled = shares - filled fs; waiting = 0 }) []

-- It wants 300 shares and gets none of them: so many are cancelled, and so many wait.
abbrev pub leaves : RetailType → (cancelled waiting : ℕ) → Met
leaves type cancelled waiting = comes Sell type 300 (record { number = 4; fills = []; filled = 0; cancelled = cancelled; waiting = waiting }) []

-- A sell of 300 shares is filled so, and the fill list is this afterwards.
abbrev pub writes : (fs fill_list : List Fill) → Met
writes fs fill_list = comes Sell One 300 (record { number = 4; fills = fs; filled = filled fs; cancelled = 300 - filled fs; waiting = 0 }) fill_list

-- WHAT IS AGAINST THE LAW

pub record TradesBite : Type 0 where
  -- Whatever is said of accepted Retail Orders is said of each of them, with no further condition.
  pub of_each : (test : State → RetailOrder → Trade → Bool) (m : Met) (r : RetailOrder) (lent : ℕ) (t : Trade) → OfTrades (λ s r t. test s r t ≡ true) m → m.call ≡ Retail r lent → m.answer ≡ Traded t → test m.before r t ≡ true
  -- What the law of one trade says is all six parts of it.
  pub each_part : (centres : ℕ) (s : State) (r : RetailOrder) (t : Trade) → TradeLaw centres s r t → TradeHasMost centres s r t × TradeCostsBest centres s r t × Priority centres s r t × Remainder s r t × Improvement centres s r t × Savings centres s r t
  -- MOST SHARES
  -- A Retail Order that is cancelled whole where shares are eligible loses to another allotment,
  pub sell_cancelled_whole : OfTrades (TradeHasMost 1) (gets Sell 200 []) → ⊥
  pub buy_cancelled_whole : OfTrades (TradeHasMost 1) (gets Buy 200 []) → ⊥
  -- and so does one that is filled only in part.
  pub filled_in_part : OfTrades (TradeHasMost 1) (gets Sell 200 (fill 2 10_020 100 ∷ [])) → ⊥
  -- A fill stands at its order's ranked price, and is from an order that is eligible, with no more shares than that has.
  pub another_price : OfTrades (TradeHasMost 1) (gets Sell 200 (fill 2 10_010 100 ∷ fill 1 10_010 100 ∷ [])) → ⊥
  pub not_eligible : OfTrades (TradeHasMost 1) (gets Sell 300 (fill 2 10_020 100 ∷ fill 1 10_010 100 ∷ fill 3 10_000 100 ∷ [])) → ⊥
  pub more_than_rest : OfTrades (TradeHasMost 1) (gets Sell 200 (fill 2 10_020 200 ∷ [])) → ⊥
  -- The customer gets no more shares than it asked for, and the number filled is that of its fills.
  pub more_than_asked : OfTrades (TradeHasMost 1) (gets Sell 150 (fill 2 10_020 100 ∷ fill 1 10_010 100 ∷ [])) → ⊥
  pub another_number_filled : OfTrades (TradeHasMost 1) (comes Sell One 100 (record { number = 4; fills = fill 2 10_020 100 ∷ []; filled = 0; cancelled = 100; waiting = 0 }) []) → ⊥
  -- BEST COST
  -- A seller that is filled at the lower price, and a buyer at the higher, lose to another allotment of as many shares,
  pub sold_lower : OfTrades (TradeCostsBest 1) (gets Sell 100 (fill 1 10_010 100 ∷ [])) → ⊥
  pub bought_higher : OfTrades (TradeCostsBest 1) (gets Buy 100 (fill 1 9_990 100 ∷ [])) → ⊥
  -- also where all the fills together are the best that could be had, and only the worse one comes first.
  pub sold_lower_first : OfTrades (TradeCostsBest 1) (gets Sell 200 (fill 1 10_010 100 ∷ fill 2 10_020 100 ∷ [])) → ⊥
  pub bought_higher_first : OfTrades (TradeCostsBest 1) (gets Buy 200 (fill 1 9_990 100 ∷ fill 2 9_980 100 ∷ [])) → ⊥
  -- PRIORITY
  -- An order is not filled after one that it is ahead of, nor passed over for it, nor filled only in part before it;
  pub out_of_turn : OfTrades (Priority 1) (gets Sell 200 (fill 1 10_010 100 ∷ fill 2 10_020 100 ∷ [])) → ⊥
  pub passed_over : OfTrades (Priority 1) (gets Buy 100 (fill 1 9_990 100 ∷ [])) → ⊥
  pub partial_before : OfTrades (Priority 1) (gets Buy 100 (fill 2 9_980 50 ∷ fill 1 9_990 50 ∷ [])) → ⊥
  -- no order is filled twice, and none with no shares.
  pub filled_twice : OfTrades (Priority 1) (gets Sell 100 (fill 2 10_020 50 ∷ fill 2 10_020 50 ∷ [])) → ⊥
  pub no_shares : OfTrades (Priority 1) (gets Sell 100 (fill 2 10_020 100 ∷ fill 1 10_010 0 ∷ [])) → ⊥
  -- The second fill from one order, and a fill of only part of an order with another after it, are forbidden by themselves: here of order 7, which is not eligible, so that nothing else is said of it.
  pub twice_alone : OfTrades (Priority 1) (gets Sell 100 (fill 7 10_020 50 ∷ fill 7 10_020 50 ∷ [])) → ⊥
  pub partial_alone : OfTrades (Priority 1) (gets Buy 100 (fill 2 9_980 50 ∷ fill 7 9_980 50 ∷ [])) → ⊥
  -- REMAINDER
  -- What remains does not wait unless the order is routable, is not cancelled if it is, and no share of it is lost or made.
  pub type_1_waits : OfTrades Remainder (leaves One 0 300) → ⊥
  pub type_2_waits : OfTrades Remainder (leaves Two 0 300) → ⊥
  pub routable_cancelled : OfTrades Remainder (leaves TwoRoutable 300 0) → ⊥
  pub share_lost : OfTrades Remainder (leaves One 299 0) → ⊥
  pub share_made : OfTrades Remainder (leaves One 301 0) → ⊥
  pub routable_share_lost : OfTrades Remainder (leaves TwoRoutable 0 299) → ⊥
  -- IMPROVEMENT
  -- A price at the quote, or a mill on the wrong side of it, does not better it.
  pub buy_at : Betters Buy 10_000 10_000 → ⊥
  pub buy_under : Betters Buy 9_999 10_000 → ⊥
  pub sell_at : Betters Sell 10_000 10_000 → ⊥
  pub sell_over : Betters Sell 10_001 10_000 → ⊥
  -- A fill from an RPI Order at the quote is against the law, be it the first fill or a later one,
  pub rpi_buy_at : OfTrades (Improvement 1) (gets Sell 200 (fill 2 10_020 100 ∷ fill 1 10_000 100 ∷ [])) → ⊥
  pub rpi_sell_at : OfTrades (Improvement 1) (gets Buy 100 (fill 2 10_000 100 ∷ [])) → ⊥
  -- and so is one from an order that does not rest.
  pub from_nobody : OfTrades (Improvement 1) (gets Sell 100 (fill 7 10_020 100 ∷ [])) → ⊥
  -- To better the quote of one centre is not enough if another shows a better one; and where no quote is shown, none is bettered.
  pub one_of_two : BettersQuotes 2 (quoted_at 1 Buy 10_010 (quoted_at 0 Buy 10_000 no_quotes)) Buy 10_005 → ⊥
  pub no_quote : BettersQuotes 1 no_quotes Buy 10_000 → ⊥
  -- SAVINGS
  -- Shares from an RPI Order at exactly the quote save too little, for who sells and for who buys;
  pub rpi_sold_at : OfTrades (Savings 1) (gets Sell 100 (fill 1 10_000 100 ∷ [])) → ⊥
  pub rpi_bought_at : OfTrades (Savings 1) (gets Buy 100 (fill 1 10_000 100 ∷ [])) → ⊥
  -- so do other shares at a mill worse than the quote.
  pub sold_worse : OfTrades (Savings 1) (gets Sell 100 (fill 3 9_999 100 ∷ [])) → ⊥
  pub bought_worse : OfTrades (Savings 1) (gets Buy 100 (fill 3 10_001 100 ∷ [])) → ⊥
  -- THE FILL LIST
  -- The fills are written to its front, its other places stay as they are, and it does not grow.
  pub not_written : FillList (writes (fill 2 10_020 100 ∷ []) (fill 8 1 1 ∷ fill 9 1 1 ∷ [])) → ⊥
  pub place_lost : FillList (writes (fill 2 10_020 100 ∷ []) (fill 2 10_020 100 ∷ [])) → ⊥
  pub place_changed : FillList (writes (fill 2 10_020 100 ∷ []) (fill 2 10_020 100 ∷ fill 8 1 1 ∷ [])) → ⊥
  pub list_grown : FillList (writes (fill 2 10_020 100 ∷ fill 1 10_010 100 ∷ fill 3 10_000 100 ∷ []) (fill 2 10_020 100 ∷ fill 1 10_010 100 ∷ fill 3 10_000 100 ∷ [])) → ⊥
