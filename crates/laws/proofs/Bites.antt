-- What the law refuses of accepted Retail Orders
use Rattle.std.proofs.Common.{◌≡◌, ℕ, zero, suc, ◌≤◌, Bool, true, false, cond, eqb, List, [], ◌∷◌, Some, None, refl, ap, arith, ◌⊎◌, inl, inr, ⊎_elim}
use Rattle.std.specs.List.{ContainsAt as Has}
use Rattle.terms.specs.declared.market.Side.{Side}
use Rattle.terms.specs.declared.market.Side.TheVariants.{Buy, Sell}
use Rattle.terms.specs.declared.market.Quote.{Quote}
use Rattle.terms.specs.declared.orders.OrderKind.TheVariants.{Rpi}
use Rattle.terms.specs.declared.orders.Fill.{Fill}
use Rattle.terms.specs.declared.orders.Ranked.{Ranked}
use Rattle.terms.specs.declared.orders.RestingOrder.{RestingOrder}
use Rattle.terms.specs.Words.{only_if}
use Rattle.quotes.specs.Quotes.{leader}
use Rattle.rules.specs.Allotment.{Allotment, MostShares, BestCost}
use Rattle.rules.specs.RuleLaws.{InPriority, Ahead}
use Rattle.rules.specs.Rules.{filled, filled_to}
use Rattle.rules.specs.WorkedPrices.{fill, rests}
use Rattle.laws.specs.Bites.{orders_for, TradesBite}

-- THE SMALL BOOK: its eligible orders, and rival allotments of them

abbrev at : (number price : ℕ) → Ranked
at number price = record { number = number; kind = Rpi; price = price; shares = 100 }

abbrev met : Side → List Ranked
met Sell = at 1 10_010 ∷ at 2 10_020 ∷ []
met Buy = at 1 9_990 ∷ at 2 9_980 ∷ []

-- all their shares, and those of the better order alone
all : (customer : Side) → Allotment (met customer) 200 (λ n. 100)
all Buy = record { each = (omega arith, (omega arith, tt)); within = omega arith }
all Sell = record { each = (omega arith, (omega arith, tt)); within = omega arith }

better : (customer : Side) (most : ℕ) → 100 ≤ most → Allotment (met customer) most (λ n. cond (eqb n 2) 100 0)
better Buy most h = record { each = (omega arith, (omega arith, tt)); within = omega (arith, h) }
better Sell most h = record { each = (omega arith, (omega arith, tt)); within = omega (arith, h) }

-- each stands in the list, and no other
abbrev first : (customer : Side) → Ranked
first Buy = at 1 9_990
first Sell = at 1 10_010

abbrev second : (customer : Side) → Ranked
second Buy = at 2 9_980
second Sell = at 2 10_020

has_first : (customer : Side) → Has (met customer) (first customer)
has_first Buy = (0, omega arith, λ d. refl)
has_first Sell = (0, omega arith, λ d. refl)

has_second : (customer : Side) → Has (met customer) (second customer)
has_second Buy = (1, omega arith, λ d. refl)
has_second Sell = (1, omega arith, λ d. refl)

pub one_of_two : {X : Type 0} (x y z : X) → Has (x ∷ y ∷ []) z → (x ≡ z) ⊎ (y ≡ z)
one_of_two x y z (zero, lt, e) = inl (e z)
one_of_two x y z (suc zero, lt, e) = inr (e z)
one_of_two x y z (suc (suc k), lt, e) = absurd (omega (arith, lt))

another : (o : Ranked) → Has (met Sell) o → 2 ≡ o.number → 10_010 ≡ o.price → ⊥
another o has n p =
    ⊎_elim
    (λ (e : first Sell ≡ o). omega (arith, ap (λ (x : Ranked). x.number) e, n))
    (λ (e : second Sell ≡ o). omega (arith, ap (λ (x : Ranked). x.price) e, p))
    (one_of_two _ _ o has)

no_third : (o : Ranked) → Has (met Sell) o → 3 ≡ o.number → ⊥
no_third o has n =
    ⊎_elim
    (λ (e : first Sell ≡ o). omega (arith, ap (λ (x : Ranked). x.number) e, n))
    (λ (e : second Sell ≡ o). omega (arith, ap (λ (x : Ranked). x.number) e, n))
    (one_of_two _ _ o has)

no_seventh : (o : RestingOrder) → Has (orders_for Sell) o → o.number ≡ 7 → ⊥
no_seventh o (zero, lt, e) n = omega (arith, ap (λ (x : RestingOrder). x.number) (e o), n)
no_seventh o (suc zero, lt, e) n = omega (arith, ap (λ (x : RestingOrder). x.number) (e o), n)
no_seventh o (suc (suc zero), lt, e) n = omega (arith, ap (λ (x : RestingOrder). x.number) (e o), n)
no_seventh o (suc (suc (suc k)), lt, e) n = omega (arith, lt)

not_ahead : Ahead Sell (first Sell) (second Sell) → ⊥
not_ahead (inl lt) = omega (arith, lt)
not_ahead (inr both) = omega (arith, both.0)

no_quote_there : (b : Bool) (quote : Quote) → only_if b None ≡ Some quote → ⊥
no_quote_there true quote h = cc
no_quote_there false quote h = cc

pub trades_bite : TradesBite
unfolding leader
trades_bite = record {
  of_each = λ test m r lent t h. h r lent t;
  each_part = λ centres s r t h. (h.most_shares, h.best_cost, h.priority, h.remainder, h.improvement, h.savings);
  sell_cancelled_whole = λ h. let m : MostShares (met Sell) 200 [] = (h _ _ _ refl refl).0 in omega (arith, m.most (λ n. 100) (all Sell));
  buy_cancelled_whole = λ h. let m : MostShares (met Buy) 200 [] = (h _ _ _ refl refl).0 in omega (arith, m.most (λ n. 100) (all Buy));
  filled_in_part = λ h. let m : MostShares (met Sell) 200 (fill 2 10_020 100 ∷ []) = (h _ _ _ refl refl).0 in omega (arith, m.most (λ n. 100) (all Sell));
  another_price = λ h. let f = (h _ _ _ refl refl).0.ranked.0 in another f.0 f.1 f.2 f.3;
  not_eligible = λ h. let f = (h _ _ _ refl refl).0.ranked.1.1.0 in no_third f.0 f.1 f.2;
  more_than_rest = λ h. let m = (h _ _ _ refl refl).0 in omega (arith, m.allots.each.1.0);
  more_than_asked = λ h. let m = (h _ _ _ refl refl).0 in omega (arith, m.allots.within);
  another_number_filled = λ h. omega (arith, (h _ _ _ refl refl).1);
  sold_lower = λ h. let b : BestCost Sell (met Sell) 100 (fill 1 10_010 100 ∷ []) = h _ _ _ refl refl in omega (arith, b (λ n. cond (eqb n 2) 100 0) 100 (better Sell 100 (omega arith)) refl (omega arith));
  bought_higher = λ h. let b : BestCost Buy (met Buy) 100 (fill 1 9_990 100 ∷ []) = h _ _ _ refl refl in omega (arith, b (λ n. cond (eqb n 2) 100 0) 100 (better Buy 100 (omega arith)) refl (omega arith));
  sold_lower_first = λ h. let b : BestCost Sell (met Sell) 200 (fill 1 10_010 100 ∷ fill 2 10_020 100 ∷ []) = h _ _ _ refl refl in omega (arith, b (λ n. cond (eqb n 2) 100 0) 100 (better Sell 200 (omega arith)) refl (omega arith));
  bought_higher_first = λ h. let b : BestCost Buy (met Buy) 200 (fill 1 9_990 100 ∷ fill 2 9_980 100 ∷ []) = h _ _ _ refl refl in omega (arith, b (λ n. cond (eqb n 2) 100 0) 100 (better Buy 200 (omega arith)) refl (omega arith));
  out_of_turn = λ h. let p : InPriority Sell (met Sell) (fill 1 10_010 100 ∷ fill 2 10_020 100 ∷ []) = h _ _ _ refl refl in not_ahead (p.in_turn.0.0 (first Sell) (second Sell) (has_first Sell, refl) (has_second Sell, refl));
  passed_over = λ h. let p : InPriority Buy (met Buy) (fill 1 9_990 100 ∷ []) = h _ _ _ refl refl in omega (arith, p.ahead_whole (second Buy) (first Buy) (has_second Buy) (has_first Buy) (inl (omega arith)) (omega arith));
  partial_before = λ h. let p : InPriority Buy (met Buy) (fill 2 9_980 50 ∷ fill 1 9_990 50 ∷ []) = h _ _ _ refl refl in omega (arith, p.last_partial.0.0 (second Buy) (has_second Buy, refl));
  filled_twice = λ h. (h _ _ _ refl refl).once.0.0 refl;
  no_shares = λ h. let p : InPriority Sell (met Sell) (fill 2 10_020 100 ∷ fill 1 10_010 0 ∷ []) = h _ _ _ refl refl in omega (arith, p.some.1.0 (first Sell) (has_first Sell, refl) (omega arith));
  twice_alone = λ h. (h _ _ _ refl refl).once.0.0 refl;
  partial_alone = λ h. let p : InPriority Buy (met Buy) (fill 2 9_980 50 ∷ fill 7 9_980 50 ∷ []) = h _ _ _ refl refl in omega (arith, p.last_partial.0.0 (second Buy) (has_second Buy, refl));
  type_1_waits = λ h. let e = (h _ _ _ refl refl).waits_if_routable (λ is. cc) in omega (arith, e);
  type_2_waits = λ h. let e = (h _ _ _ refl refl).waits_if_routable (λ is. cc) in omega (arith, e);
  routable_cancelled = λ h. let e = (h _ _ _ refl refl).cancels_if_not refl in omega (arith, e);
  share_lost = λ h. let e = (h _ _ _ refl refl).all in omega (arith, e);
  share_made = λ h. let e = (h _ _ _ refl refl).all in omega (arith, e);
  routable_share_lost = λ h. let e = (h _ _ _ refl refl).all in omega (arith, e);
  buy_at = λ b. omega (arith, b);
  buy_under = λ b. omega (arith, b);
  sell_at = λ b. omega (arith, b);
  sell_over = λ b. omega (arith, b);
  rpi_buy_at = λ h. let i = (h _ _ _ refl refl).1.0 in let b = i.betters (rests Rpi Buy 1 10_010 None 100) (0, omega arith, λ d. refl) refl refl in omega (arith, b.every 0 (record { price = 10_000; size = 100 }) refl);
  rpi_sell_at = λ h. let i = (h _ _ _ refl refl).0 in let b = i.betters (rests Rpi Sell 2 9_980 None 100) (1, omega arith, λ d. refl) refl refl in omega (arith, b.every 0 (record { price = 10_000; size = 100 }) refl);
  from_nobody = λ h. let f = (h _ _ _ refl refl).0.from in no_seventh f.0 f.1 f.2;
  one_of_two = λ b. omega (arith, b.every 1 (record { price = 10_010; size = 100 }) refl);
  no_quote = λ b. no_quote_there _ _ b.some.2;
  rpi_sold_at = λ h. omega (arith, h _ _ _ refl refl 10_000 refl);
  rpi_bought_at = λ h. omega (arith, h _ _ _ refl refl 10_000 refl);
  sold_worse = λ h. omega (arith, h _ _ _ refl refl 10_000 refl);
  bought_worse = λ h. omega (arith, h _ _ _ refl refl 10_000 refl);
  not_written = λ h. omega (arith, ap (λ (fs : List Fill). filled fs) (h _ refl).front);
  place_lost = λ h. let w = (h _ refl).behind in cc;
  place_changed = λ h. omega (arith, ap (λ (fs : List Fill). filled_to fs 8) (h _ refl).behind);
  list_grown = λ h. omega (arith, (h _ refl).long);
}
