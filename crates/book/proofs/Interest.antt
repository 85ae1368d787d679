-- A side is on exactly if its own queues have RPI interest
use Rattle.std.proofs.Common.{◌≡◌, Bool, true, false, cond, ◌&&◌, ◌||◌, List, [], ◌∷◌, sym, refl, ap, ◌∙◌}
use Rattle.std.specs.List.{AllByRecursion as Each}
use Rattle.std.proofs.ByRecursion.{All-weaker}
use Rattle.terms.specs.declared.market.Side.{Side}
use Rattle.terms.specs.declared.market.Side.TheVariants.{Buy, Sell}
use Rattle.terms.specs.declared.orders.RestingOrder.{RestingOrder}
use Rattle.terms.specs.Words.{same_side}
use Rattle.rules.specs.Lists.{any}
use Rattle.rules.specs.Rules.{BestPair, own_side, ranked_price, opposite, rpi_shows, side_on}
use Rattle.queues.specs.Queues.{rpi_interest}
use Rattle.queues.specs.declared.side.SideQueues.{SideQueues}
use Rattle.book.specs.BookState.{resting_of}
use Rattle.queues.specs.Sides.{orders_of}
use Rattle.book.proofs.Leaving.{all_on}
use Rattle.book.proofs.Numbers.{any_resting}

any_same : {X : Type 0} (p q : X → Bool) (xs : List X) → Each (λ x. p x ≡ q x) xs → any p xs ≡ any q xs
any_same p q [] h = refl
any_same p q (x ∷ xs) h = ap (λ v. cond v true (any p xs)) h.0 ∙ ap (cond (q x) true) (any_same p q xs h.1)

any_never : {X : Type 0} (xs : List X) → any (λ _. false) xs ≡ false
any_never [] = refl
any_never (x ∷ xs) = any_never xs

-- an order of a side, asked whether it turns a side on
abbrev turns : BestPair → Side → RestingOrder → Bool
turns best side o = same_side o.side side && rpi_shows o.kind (opposite side) (ranked_price best o) (own_side best side)

its_own : (best : BestPair) (side : Side) (o : RestingOrder) → o.side ≡ side → turns best side o ≡ rpi_interest best o
its_own best side o e =
    ap (λ s. same_side o.side s && rpi_shows o.kind (opposite s) (ranked_price best o) (own_side best s)) (sym e) ∙ alike o.side (rpi_interest best o)
  where
    alike : (s : Side) (b : Bool) → (same_side s s && b) ≡ b
    alike Buy b = refl
    alike Sell b = refl

others : (best : BestPair) (side : Side) (o : RestingOrder) → o.side ≡ opposite side → turns best side o ≡ false
others best side o e =
    ap (λ s. same_side s side && rpi_shows o.kind (opposite side) (ranked_price best o) (own_side best side)) e ∙ apart side (rpi_shows o.kind (opposite side) (ranked_price best o) (own_side best side))
  where
    apart : (s : Side) (b : Bool) → (same_side (opposite s) s && b) ≡ false
    apart Buy b = refl
    apart Sell b = refl

module _ (best : BestPair) (buys sells : SideQueues) (buying : same_side buys.side Buy ≡ true) (selling : same_side sells.side Sell ≡ true) where
  own_turns : (side : Side) (orders : List RestingOrder) → Each (λ o. o.side ≡ side) orders → any (turns best side) orders ≡ any (rpi_interest best) orders
  own_turns side orders h = any_same (turns best side) (rpi_interest best) orders (All-weaker (λ o. o.side ≡ side) (λ o. turns best side o ≡ rpi_interest best o) (its_own best side) orders h)

  other_turns : (side : Side) (orders : List RestingOrder) → Each (λ o. o.side ≡ opposite side) orders → any (turns best side) orders ≡ false
  other_turns side orders h = any_same (turns best side) (λ _. false) orders (All-weaker (λ o. o.side ≡ opposite side) (λ o. turns best side o ≡ false) (others best side) orders h) ∙ any_never orders

  pub buys_on : side_on best (resting_of (orders_of buys) (orders_of sells)) Buy ≡ any (rpi_interest best) (orders_of buys)
  buys_on =
      any_resting (turns best Buy) (orders_of buys) (orders_of sells)
      ∙ (ap (λ v. any (turns best Buy) (orders_of buys) || v) (other_turns Buy (orders_of sells) (all_on sells Sell selling))
      ∙ (or_false (any (turns best Buy) (orders_of buys)) ∙ own_turns Buy (orders_of buys) (all_on buys Buy buying)))
    where
      or_false : (b : Bool) → (b || false) ≡ b
      or_false true = refl
      or_false false = refl

  pub sells_on : side_on best (resting_of (orders_of buys) (orders_of sells)) Sell ≡ any (rpi_interest best) (orders_of sells)
  sells_on =
      any_resting (turns best Sell) (orders_of buys) (orders_of sells)
      ∙ (ap (λ v. v || any (turns best Sell) (orders_of sells)) (other_turns Sell (orders_of buys) (all_on buys Buy buying))
      ∙ own_turns Sell (orders_of sells) (all_on sells Sell selling))
