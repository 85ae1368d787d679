-- The orders of the queues are the sequence of fills, at the limit and at the offset
use Rattle.std.proofs.Common.{List, sym, subst}
use Rattle.terms.specs.declared.market.Side.{Side}
use Rattle.terms.specs.declared.market.Side.TheVariants.{Sell}
use Rattle.terms.specs.declared.orders.RestingOrder.{RestingOrder}
use Rattle.rules.specs.Rules.{at_price, opposite}
use Rattle.rules.specs.Sorted.{Sorted}
use Rattle.rules.proofs.Order.{ahead_strict}
use Rattle.rules.proofs.Sorting.{Strict, sorted_sort}
use Rattle.queues.specs.Queues.{Lined, first_by_limit, first_by_offset, offset_of}
use Rattle.rules.proofs.Picks.{distinct_right}

pub by_limit_strict : (side : Side) → Strict (first_by_limit side) (λ o. o.number)
by_limit_strict side = record {
  never = λ a. (ahead_strict (opposite side)).never (at_price a a.limit);
  trans = λ a b c. (ahead_strict (opposite side)).trans (at_price a a.limit) (at_price b b.limit) (at_price c c.limit);
  total = λ a b. (ahead_strict (opposite side)).total (at_price a a.limit) (at_price b b.limit);
}

pub by_offset_strict : Strict first_by_offset (λ o. o.number)
by_offset_strict = record {
  never = λ a. (ahead_strict Sell).never (at_price a (offset_of a));
  trans = λ a b c. (ahead_strict Sell).trans (at_price a (offset_of a)) (at_price b (offset_of b)) (at_price c (offset_of c));
  total = λ a b. (ahead_strict Sell).total (at_price a (offset_of a)) (at_price b (offset_of b));
}

pub sorted_again : (side : Side) (fixed following again : List RestingOrder) → Lined side fixed following again → Sorted first_by_offset again
sorted_again side fixed following again l =
    subst (Sorted first_by_offset) (sym l.third) (sorted_sort first_by_offset (λ o. o.number) by_offset_strict following (distinct_right (λ o. o.number) fixed following l.apart))
