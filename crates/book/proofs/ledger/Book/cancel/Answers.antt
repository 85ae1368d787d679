use Rattle.std.proofs.Common.{◌≡◌, true, ◌++◌, eqb, Some, Err, ap, ◌∙◌, subst, rules}
use Rattle.std.specs.Option.{ok_or}
use Rattle.std.proofs.lemmas.Result.{err_from_is_err_and}
use Rattle.terms.specs.declared.market.Side.TheVariants.{Buy, Sell}
use Rattle.terms.specs.declared.refusals.Refusal.TheVariants.{NoSuchOrder}
use Rattle.terms.specs.Limits.{is_member}
use Rattle.terms.specs.Words.{keep_if, same_side}
use Rattle.rules.specs.Lists.{found}
use Rattle.queues.specs.Sides.{orders_of}
use Rattle.book.specs.Means.{state}
use Rattle.book.proofs.Leaving.{cancelled, few_fewer, left_buys, left_sells, none_its, numbered_fewer, one_its}
use Rattle.book.proofs.Numbers.{numbered}
use Rattle.book.proofs.Stepping.{cancel_not_found}
use Rattle.book.proofs.ledger.Book.cancel.Goals as goal
use Rattle.book.proofs.ledger.Book.cancel.Goals.{In_ok-order}

-- no order of the member has the number
pub returns-in_err-order : goal.returns-in_err-order
returns-in_err-order c =
    let b = c.args.self.now in
    let m = c.args.member in
    let n = c.args.number in
    let good : is_member m ≡ true = search rules in
    let kept : keep_if (λ o. eqb o.member m) c.order.result ≡ c.filter.result = search rules in
    let told = subst (λ o. Err c.in_err-order.field-0.0 ≡ ok_or o NoSuchOrder) c.in_err-order.ensures.ok_part c.in_err-order.ensures.value in
    let why : c.in_err-order.field-0.0 ≡ NoSuchOrder = cc in
    let p = err_from_is_err_and c.from_residual.result c.from_residual.ensures.1 in
    rw (p.1, p.2, why) (cancel_not_found (state b) m n good (none_its b m n c.order.result c.order.ensures (kept ∙ c.in_err-order.ensures.ok_part)))

-- the order is there, and it is the member's
its : (c : In_ok-order) → (found (numbered c.args.number) (orders_of c.args.self.now.buys ++ orders_of c.args.self.now.sells) ≡ Some c.in_ok-order.order) × (c.in_ok-order.order.member ≡ c.args.member)
its c =
    let kept : keep_if (λ o. eqb o.member c.args.member) c.order.result ≡ c.filter.result = search rules in
    one_its c.args.self.now c.args.member c.args.number c.order.result c.order.ensures (kept ∙ c.in_ok-order.ensures.ok_part)

-- a buy leaves
pub invariant_of-self : goal.invariant_of-self
invariant_of-self c =
    let b = c.args.self.now in
    let n = c.args.number in
    let os = orders_of b.buys ++ orders_of b.sells in
    let there = (its (goal.at.invariant_of-self c).In_ok-order).0 in
    let q = c.remove.new.self in
    let left = left_buys b n c.in_ok-order.order there q c.in-Buy.is c.remove.ensures.fixed c.remove.ensures.following in
    record {
      buying = ap (λ s. same_side s Buy) c.remove.ensures.side ∙ b.buying;
      selling = b.selling;
      numbered = numbered_fewer b.last n os (orders_of q ++ orders_of b.sells) left b.numbered;
      few = few_fewer b.last n os (orders_of q ++ orders_of b.sells) left b.few;
      given = b.given;
    }

pub returns-in-Buy : goal.returns-in-Buy
returns-in-Buy c =
    let b = c.args.self.now in
    let n = c.args.number in
    let o = c.in_ok-order.order in
    let there = its (goal.at.returns-in-Buy c).In_ok-order in
    let q = c.remove.new.self in
    let left = left_buys b n o there.0 q c.in-Buy.is c.remove.ensures.fixed c.remove.ensures.following in
    let good : is_member c.args.member ≡ true = search rules in
    cancelled b n o there.0 c.args.member (orders_of q) (orders_of b.sells) good there.1 left

-- a sell leaves
pub invariant_of-self-in-Sell : goal.invariant_of-self-in-Sell
invariant_of-self-in-Sell c =
    let b = c.args.self.now in
    let n = c.args.number in
    let os = orders_of b.buys ++ orders_of b.sells in
    let there = (its (goal.at.invariant_of-self-in-Sell c).In_ok-order).0 in
    let q = c.remove-in-Sell.new.self in
    let left = left_sells b n c.in_ok-order.order there q c.in-Sell.is c.remove-in-Sell.ensures.fixed c.remove-in-Sell.ensures.following in
    record {
      buying = b.buying;
      selling = ap (λ s. same_side s Sell) c.remove-in-Sell.ensures.side ∙ b.selling;
      numbered = numbered_fewer b.last n os (orders_of b.buys ++ orders_of q) left b.numbered;
      few = few_fewer b.last n os (orders_of b.buys ++ orders_of q) left b.few;
      given = b.given;
    }

pub returns-in-Sell : goal.returns-in-Sell
returns-in-Sell c =
    let b = c.args.self.now in
    let n = c.args.number in
    let o = c.in_ok-order.order in
    let there = its (goal.at.returns-in-Sell c).In_ok-order in
    let q = c.remove-in-Sell.new.self in
    let left = left_sells b n o there.0 q c.in-Sell.is c.remove-in-Sell.ensures.fixed c.remove-in-Sell.ensures.following in
    let good : is_member c.args.member ≡ true = search rules in
    cancelled b n o there.0 c.args.member (orders_of b.buys) (orders_of q) good there.1 left
