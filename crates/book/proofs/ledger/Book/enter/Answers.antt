use Rattle.std.proofs.Common.{ap, ◌∙◌, arith}
use Rattle.std.proofs.lemmas.List.{length-append}
use Rattle.std.proofs.lemmas.Result.{err_from_is_err_and}
use Rattle.terms.specs.declared.market.Side.TheVariants.{Buy, Sell}
use Rattle.terms.specs.declared.calls.Call.TheVariants.{Enter}
use Rattle.terms.specs.Words.{same_side}
use Rattle.queues.specs.Sides.{orders_of}
use Rattle.book.specs.Means.{state}
use Rattle.book.proofs.Entering.{entered, few_more, fresh_buys, fresh_sells, its_side, more_buys, more_sells, number_left, numbered_more, room_left, some_shares}
use Rattle.book.proofs.Stepping.{refused_steps}
use Rattle.book.proofs.ledger.Book.enter.Goals as goal

pub returns-in_err-check_entry : goal.returns-in_err-check_entry
returns-in_err-check_entry c =
    let p = err_from_is_err_and c.from_residual.result c.from_residual.ensures.1 in
    rw (p.1, p.2) (refused_steps (state c.args.self.now) (Enter c.args.order) c.in_err-check_entry.field-0.0 c.in_err-check_entry.ensures)

pub enter-requires : goal.enter-requires
enter-requires c =
    let b = c.args.self.now in
    let o = c.rests_as-resting.result in
    record {
      side = its_side b c.args.order c.in_ok-check_entry.ensures o c.rests_as-resting.ensures Buy b.buys b.buying c.in-Buy.is;
      few = omega (arith, room_left b c.args.order c.in_ok-check_entry.ensures o c.rests_as-resting.ensures, length-append (orders_of b.buys) (orders_of b.sells));
      some = some_shares b c.args.order c.in_ok-check_entry.ensures o c.rests_as-resting.ensures;
      fresh = fresh_buys b c.args.order c.in_ok-check_entry.ensures o c.rests_as-resting.ensures;
    }

pub enter-requires-in-Sell : goal.enter-requires-in-Sell
enter-requires-in-Sell c =
    let b = c.args.self.now in
    let o = c.rests_as-resting.result in
    record {
      side = its_side b c.args.order c.in_ok-check_entry.ensures o c.rests_as-resting.ensures Sell b.sells b.selling c.in-Sell.is;
      few = omega (arith, room_left b c.args.order c.in_ok-check_entry.ensures o c.rests_as-resting.ensures, length-append (orders_of b.buys) (orders_of b.sells));
      some = some_shares b c.args.order c.in_ok-check_entry.ensures o c.rests_as-resting.ensures;
      fresh = fresh_sells b c.args.order c.in_ok-check_entry.ensures o c.rests_as-resting.ensures;
    }

pub invariant_of-self : goal.invariant_of-self
invariant_of-self c =
    let b = c.args.self.now in
    let o = c.rests_as-resting.result in
    let made = c.rests_as-resting.ensures in
    let passed = c.in_ok-check_entry.ensures in
    let q = c.enter.new.self in
    let all = more_buys b c.args.order passed o made q (record { fixed = c.enter.ensures.fixed; following = c.enter.ensures.following }) in
    record {
      buying = ap (λ s. same_side s Buy) c.enter.ensures.side ∙ b.buying;
      selling = b.selling;
      numbered = numbered_more b c.args.order passed o made (orders_of q) (orders_of b.sells) all;
      few = few_more b c.args.order passed o made (orders_of q) (orders_of b.sells) all;
      given = omega (arith, number_left b c.args.order passed o made);
    }

pub returns-in-Buy : goal.returns-in-Buy
returns-in-Buy c =
    let b = c.args.self.now in
    let o = c.rests_as-resting.result in
    let made = c.rests_as-resting.ensures in
    let passed = c.in_ok-check_entry.ensures in
    let q = c.enter.new.self in
    let all = more_buys b c.args.order passed o made q (record { fixed = c.enter.ensures.fixed; following = c.enter.ensures.following }) in
    entered b c.args.order passed o made (orders_of q) (orders_of b.sells) all

pub invariant_of-self-in-Sell : goal.invariant_of-self-in-Sell
invariant_of-self-in-Sell c =
    let b = c.args.self.now in
    let o = c.rests_as-resting.result in
    let made = c.rests_as-resting.ensures in
    let passed = c.in_ok-check_entry.ensures in
    let q = c.enter-in-Sell.new.self in
    let all = more_sells b c.args.order passed o made q (record { fixed = c.enter-in-Sell.ensures.fixed; following = c.enter-in-Sell.ensures.following }) in
    record {
      buying = b.buying;
      selling = ap (λ s. same_side s Sell) c.enter-in-Sell.ensures.side ∙ b.selling;
      numbered = numbered_more b c.args.order passed o made (orders_of b.buys) (orders_of q) all;
      few = few_more b c.args.order passed o made (orders_of b.buys) (orders_of q) all;
      given = omega (arith, number_left b c.args.order passed o made);
    }

pub returns-in-Sell : goal.returns-in-Sell
returns-in-Sell c =
    let b = c.args.self.now in
    let o = c.rests_as-resting.result in
    let made = c.rests_as-resting.ensures in
    let passed = c.in_ok-check_entry.ensures in
    let q = c.enter-in-Sell.new.self in
    let all = more_sells b c.args.order passed o made q (record { fixed = c.enter-in-Sell.ensures.fixed; following = c.enter-in-Sell.ensures.following }) in
    entered b c.args.order passed o made (orders_of b.buys) (orders_of q) all
