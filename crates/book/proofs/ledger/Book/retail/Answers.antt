use Rattle.std.proofs.Common.{◌≡◌, length, take, sym, refl, ap, ◌∙◌, subst, arith, length-take-le}
use Rattle.std.specs.List.{AllByRecursion as Each}
use Rattle.std.proofs.lemmas.List.{length-append}
use Rattle.std.proofs.lemmas.Result.{err_from_is_err_and}
use Rattle.quotes.specs.Quotes.{best_pair}
use Rattle.rules.specs.Rules.{filled, filled_to}
use Rattle.laws.specs.Book.{after_trade, fills_now, next_number, trade}
use Rattle.laws.proofs.Room.{fills_few}
use Rattle.matching.specs.Walks.{FillAnswer, Written}
use Rattle.book.specs.BookState.{state_of}
use Rattle.queues.specs.declared.side.SideQueues.{SideQueues}
use Rattle.queues.specs.Sides.{orders_of}
use Rattle.book.specs.Means.{Settled, state, trade_of}
use Rattle.book.proofs.Meeting.{resting_apart, spares_buys, spares_sells}
use Rattle.book.proofs.Numbers.{resting_length}
use Rattle.book.proofs.Trading.{front, filled_within, refused, places_left, number_left, slip_left, traded, owed}
use Rattle.book.proofs.ledger.Book.retail.Goals as goal

pub returns-in_err-check_retail-clause-step : goal.returns-in_err-check_retail-clause-step
returns-in_err-check_retail-clause-step g c =
    let p = err_from_is_err_and c.from_residual.result c.from_residual.ensures.1 in
    rw (p.1, p.2)
    (refused g.S.QuoteSource.centres (g.S.QuoteSource.means c.args.source.now) (state c.args.self.now) c.args.out.now c.args.order c.in_err-check_retail.field-0.0
    (c.in_err-check_retail.ensures g.S.QuoteSource.centres (g.S.QuoteSource.means c.args.source.now) c.args.out.now refl))

-- a list that is long enough is not refused
pub returns-in_err-matched : goal.returns-in_err-matched
returns-in_err-matched g c =
    let centres = g.S.QuoteSource.centres in
    let quotes = g.S.QuoteSource.means c.args.source.now in
    let b = state c.args.self.now in
    let lent = c.args.out.now in
    let room = places_left centres quotes b lent c.args.order (c.in_ok-check_retail.ensures centres quotes lent refl) in
    let short = subst (FillAnswer (fills_now centres (state_of b quotes lent) c.args.order) lent c.write_fills.new.out) c.in_err-matched.was c.write_fills.ensures in
    absurd (omega (arith, room, short.1))

pub take_off-requires : goal.take_off-requires
take_off-requires g c =
    let centres = g.S.QuoteSource.centres in
    let quotes = g.S.QuoteSource.means c.args.source.now in
    let b = state c.args.self.now in
    let lent = c.args.out.now in
    let r = c.args.order in
    let m = c.in_ok-matched.matched in
    let passed = c.in_ok-check_retail.ensures centres quotes lent refl in
    let fs = fills_now centres (state_of b quotes lent) r in
    let w : Written fs lent c.write_fills.new.out m = (subst (FillAnswer fs lent c.write_fills.new.out) c.in_ok-matched.was c.write_fills.ensures).1 in
    let k = c.args.self.now in
    let best = best_pair centres quotes in
    let none = λ (q : SideQueues). subst (λ l. Each (λ o. filled_to l o.number ≡ 0) (orders_of q)) (sym (front fs lent c.write_fills.new.out m w)) in
    record {
      number = number_left centres quotes b lent r passed;
      slip = slip_left centres quotes b lent r passed;
      filled = w.shares ∙ ap filled (sym (front fs lent c.write_fills.new.out m w));
      within = omega (arith, w.shares, filled_within centres quotes b lent r);
      spared_buys = λ e. none k.buys (spares_buys best r k.buys k.sells k.buying k.selling k.last k.numbered e);
      spared_sells = λ e. none k.sells (spares_sells best r k.buys k.sells k.buying k.selling k.last k.numbered e);
    }

pub returns : goal.returns
returns g c =
    let centres = g.S.QuoteSource.centres in
    let quotes = g.S.QuoteSource.means c.args.source.now in
    let book = c.args.self.now in
    let b = state book in
    let lent = c.args.out.now in
    let list = c.write_fills.new.out in
    let r = c.args.order in
    let m = c.in_ok-matched.matched in
    let a = c.take_off.result in
    let fs = fills_now centres (state_of b quotes lent) r in
    let passed = c.in_ok-check_retail.ensures centres quotes lent refl in
    let w : Written fs lent list m = (subst (FillAnswer fs lent list) c.in_ok-matched.was c.write_fills.ensures).1 in
    let first = front fs lent list m w in
    let count : a.fills ≡ m.fills = c.take_off.ensures.count ∙ (ap length first ∙ sym w.count) in
    let same : take m.fills list ≡ take a.fills list = ap (λ n. take n list) (sym count) in
    let told : trade_of a (take a.fills list) ≡ trade r (next_number b) fs =
    subst (λ x. trade_of a x ≡ trade r (next_number b) x) same c.take_off.ensures.answer ∙ ap (trade r (next_number b)) (sym same ∙ first) in
    let after = c.take_off.ensures.after ∙ ap (λ x. after_trade b (trade r (next_number b) x)) first in
    record {
      step = traded centres quotes b lent r passed (trade_of a (take a.fills list)) (state c.take_off.new.self) list told after w.places;
      owed = λ t e. owed centres quotes b lent r (resting_apart book.last (orders_of book.buys) (orders_of book.sells) book.numbered) (trade_of a (take a.fills list)) t told e;
      within = (
        omega (arith, c.take_off.ensures.count, length-take-le m.fills list),
        omega (arith, count, w.count, fills_few centres (state_of b quotes lent) r, resting_length (orders_of book.buys) (orders_of book.sells), length-append (orders_of book.buys) (orders_of book.sells), book.few),
      );
      rest = c.take_off.ensures.rest;
      queues = (
        subst (λ x. Settled x book.buys c.take_off.new.self.buys) same c.take_off.ensures.buys,
        subst (λ x. Settled x book.sells c.take_off.new.self.sells) same c.take_off.ensures.sells,
      );
    }
