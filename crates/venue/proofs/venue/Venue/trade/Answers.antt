use Rattle.std.proofs.Common.{◌++◌, take, drop, sym, ap, ◌∙◌}
use lib.Seq.{take-append-le}
use Rattle.std.proofs.lemmas.Result.{err_from_is_err_and}
use Rattle.terms.specs.declared.calls.Call.TheVariants.{Retail}
use Rattle.laws.specs.Book.Answer.{Refused, Traded}
use Rattle.book.specs.BookState.{state_of}
use Rattle.book.specs.Means.{state, retail_answer, trade_of}
use Rattle.venue.proofs.Calling.{still_kept}
use Rattle.venue.proofs.Lending.{lent_at, resting_few}
use Rattle.venue.proofs.venue.Venue.trade.Goals as goal

pub invariant_of-self : goal.invariant_of-self
invariant_of-self g c =
    let v = c.args.self.now in
    let centres = g.S.QuoteSource.centres in
    let quotes = g.S.QuoteSource.means c.args.source.now in
    let list = c.args.out.now in
    let b' = state c.retail.new.self in
    let left = c.retail.new.out in
    let told = retail_answer c.retail.result left in
    let st = lent_at centres quotes (state v.book) list c.args.order c.args.places c.min-lent.result c.min-lent.ensures told b' left (resting_few v.book) c.retail.ensures.step in
    let k = still_kept g.S.QuoteSource.denotes centres v b' quotes quotes (Retail c.args.order c.args.places) list (left ++ drop c.min-lent.result list) told st tt in
    record { numbered = k.0; tallied = k.1; room = v.room }

pub returns-in_err-answer-clause-step : goal.returns-in_err-answer-clause-step
returns-in_err-answer-clause-step g c =
    let p = err_from_is_err_and c.from_residual.result c.from_residual.ensures.1 in
    rw (p.1, p.2)
    (lent_at g.S.QuoteSource.centres (g.S.QuoteSource.means c.args.source.now) (state c.args.self.now.book) c.args.out.now c.args.order c.args.places c.min-lent.result c.min-lent.ensures
    (Refused c.in_err-answer.field-0.0) (state c.retail.new.self) c.retail.new.out (resting_few c.args.self.now.book) c.in_err-answer.ensures.step)

pub returns-clause-step : goal.returns-clause-step
returns-clause-step g c =
    let quotes = g.S.QuoteSource.means c.args.source.now in
    let b' = state c.retail.new.self in
    let left = c.retail.new.out in
    let rest = drop c.min-lent.result c.args.out.now in
    let a = c.in_ok-answer.answer in
    lent_at g.S.QuoteSource.centres quotes (state c.args.self.now.book) c.args.out.now c.args.order c.args.places c.min-lent.result c.min-lent.ensures
    (Traded (trade_of a (take a.fills left))) b' left (resting_few c.args.self.now.book) c.in_ok-answer.ensures.step
    ∙ ap (λ l. (Traded (trade_of a l), state_of b' quotes (left ++ rest))) (sym (take-append-le a.fills left rest c.in_ok-answer.ensures.within.0))
