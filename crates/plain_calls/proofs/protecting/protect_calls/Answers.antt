use Rattle.std.proofs.Common.{Some, set, sym, ap, ◌∙◌, arith}
use Rattle.stacks.specs.Venue.{opening_quotes, venue_means}
use Rattle.plain_calls.specs.Plain.{plain_best}
use Rattle.plain_calls.specs.Protecting.{quote_call}
use Rattle.plain_calls.proofs.Prices.{priced_opening}
use Rattle.plain_calls.proofs.Protects.{shown_more}
use Rattle.plain_calls.proofs.protecting.protect_calls.Goals as goal

pub loop-written-preserved : goal.loop-written-preserved
loop-written-preserved c =
    let l = c.loop-written in
    let means = ap quote_call (sym c.meant.ensures ∙ (c.in-Some-Quotes.is ∙ ap Some c.in-Some-Quotes.field-0-is)) in
    let room = c.if-best-written.false in
    let next = c.apply-refused.new.self in (
      shown_more opening_quotes c.args.calls.now c.args.best.now l.best _ (venue_means l.quotes.lot.shares l.quotes.below.own.marks l.quotes.below.below.rows) (venue_means next.lot.shares next.below.own.marks next.below.below.rows) l.written _ _ priced_opening l.invariant.0 c.loop-written-test.true means (omega (arith, c.loop-written.auto.best, room)) c.apply-refused.ensures.after
          (ap (set l.best l.written) (c.plain_best.ensures ∙ ap plain_best c.protected_quotes.ensures.best)),
      omega (arith, c.loop-written.auto.best, room),
    )
