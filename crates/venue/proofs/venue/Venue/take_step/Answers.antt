use Rattle.std.proofs.Common.{rules}
use Rattle.std.proofs.lemmas.Result.{MatchResult-weaker}
use Rattle.terms.specs.declared.calls.Call.TheVariants.{Enter, Cancel, Retail, Draw, Return, Move, Approve, Withdraw, Quotes}
use Rattle.book.specs.Means.{cancel_answer, done_answer, entry_answer, state}
use Rattle.book.proofs.Stepping.{quote_steps}
use Rattle.venue.specs.Answers.{answer_of, plain_answer}
use Rattle.venue.proofs.Calling.{answered, plainly, says_cancelled, says_done, says_entered, still, still_kept}
use Rattle.venue.proofs.venue.Venue.take_step.Goals as goal

pub invariant_of-self : goal.invariant_of-self
invariant_of-self g c =
    let v = c.args.self.now in
    let q = g.S.QuoteSource.means c.args.source.now in
    let list = c.args.out.now in
    let k = still_kept g.S.QuoteSource.denotes g.S.QuoteSource.centres v (state c.enter.new.self) q q (Enter c.in-Enter.order) list list (entry_answer c.enter.result) (c.enter.ensures g.S.QuoteSource.centres q list) tt in
    record { numbered = k.0; tallied = k.1; room = v.room }

pub returns-in-Enter : goal.returns-in-Enter
returns-in-Enter g c =
    let v = c.args.self.now in
    let q = g.S.QuoteSource.means c.args.source.now in
    let list = c.args.out.now in
    let says = says_entered c.map.result c.enter.result (MatchResult-weaker c.enter.result c.map.ensures.cases (λ x p. search rules) (λ e p. search rules)) in
    let k = answered g.S.QuoteSource.denotes g.S.QuoteSource.centres v (state c.enter.new.self) q q (Enter c.in-Enter.order) list list (entry_answer c.enter.result) (c.enter.ensures g.S.QuoteSource.centres q list) tt c.args.call c.in-Enter.is c.map.result says in
    record { step = k.0; slips = k.1; within = k.2; rest = k.3 }

pub invariant_of-self-in-Cancel : goal.invariant_of-self-in-Cancel
invariant_of-self-in-Cancel g c =
    let v = c.args.self.now in
    let q = g.S.QuoteSource.means c.args.source.now in
    let list = c.args.out.now in
    let k = still_kept g.S.QuoteSource.denotes g.S.QuoteSource.centres v (state c.cancel.new.self) q q (Cancel c.in-Cancel.member c.in-Cancel.number) list list (cancel_answer c.cancel.result) (c.cancel.ensures g.S.QuoteSource.centres q list) tt in
    record { numbered = k.0; tallied = k.1; room = v.room }

pub returns-in-Cancel : goal.returns-in-Cancel
returns-in-Cancel g c =
    let v = c.args.self.now in
    let q = g.S.QuoteSource.means c.args.source.now in
    let list = c.args.out.now in
    let says = says_cancelled c.map-in-Cancel.result c.cancel.result (MatchResult-weaker c.cancel.result c.map-in-Cancel.ensures.cases (λ x p. search rules) (λ e p. search rules)) in
    let k = answered g.S.QuoteSource.denotes g.S.QuoteSource.centres v (state c.cancel.new.self) q q (Cancel c.in-Cancel.member c.in-Cancel.number) list list (cancel_answer c.cancel.result) (c.cancel.ensures g.S.QuoteSource.centres q list) tt c.args.call c.in-Cancel.is c.map-in-Cancel.result says in
    record { step = k.0; slips = k.1; within = k.2; rest = k.3 }

pub invariant_of-self-in-Move : goal.invariant_of-self-in-Move
invariant_of-self-in-Move g c =
    let v = c.args.self.now in
    let q = g.S.QuoteSource.means c.args.source.now in
    let list = c.args.out.now in
    let k = still_kept g.S.QuoteSource.denotes g.S.QuoteSource.centres v (state c.move_phase.new.self) q q (Move c.in-Move.event) list list (done_answer c.move_phase.result) (c.move_phase.ensures g.S.QuoteSource.centres q list) tt in
    record { numbered = k.0; tallied = k.1; room = v.room }

pub returns-in-Move : goal.returns-in-Move
returns-in-Move g c =
    let v = c.args.self.now in
    let q = g.S.QuoteSource.means c.args.source.now in
    let list = c.args.out.now in
    let says = says_done c.map-in-Move.result c.move_phase.result (MatchResult-weaker c.move_phase.result c.map-in-Move.ensures.cases (λ x p. search rules) (λ e p. search rules)) in
    let k = answered g.S.QuoteSource.denotes g.S.QuoteSource.centres v (state c.move_phase.new.self) q q (Move c.in-Move.event) list list (done_answer c.move_phase.result) (c.move_phase.ensures g.S.QuoteSource.centres q list) tt c.args.call c.in-Move.is c.map-in-Move.result says in
    record { step = k.0; slips = k.1; within = k.2; rest = k.3 }

pub invariant_of-self-in-Approve : goal.invariant_of-self-in-Approve
invariant_of-self-in-Approve g c =
    let v = c.args.self.now in
    let q = g.S.QuoteSource.means c.args.source.now in
    let list = c.args.out.now in
    let k = still_kept g.S.QuoteSource.denotes g.S.QuoteSource.centres v (state c.approve.new.self) q q (Approve c.in-Approve.member) list list (done_answer c.approve.result) (c.approve.ensures g.S.QuoteSource.centres q list) tt in
    record { numbered = k.0; tallied = k.1; room = v.room }

pub returns-in-Approve : goal.returns-in-Approve
returns-in-Approve g c =
    let v = c.args.self.now in
    let q = g.S.QuoteSource.means c.args.source.now in
    let list = c.args.out.now in
    let says = says_done c.map-in-Approve.result c.approve.result (MatchResult-weaker c.approve.result c.map-in-Approve.ensures.cases (λ x p. search rules) (λ e p. search rules)) in
    let k = answered g.S.QuoteSource.denotes g.S.QuoteSource.centres v (state c.approve.new.self) q q (Approve c.in-Approve.member) list list (done_answer c.approve.result) (c.approve.ensures g.S.QuoteSource.centres q list) tt c.args.call c.in-Approve.is c.map-in-Approve.result says in
    record { step = k.0; slips = k.1; within = k.2; rest = k.3 }

pub invariant_of-self-in-Withdraw : goal.invariant_of-self-in-Withdraw
invariant_of-self-in-Withdraw g c =
    let v = c.args.self.now in
    let q = g.S.QuoteSource.means c.args.source.now in
    let list = c.args.out.now in
    let k = still_kept g.S.QuoteSource.denotes g.S.QuoteSource.centres v (state c.withdraw.new.self) q q (Withdraw c.in-Withdraw.member) list list (done_answer c.withdraw.result) (c.withdraw.ensures g.S.QuoteSource.centres q list) tt in
    record { numbered = k.0; tallied = k.1; room = v.room }

pub returns-in-Withdraw : goal.returns-in-Withdraw
returns-in-Withdraw g c =
    let v = c.args.self.now in
    let q = g.S.QuoteSource.means c.args.source.now in
    let list = c.args.out.now in
    let says = says_done c.map-in-Withdraw.result c.withdraw.result (MatchResult-weaker c.withdraw.result c.map-in-Withdraw.ensures.cases (λ x p. search rules) (λ e p. search rules)) in
    let k = answered g.S.QuoteSource.denotes g.S.QuoteSource.centres v (state c.withdraw.new.self) q q (Withdraw c.in-Withdraw.member) list list (done_answer c.withdraw.result) (c.withdraw.ensures g.S.QuoteSource.centres q list) tt c.args.call c.in-Withdraw.is c.map-in-Withdraw.result says in
    record { step = k.0; slips = k.1; within = k.2; rest = k.3 }

pub returns-in-Retail-clause-slips : goal.returns-in-Retail-clause-slips
returns-in-Retail-clause-slips g c =
    let v = c.args.self.now in
    let q = g.S.QuoteSource.means c.args.source.now in
    rw c.trade.ensures.held
    (still g.S.QuoteSource.denotes g.S.QuoteSource.centres v (state c.trade.new.self.book) q q (Retail c.in-Retail.order c.in-Retail.places) c.args.out.now c.trade.new.out (answer_of c.trade.result c.trade.new.out) c.trade.ensures.step tt)

pub returns-in-Draw-clause-step : goal.returns-in-Draw-clause-step
returns-in-Draw-clause-step g c =
    let q = g.S.QuoteSource.means c.args.source.now in
    let list = c.args.out.now in
    let r = c.draw.result in
    plainly g.S.QuoteSource.denotes g.S.QuoteSource.centres c.args.self.now (state c.draw.new.self.book) q q (Draw c.in-Draw.number) list list (plain_answer r) (c.draw.ensures.step g.S.QuoteSource.centres q list)
    c.args.call c.in-Draw.is r c.draw.ensures.plain

pub returns-in-Return-clause-step : goal.returns-in-Return-clause-step
returns-in-Return-clause-step g c =
    let q = g.S.QuoteSource.means c.args.source.now in
    let list = c.args.out.now in
    let r = c.take_back.result in
    plainly g.S.QuoteSource.denotes g.S.QuoteSource.centres c.args.self.now (state c.take_back.new.self.book) q q (Return c.in-Return.number c.in-Return.shares c.in-Return.away) list list (plain_answer r) (c.take_back.ensures.step g.S.QuoteSource.centres q list)
    c.args.call c.in-Return.is r c.take_back.ensures.plain

pub returns-in-Quotes : goal.returns-in-Quotes
returns-in-Quotes g c =
    let v = c.args.self.now in
    let b = state v.book in
    let q = g.S.QuoteSource.means c.args.source.now in
    let q' = g.S.QuoteSource.means c.apply.new.self in
    let list = c.args.out.now in
    let own = c.in-Quotes.quote_call in
    let st = quote_steps g.S.QuoteSource.centres b q q' (g.S.QuoteSource.denotes own) c.apply.result c.apply.ensures.answer c.apply.ensures.after list in
    let says = says_done c.map-in-Quotes.result c.apply.result (MatchResult-weaker c.apply.result c.map-in-Quotes.ensures.cases (λ x p. search rules) (λ e p. search rules)) in
    let k = answered g.S.QuoteSource.denotes g.S.QuoteSource.centres v b q q' (Quotes own) list list (done_answer c.apply.result) st tt c.args.call c.in-Quotes.is c.map-in-Quotes.result says in
    record { step = k.0; slips = k.1; within = k.2; rest = k.3 }
