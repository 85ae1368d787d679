use Rattle.std.proofs.Common.{◌+◌, ap, sym, ◌∙◌, set, arith}
use Rattle.plain_calls.specs.Runs.{session_state}
use Rattle.plain_calls.proofs.Making.{made_more, state_more}
use Rattle.plain_calls.proofs.running.Session.answer_all.Goals as goal

pub loop-made-preserved : goal.loop-made-preserved
loop-made-preserved c =
    let s = session_state c.args.self.now in
    let l = c.loop-made in
    let answer = c.answer-answer.ensures in
    let means = sym c.meant.ensures ∙ c.in-Some.is in (
      made_more s c.args.calls.now c.args.answers.now l.answers _ c.args.fills.now l.fills c.answer-answer.new.fills l.made l.written _ (session_state l.self) _ c.in-Some.call l.invariant.0 l.invariant.1 c.loop-made-test.true means (omega (arith, c.loop-made.auto.answers, c.if-answers-made.false))
          (ap (set l.answers l.made) answer.answer) answer.fills (ap (λ n. l.written + n) answer.count),
      answer.after ∙ state_more s c.args.calls.now c.args.answers.now l.answers l.answers c.args.fills.now l.fills l.fills l.made l.written l.written (session_state l.self) _ c.in-Some.call l.invariant.1 c.loop-made-test.true means,
    )
