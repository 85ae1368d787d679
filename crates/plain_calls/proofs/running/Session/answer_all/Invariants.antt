use Rattle.std.proofs.Common.{◌≡◌}
use Rattle.laws.specs.Steps.{run}
use Rattle.plain_calls.specs.Runs.{calls_meant, session_state, Made}
use Rattle.plain_calls.proofs.running.Session.answer_all.Given as goal

abbrev pub invariant-loop-made : goal.invariant-loop-made
invariant-loop-made l =
    Made (session_state l.initial.self) l.calls l.initial.answers l.answers l.initial.fills l.fills l.made l.written
    × (session_state l.self ≡ run 32 (session_state l.initial.self) (calls_meant l.made l.calls))
