use Rattle.std.proofs.Common.{◌≡◌, map, take, vec_items}
use Rattle.desk.specs.Events.{event_call}
use Rattle.venue.specs.Answers.{call_of}
use Rattle.tour.proofs.stack_runs.calls_of.Given as goal

abbrev pub invariant-loop-event : goal.invariant-loop-event
invariant-loop-event g l = map (call_of g.S.QuoteSource.denotes) (vec_items l.calls) ≡ map (λ event. event_call event 256) (take l.event-index l.events)
