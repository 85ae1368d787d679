use Rattle.std.proofs.Common.{map, vec_items}
use Rattle.book.specs.BookState.{state_of}
use Rattle.book.specs.Means.{state}
use Rattle.venue.specs.Answers.{call_of, note_of}
use Rattle.venue.specs.Runs.{Ran}
use Rattle.venue.proofs.runs.Record.follow.Given as goal

abbrev pub invariant-loop-call : goal.invariant-loop-call
invariant-loop-call g l =
    Ran g.S.QuoteSource.centres (state_of (state l.initial.venue.book) (g.S.QuoteSource.means l.initial.source) l.initial.out) (map (call_of g.S.QuoteSource.denotes) l.calls) l.call-index
    (vec_items l.self.answers) (vec_items l.self.fills) (state_of (state l.venue.book) (g.S.QuoteSource.means l.source) l.out) (map note_of (vec_items l.venue.held))
