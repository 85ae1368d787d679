use Rattle.std.proofs.Common.{◌≤◌, length}
use Rattle.stacks.specs.Venue.{opening_quotes, venue_means}
use Rattle.plain_calls.proofs.Protects.{Shown}
use Rattle.plain_calls.proofs.protecting.protect_calls.Given as goal

abbrev pub invariant-loop-written : goal.invariant-loop-written
invariant-loop-written l =
    Shown opening_quotes l.calls l.initial.best l.best (venue_means l.quotes.lot.shares l.quotes.below.own.marks l.quotes.below.below.rows) l.written
    × (l.written ≤ length l.initial.best)
