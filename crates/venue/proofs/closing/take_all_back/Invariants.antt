use Rattle.std.proofs.Common.{◌≡◌, map, vec_items, vec_len}
use Rattle.laws.specs.Routed.{InStep}
use Rattle.book.specs.Means.{state}
use Rattle.venue.specs.Answers.{note_of}
use Rattle.venue.specs.Closing.{all_back}
use Rattle.venue.proofs.closing.take_all_back.Given as goal

abbrev pub invariant-loop-slip : goal.invariant-loop-slip
invariant-loop-slip l = InStep (state l.book) (map note_of (vec_items l.slips)) × (all_back (state l.book) ≡ all_back (state l.initial.book))

abbrev pub decreases-loop-slip : goal.decreases-loop-slip
decreases-loop-slip l = vec_len l.slips
