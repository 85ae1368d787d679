use Rattle.std.proofs.Common.{◌≡◌, take, fold}
use Rattle.tour.specs.Tallies.{fill_added}
use Rattle.tour.proofs.tallies.add_fills.Given as goal

abbrev pub invariant-loop-fill : goal.invariant-loop-fill
invariant-loop-fill l = l.tallies ≡ fold fill_added l.initial.tallies (take l.fill-index l.fills)
