use Rattle.std.proofs.Common.{◌≡◌}
use Rattle.quotes.specs.Quotes.{leader}
use Rattle.tournament_tree.specs.Tournament.{passing_at}
use Rattle.tournament_tree.proofs.tournament.Tournament.best_passing.Given as goal

abbrev pub invariant-loop-centre : goal.invariant-loop-centre
invariant-loop-centre g l = l.best ≡ leader l.self.side (passing_at (g.F.Filter.passes l.filter) l.self.places) l.centre
