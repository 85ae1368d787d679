use Rattle.std.proofs.Common.{sym, add-one, rules}
use Rattle.quotes.proofs.Shown.{leader_none, leader_more}
use Rattle.tournament_tree.proofs.tournament.Tournament.best_passing.Goals as goal

pub loop-centre-init : goal.loop-centre-init
loop-centre-init g c = sym (leader_none _ _)

pub loop-centre-preserved : goal.loop-centre-preserved
loop-centre-preserved g c = rw (add-one, leader_more) (search rules)
