use Rattle.tournament_tree.proofs.Pairs.{means_none}
use Rattle.tournament_tree.proofs.TournamentTree.new.Goals as goal

pub returns : goal.returns
returns c = rw (c.new.ensures.places, c.new-2.ensures.places) (means_none 32)
