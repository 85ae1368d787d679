use Rattle.tournament_tree.proofs.Pairs.{sound_none}
use Rattle.tournament_tree.proofs.tournament.Tournament.new.Goals as goal

pub invariant_of-result : goal.invariant_of-result
invariant_of-result c = record { sound = sound_none c.args.side 32 }
