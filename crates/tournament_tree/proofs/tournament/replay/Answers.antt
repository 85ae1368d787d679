use Rattle.std.proofs.Common.{None, ◌∙◌, arith, rules}
use Rattle.std.proofs.lemmas.List.{get_or-set_other}
use Rattle.tournament_tree.proofs.Pairs.{won_more}
use Rattle.tournament_tree.proofs.tournament.replay.Goals as goal

pub loop-k-preserved : goal.loop-k-preserved
loop-k-preserved c = (
  won_more c.args.side c.loop-k.places c.loop-k.k c.winner_of.result (search rules) (search rules) (search rules) c.loop-k.invariant.0,
  (λ j h. get_or-set_other c.loop-k.places c.loop-k.k j c.winner_of.result None (λ e. omega (arith, c.loop-k.invariant.2)) ∙ c.loop-k.invariant.1 j h),
  search rules,
  search rules,
)
