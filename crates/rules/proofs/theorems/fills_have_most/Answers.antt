use Rattle.rules.proofs.Best.{fills_have_most}
use Rattle.rules.proofs.theorems.fills_have_most.Goals as goal

pub returns : goal.returns
returns c = fills_have_most
