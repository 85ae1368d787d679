use Rattle.laws.proofs.Whole.{the_law}
use Rattle.laws.proofs.theorems.the_law_stands.Goals as goal

pub returns : goal.returns
returns c = the_law
