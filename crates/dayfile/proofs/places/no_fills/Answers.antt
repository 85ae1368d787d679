use Rattle.std.proofs.Common.{rules}
use Rattle.dayfile.specs.Day.{no_fills}
use Rattle.dayfile.proofs.places.no_fills.Goals as goal

pub returns : goal.returns
unfolding no_fills
returns c = search rules
