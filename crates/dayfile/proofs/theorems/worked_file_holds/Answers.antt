use Rattle.std.proofs.Common.{refl}
use Rattle.std.specs.Fmt.{digits}
use Rattle.quotes.specs.Quotes.{leader}
use Rattle.dayfile.specs.Day.{no_fills}
use Rattle.dayfile.proofs.theorems.worked_file_holds.Goals as goal

pub returns : goal.returns
unfolding digits leader no_fills
returns c = refl
