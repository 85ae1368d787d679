use Rattle.std.proofs.Common.{ap}
use Rattle.rpiday.proofs.Cut.{read_cut}
use Rattle.rpiday.proofs.read_file.Goals as goal

pub returns : goal.returns
returns g c = read_cut _ _ _ _ _ (ap g.R.Read.remaining c.take.ensures.inner) c.take.ensures.limit c.new-read.ensures.items c.in_ok-read_to_end.ensures.bytes
