use Rattle.std.proofs.Common.{false}
use mathlib.Core.Path.{fun_ext}
use Rattle.terms.proofs.Lists.{get_or_same}
use Rattle.exception_layer.proofs.CentreSet.new.Goals as goal

pub returns : goal.returns
returns c = fun_ext (λ centre. get_or_same 64 centre false)
