use Rattle.rpiday.proofs.Cut.{answer_written}
use Rattle.rpiday.proofs.answer.Goals as goal

pub returns : goal.returns
returns g c = answer_written _ _ _ _ _ _ _ c.in_ok-read.ensures c.deref.ensures.value c.in_ok-answers.ensures c.deref-2.ensures.value c.in_ok-write_all.ensures.bytes
