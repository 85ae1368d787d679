use Rattle.std.proofs.Common.{◌++◌, vec_items, sym, ap, ◌∙◌}
use Rattle.book.specs.Means.{cancelled_in, waiting_in}
use Rattle.day_answers.specs.declared.answer.Code.TheVariants.{Cancelled as K, Waiting as S}
use Rattle.dayfile.specs.Day.{if_any}
use Rattle.dayfile.specs.Writing.{lines_bytes}
use Rattle.dayfile.proofs.Behind.{none_written}
use Rattle.dayfile.proofs.writing.put_remainder.Goals as goal

pub returns-in-Nothing : goal.returns-in-Nothing
returns-in-Nothing c =
    let out = vec_items c.args.out.now in
    none_written out ∙ ap (λ r. out ++ lines_bytes (if_any c.args.line K c.args.number (cancelled_in r) ++ if_any c.args.line S c.args.number (waiting_in r))) (sym c.in-Nothing.is)
