use Rattle.std.proofs.Common.{◌++◌, vec_items, sym, ap, ◌∙◌}
use Rattle.dayfile.specs.Day.{if_any}
use Rattle.dayfile.specs.Writing.{lines_bytes}
use Rattle.dayfile.proofs.Behind.{none_written}
use Rattle.dayfile.proofs.writing.put_if_any.Goals as goal

pub returns-then-shares-eq0 : goal.returns-then-shares-eq0
returns-then-shares-eq0 c =
    let out = vec_items c.args.out.now in
    none_written out ∙ ap (λ n. out ++ lines_bytes (if_any c.args.line c.args.code c.args.number n)) (sym c.if-shares-eq0.true)
