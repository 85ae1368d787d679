use Rattle.std.proofs.Common.{[], ◌∷◌, ◌++◌, map, take, vec_items, ap, ◌∙◌}
use Rattle.dayfile.specs.Day.{fill_line}
use Rattle.dayfile.specs.Writing.{lines_bytes}
use Rattle.dayfile.proofs.Behind.{behind, fills_more, none_written}
use Rattle.dayfile.proofs.writing.put_fills.Goals as goal

pub loop-fill-init : goal.loop-fill-init
loop-fill-init c = none_written (vec_items c.args.out.now)

pub loop-fill-preserved : goal.loop-fill-preserved
loop-fill-preserved c =
    let out = vec_items c.args.out.now in
    let i = c.loop-fill.fill-index in
    let fills = c.args.fills.now in
    behind out (vec_items c.loop-fill.out) (vec_items c.put_line.new.out) (map (fill_line c.args.line) (take i fills)) (c.fill_line.result ∷ []) c.loop-fill.invariant c.in_ok-put_line.ensures
    ∙ ap (λ l. out ++ lines_bytes l) (fills_more c.args.line fills i _ c.fill_line.result c.loop-fill-test.true c.fill_line.ensures)
