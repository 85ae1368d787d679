use Rattle.std.proofs.Common.{[], ◌∷◌, ◌++◌, map, vec_items, ap, ◌∙◌}
use Rattle.std.proofs.lemmas.Result.{on_ok_weaker}
use Rattle.book.specs.Means.{cancelled_in, waiting_in}
use Rattle.day_answers.specs.declared.answer.Code.TheVariants.{Cancelled as K, Filled as R, Waiting as S}
use Rattle.dayfile.specs.Day.{counted, fill_line, if_any}
use Rattle.dayfile.specs.Writing.{lines_bytes}
use Rattle.dayfile.proofs.Behind.{behind}
use Rattle.dayfile.proofs.writing.put_trade.Goals as goal

pub returns : goal.returns
returns c =
    let line = c.args.line in
    let trade = c.args.trade in
    let before = vec_items c.args.out.now in
    let first = vec_items c.put_fills.new.out in
    let second = vec_items c.put_line.new.out in
    let all = counted line R trade.number trade.filled in
    let rest = if_any line K trade.number (cancelled_in trade.remainder) ++ if_any line S trade.number (waiting_in trade.remainder) in
    let told = c.in_ok-put_line.ensures ∙ ap (λ x. first ++ lines_bytes (x ∷ [])) c.counted.ensures in
    on_ok_weaker c.put_remainder.result (λ e. behind before first (vec_items c.put_remainder.new.out) (map (fill_line line) c.args.fills.now) (all ∷ rest) c.in_ok-put_fills.ensures (behind first second (vec_items c.put_remainder.new.out) (all ∷ []) rest told e))
    c.put_remainder.ensures
