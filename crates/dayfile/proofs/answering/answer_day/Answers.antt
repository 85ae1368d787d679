use Rattle.std.proofs.Common.{◌++◌, Ok, Err, vec_items, ap, ◌∙◌}
use Rattle.day_answers.specs.Written.{head_bytes}
use Rattle.dayfile.specs.Day.{day_lines_from}
use Rattle.dayfile.specs.Files.{lines_left}
use Rattle.dayfile.specs.Writing.{lines_bytes}
use Rattle.dayfile.proofs.Whole.{day_kept}
use Rattle.dayfile.proofs.answering.answer_day.Goals as goal

pub returns-in_ok-answered-in-Ok : goal.returns-in_ok-answered-in-Ok
returns-in_ok-answered-in-Ok c =
    let day = c.in_ok-day-in-Ok.day in
    let left = lines_left c.in-Ok.reader in
    let head = c.in_ok-put_head.ensures.bytes ∙ ap (λ l. l ++ head_bytes) c.new-out.ensures.items in
    day_kept c.args.text.now (vec_items day.out) (vec_items c.close-out.result) (Ok left) (ap vec_items c.in_ok-day-in-Ok.ensures.1 ∙ head) c.in-Ok.ensures.0
    (ap vec_items c.close-out.ensures ∙ (c.in_ok-answered-in-Ok.ensures.told ∙ ap (λ s. vec_items day.out ++ lines_bytes (day_lines_from s 2 left)) c.in_ok-day-in-Ok.ensures.0))

pub returns-in_ok-put_fault-in-Err : goal.returns-in_ok-put_fault-in-Err
returns-in_ok-put_fault-in-Err c =
    let head = c.in_ok-put_head.ensures.bytes ∙ ap (λ l. l ++ head_bytes) c.new-out.ensures.items in
    day_kept c.args.text.now (vec_items c.put_head.new.out) (vec_items c.put_fault.new.out) (Err c.in-Err.kind) head c.in-Err.ensures c.in_ok-put_fault-in-Err.ensures
