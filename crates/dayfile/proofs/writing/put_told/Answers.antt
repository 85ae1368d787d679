use Rattle.std.proofs.Common.{◌≡◌, [], ◌∷◌, ◌++◌, Ok, vec_items, sym, ap, ◌∙◌}
use Rattle.std.proofs.lemmas.Result.{on_ok_weaker}
use Rattle.venue.specs.declared.answers.Answer.TheVariants.{Drawn, Returned}
use Rattle.venue.specs.Answers.{answer_of}
use Rattle.day_answers.specs.declared.answer.Code.TheVariants.{Away as B, Cancelled as K}
use Rattle.dayfile.specs.Day.{answer_lines, counted, if_any}
use Rattle.dayfile.specs.Writing.{lines_bytes}
use Rattle.dayfile.proofs.Behind.{behind, none_written}
use Rattle.dayfile.proofs.writing.put_told.Goals as goal

pub returns-in-Ok-Drawn : goal.returns-in-Ok-Drawn
returns-in-Ok-Drawn c =
    let out = vec_items c.args.out.now in
    let taken : c.args.answer ≡ Ok c.in-Ok-Drawn.field-0 = c.in-Ok-Drawn.is in
    let drawn : c.in-Ok-Drawn.field-0 ≡ Drawn c.in-Ok-Drawn.field-0-0 c.in-Ok-Drawn.field-0-1 = rw taken at c.in-Ok-Drawn.field-0-is in
    none_written out ∙ ap (λ r. out ++ lines_bytes (answer_lines c.args.line c.args.call (answer_of r c.args.fill_list.now))) (sym (taken ∙ ap Ok drawn))

pub returns-in_ok-put_line-in-Ok-Returned : goal.returns-in_ok-put_line-in-Ok-Returned
returns-in_ok-put_line-in-Ok-Returned c =
    let line = c.args.line in
    let back = c.in-Ok-Returned.back in
    let out = vec_items c.args.out.now in
    let first = vec_items c.put_line-in-Ok-Returned.new.out in
    let away = counted line B back.number back.away in
    let told = c.in_ok-put_line-in-Ok-Returned.ensures ∙ ap (λ x. out ++ lines_bytes (x ∷ [])) c.counted-in-Ok-Returned.ensures in
    let taken : c.args.answer ≡ Ok c.in-Ok-Returned.field-0 = c.in-Ok-Returned.is in
    let returned : c.in-Ok-Returned.field-0 ≡ Returned back = rw taken at c.in-Ok-Returned.field-0-is in
    let is = ap (λ r. out ++ lines_bytes (answer_lines line c.args.call (answer_of r c.args.fill_list.now))) (sym (taken ∙ ap Ok returned)) in
    on_ok_weaker c.put_if_any.result (λ e. behind out first (vec_items c.put_if_any.new.out) (away ∷ []) (if_any line K back.number back.cancelled) told e ∙ is) c.put_if_any.ensures
