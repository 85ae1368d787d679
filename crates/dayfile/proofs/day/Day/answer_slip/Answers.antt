use Rattle.std.proofs.Common.{◌≡◌, Some, arith}
use Rattle.std.proofs.lemmas.Result.{on_ok_weaker}
use Rattle.slips.specs.Slips.{shares_waiting}
use Rattle.dayfile.specs.Doing.{day_state}
use Rattle.dayfile.proofs.Doing.{slip_done}
use Rattle.dayfile.proofs.day.Day.answer_slip.Goals as goal

pub returns-in_ok-answer_call-in-Some-2 : goal.returns-in_ok-answer_call-in-Some-2
returns-in_ok-answer_call-in-Some-2 c =
    let waits : shares_waiting c.args.number (day_state c.args.self.now).book.slips ≡ Some c.in-Some.shares = let e = c.in-Some.ensures in let p = c.parts.ensures.book in cc in
    on_ok_weaker c.answer_call-in-Some-2-2.result (λ d. slip_done c.args.line c.args.number c.args.away c.in-Some.shares c.args.self.now c.answer_call-in-Some-2.new.self c.answer_call-in-Some-2-2.new.self waits (omega arith) c.in_ok-answer_call-in-Some-2.ensures d)
    c.answer_call-in-Some-2-2.ensures
