use Rattle.std.proofs.Common.{refl, ap}
use Rattle.day_lines.specs.Lines.{lines}
use Rattle.dayfile.specs.Files.{lines_left}
use Rattle.dayfile.proofs.Doing.{none_left, one_less}
use Rattle.dayfile.proofs.day.Day.answer_lines.Goals as goal

pub loop-bytes-preserved : goal.loop-bytes-preserved
loop-bytes-preserved c =
    let l = c.loop-bytes in
    one_less c.args.self.now l.self c.answer_line.new.self l.line (lines_left c.args.reader) (lines_left l.reader) (lines_left c.next_line.new.self) c.in-Some.bytes.now c.in-Some.ensures.line l.invariant c.in_ok-answer_line.ensures

pub returns : goal.returns
returns c =
    let l = c.loop-bytes in
    none_left c.args.self.now l.self l.line (lines_left c.args.reader) (lines_left l.reader) (ap lines (c.in_default.ensures.none.0 refl)) l.invariant
