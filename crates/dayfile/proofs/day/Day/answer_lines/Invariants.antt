use Rattle.std.proofs.Common.{length}
use Rattle.dayfile.specs.Doing.{Leaves}
use Rattle.dayfile.specs.Files.{lines_left}
use Rattle.dayfile.proofs.day.Day.answer_lines.Given as goal

abbrev pub invariant-loop-bytes : goal.invariant-loop-bytes
invariant-loop-bytes l = Leaves l.initial.self l.self l.line (lines_left l.initial.reader) (lines_left l.reader)

abbrev pub decreases-loop-bytes : goal.decreases-loop-bytes
decreases-loop-bytes l = length (lines_left l.reader)
