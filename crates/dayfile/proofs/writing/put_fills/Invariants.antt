use Rattle.std.proofs.Common.{◌≡◌, ◌++◌, map, take, vec_items}
use Rattle.dayfile.specs.Day.{fill_line}
use Rattle.dayfile.specs.Writing.{lines_bytes}
use Rattle.dayfile.proofs.writing.put_fills.Given as goal

abbrev pub invariant-loop-fill : goal.invariant-loop-fill
invariant-loop-fill l = vec_items l.out ≡ vec_items l.initial.out ++ lines_bytes (map (fill_line l.line) (take l.fill-index l.fills))
