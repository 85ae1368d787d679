use Rattle.std.proofs.Common.{◌≡◌, true, sym, ap, ◌∙◌, arith}
use Rattle.std.specs.Str.{bytes_eq}
use Rattle.day_lines.specs.Lines.{lines}
use Rattle.dayfile.specs.Day.{names}
use Rattle.dayfile.specs.Files.{lines_left}
use Rattle.dayfile.proofs.Begin.{file_begun}
use Rattle.dayfile.proofs.answering.lines_behind_names.Goals as goal

pub returns-in-Some : goal.returns-in-Some
returns-in-Some c =
    let same : bytes_eq c.in-Some.first.now names ≡ true = sym c.eq.ensures ∙ c.if-eq.true in
    file_begun c.args.text.now c.in-Some.first.now (lines_left c.next_line.new.self) (omega arith) (ap lines (sym c.new-reader.ensures.rest) ∙ c.in-Some.ensures.line) same
