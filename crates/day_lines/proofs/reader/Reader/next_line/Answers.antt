use Rattle.std.proofs.Common.{◌<◌, length, drop, arith}
use Rattle.std.proofs.lemmas.Grind.{common_steps}
use Rattle.day_lines.proofs.Cuts.{first_line}
use Rattle.day_lines.proofs.reader.Reader.next_line.Goals as goal

pub returns-clause-line : goal.returns-clause-line
returns-clause-line c =
    let some : 0 < length (drop c.args.self.now.at c.args.self.now.text.now) = grind (arith, common_steps) in
    let h = first_line (drop c.args.self.now.at c.args.self.now.text.now) some in grind (arith, common_steps)
