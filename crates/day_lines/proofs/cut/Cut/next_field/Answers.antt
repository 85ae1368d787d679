use Rattle.std.proofs.Common.{◌≤◌, length, refl, arith}
use Rattle.std.proofs.lemmas.List.{take_rest}
use Rattle.day_lines.proofs.Cuts.{field_cut}
use Rattle.day_lines.proofs.cut.Cut.next_field.Goals as goal

pub returns-clause-field : goal.returns-clause-field
returns-clause-field c =
    let within : c.args.self.now.at ≤ length c.args.self.now.line.now = omega arith in
    let cut = field_cut c.args.self.now.line.now _ _ c.args.self.now.at c.first_place-len.result within (take_rest c.args.self.now.line.now c.args.self.now.at) c.first_place-len.ensures.place c.first_place-len.ensures.within c.of.ensures.bytes in
    record { cells = cut.0; place = refl; next = omega arith; in_case = c.of.ensures.in_case }
