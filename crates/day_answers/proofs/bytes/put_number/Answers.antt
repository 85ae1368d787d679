use Rattle.std.proofs.Common.{rules, arith}
use Rattle.std.proofs.lemmas.Fmt.{length-decimal-le}
use Rattle.day_answers.proofs.bytes.put_number.Goals as goal

pub write_digits-requires : goal.write_digits-requires
write_digits-requires c = search (rules, length-decimal-le 10)

pub returns-in-Some-clause-ten_digits : goal.returns-in-Some-clause-ten_digits
returns-in-Some-clause-ten_digits c = omega (arith, c.write_digits.ensures.start, length-decimal-le 10 c.from.result)
