use Rattle.std.proofs.Common.{rules, tests, ◌≤◌, arith}
use Rattle.day_lines.proofs.Digits.{digit_more}
use Rattle.day_lines.proofs.number.number.Goals as goal

pub overflow_mul-number : goal.overflow_mul-number
overflow_mul-number c = let h = digit_more c.loop-byte.number c.loop-byte.byte-index 0 c.loop-byte.invariant.small (omega arith) (omega arith) in omega arith

pub overflow_add-number : goal.overflow_add-number
overflow_add-number c =
    let small : c.from.result ≤ 9 = search (rules, tests, tests) in
    let h = digit_more c.loop-byte.number c.loop-byte.byte-index c.from.result c.loop-byte.invariant.small (omega arith) small in
    omega arith
