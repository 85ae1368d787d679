-- How large a number of some digits is
use Rattle.std.proofs.Common.{ℕ, ◌+◌, ◌*◌, ◌^◌, ◌<◌, ◌≤◌, arith, add-one, pow-suc, lit<}
use Rattle.std.proofs.Math.Nat.{pow-le-pow_right}

-- a number with one digit more is below the next power of ten
pub digit_more : (n i d : ℕ) → n < 10 ^ i → i < 9 → d ≤ 9 → (10 * n + d < 10 ^ (i + 1)) × (10 * n + d < 1_000_000_000)
digit_more n i d h k m =
    let p = pow-suc 10 i in
    let a : 10 * n + d < 10 ^ (i + 1) = rw add-one (omega (arith, p)) in
    let up : i + 1 ≤ 9 = omega arith in
    let b : 10 ^ (i + 1) ≤ 10 ^ 9 = pow-le-pow_right (lit< tt) up in
    (a, omega arith)
