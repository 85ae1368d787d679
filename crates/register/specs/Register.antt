-- The register of approved members, as one word of 64 bits
use Rattle.std.specs.Prelude.{ℕ, ◌-◌, ◌/◌, ◌%◌, ◌^◌, Bool, cond, ◌&&◌, Ok, Err, Result, ◌==◌}
use Rattle.terms.specs.declared.refusals.Refusal.{Refusal}
use Rattle.terms.specs.declared.refusals.Refusal.TheVariants.{OutOfRange}
use Rattle.terms.specs.Limits.{is_member}

-- Member m is approved if the bit m - 1 of the word is set; nobody else is.
abbrev pub approved_in : (word : ℕ) → ℕ → Bool
approved_in word member = is_member member && word / 2 ^ (member - 1) % 2 == 1

-- the bit of a member, alone in a word
abbrev pub member_bit : ℕ → Result ℕ Refusal
member_bit member = cond (is_member member) (Ok (2 ^ (member - 1))) (Err OutOfRange)

-- A call with a number that is no member's is refused,
abbrev pub member_answer : ℕ → Result Unit Refusal
member_answer member = cond (is_member member) (Ok tt) (Err OutOfRange)

-- and changes nothing; any other sets whether this member is approved, and leaves all others.
abbrev pub member_set : ℕ → Bool → (ℕ → Bool) → (ℕ → Bool)
member_set member approved register = cond (is_member member) (λ m. cond (m == member) approved (register m)) register
