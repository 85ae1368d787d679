-- The bits of a word, one by one, and how many of them are set
use Rattle.std.proofs.Common.{◌≡◌, ℕ, zero, suc, ◌+◌, ◌-◌, ◌*◌, ◌/◌, ◌%◌, ◌^◌, ◌<◌, ◌≤◌, Bool, true, false, cond, not, ◌&&◌, ◌||◌, eqb, Ok, Err, Result, sym, refl, ap, ◌∙◌, ⊎_elim, mod-lt, mod-eq_of_lt, one-add, arith, w64, bit_and, bit_or}
use mathlib.Core.Path.{fun_ext}
use native.Mathlib.Nat.{div-eq_of_lt}
use lib.Count.{ones, ones_step, ones_cat}
use Rattle.std.specs.Int.{bit_at, bit_not}
use Rattle.std.proofs.lemmas.Bool.{cases_eq, eq-eqb, ne_eqb}
use Rattle.std.proofs.lemmas.Nat.{mod_below, ones-le, pow_pos, pow_below, mod-pow-add}
use Rattle.std.proofs.lemmas.Nat.Bits.{and_pow, bit_at_and, bit_at-lt, bit_at_not, bit_at_or, bit_at-pow_other, bit_at-pow_same}
use Rattle.std.proofs.lemmas.Bool.Decides.{nat_tests}
use Rattle.terms.specs.declared.refusals.Refusal.{Refusal}
use Rattle.terms.specs.declared.refusals.Refusal.TheVariants.{OutOfRange}
use Rattle.terms.specs.Limits.{is_member}
use Rattle.laws.specs.Book.{approved_up_to}
use Rattle.register.specs.Register.{approved_in, member_bit, member_set}

-- THE BITS OF A WORD

pow_bit : (k j : ℕ) → bit_at (2 ^ k) j ≡ cond (eqb j k) 1 0
pow_bit k j =
    ⊎_elim
    (λ (e : j ≡ k). rw e (bit_at-pow_same k ∙ sym (ap (λ b. cond b 1 0) (eq-eqb k k refl))))
    (λ (ne : j ≡ k → ⊥). bit_at-pow_other k j ne ∙ sym (ap (λ b. cond b 1 0) (ne_eqb j k ne)))
    (cases_eq j k)

-- whether the bit j is set once the bit k is put in
bit_put : (w k j : ℕ) → eqb (bit_at (bit_or w (2 ^ k)) j) 1 ≡ eqb j k || eqb (bit_at w j) 1
bit_put w k j =
    let a = bit_at_or w (2 ^ k) j in
    let b = pow_bit k j in
    let c = bit_at-lt w j in
    grind (arith, nat_tests)

-- whether it is once the bit k is taken out
bit_taken : (w k j : ℕ) → k < 64 → j < 64 → eqb (bit_at (bit_and w (bit_not w64 (2 ^ k))) j) 1 ≡ not (eqb j k) && eqb (bit_at w j) 1
bit_taken w k j h i =
    let a = bit_at_and w (bit_not w64 (2 ^ k)) j in
    let n = bit_at_not w64 (2 ^ k) j (pow_below k 64 h) i in
    let b = pow_bit k j in
    let c = bit_at-lt w j in
    grind (arith, nat_tests)

-- the test of a bit, as the code makes it
one : (bit power n : ℕ) → n ≡ bit * power → 0 < power → bit < 2 → not (eqb n 0) ≡ eqb bit 1
one zero power n e h l = let z : n ≡ 0 = omega (arith, e) in grind (arith, nat_tests)
one (suc zero) power n e h l = let z : n ≡ power = omega (arith, e) in grind (arith, nat_tests)
one (suc (suc b)) power n e h l = absurd (omega (arith, l))

-- THE MEMBERS OF A WORD

module _ (w member : ℕ) where
  -- With a member's bit put in or taken out, that member alone has changed.
  pub put_in : is_member member ≡ true → (m : ℕ) → approved_in (bit_or w (2 ^ (member - 1))) m ≡ cond (eqb m member) true (approved_in w m)
  put_in is_one m =
      let b = bit_put w (member - 1) (m - 1) in
      grind (arith, nat_tests)

  pub taken_out : is_member member ≡ true → (m : ℕ) → approved_in (bit_and w (bit_not w64 (2 ^ (member - 1)))) m ≡ cond (eqb m member) false (approved_in w m)
  taken_out is_one m = go (is_member m) refl
    where
      below : (n : ℕ) → is_member n ≡ true → n - 1 < 64
      below n h = grind (arith, nat_tests)

      go : (b : Bool) → is_member m ≡ b → approved_in (bit_and w (bit_not w64 (2 ^ (member - 1)))) m ≡ cond (eqb m member) false (approved_in w m)
      go true i =
          let b = bit_taken w (member - 1) (m - 1) (below member is_one) (below m i) in
          grind (arith, nat_tests)
      go false i = grind (arith, nat_tests)

  module _ (b : ℕ) (is_bit : member_bit member ≡ Ok b) where
    bit_is : (is_member member ≡ true) × (b ≡ 2 ^ (member - 1))
    bit_is = go (is_member member) refl
      where
        go : (v : Bool) → is_member member ≡ v → (is_member member ≡ true) × (b ≡ 2 ^ (member - 1))
        go true i = (i, let e : ◌≡◌ {A = Result ℕ Refusal} (Ok (2 ^ (member - 1))) (Ok b) = sym (ap (λ v. cond v (Ok (2 ^ (member - 1))) (Err OutOfRange)) i) ∙ is_bit in cc)
        go false i = let e : ◌≡◌ {A = Result ℕ Refusal} (Err OutOfRange) (Ok b) = sym (ap (λ v. cond v (Ok (2 ^ (member - 1))) (Err OutOfRange)) i) ∙ is_bit in let z : ◌≡◌ {A = ℕ} 0 1 = cc in absurd (omega arith)

    pub approved : approved_in (bit_or w b) ≡ member_set member true (approved_in w)
    approved =
        ap (λ n. approved_in (bit_or w n)) bit_is.1
        ∙ (fun_ext (put_in bit_is.0) ∙ sym (ap (λ v. cond v (λ m. cond (eqb m member) true (approved_in w m)) (approved_in w)) bit_is.0))

    pub withdrawn : approved_in (bit_and w (bit_not w64 b)) ≡ member_set member false (approved_in w)
    withdrawn =
        ap (λ n. approved_in (bit_and w (bit_not w64 n))) bit_is.1
        ∙ (fun_ext (taken_out bit_is.0) ∙ sym (ap (λ v. cond v (λ m. cond (eqb m member) false (approved_in w m)) (approved_in w)) bit_is.0))

    -- the test of the bit, as the code makes it
    pub has_bit : not (eqb (bit_and w b) 0) ≡ approved_in w member
    has_bit =
        rw bit_is.1
        (one (bit_at w (member - 1)) (2 ^ (member - 1)) (bit_and w (2 ^ (member - 1))) (and_pow w (member - 1)) (pow_pos (member - 1)) (bit_at-lt w (member - 1))
        ∙ sym (ap (λ v. v && eqb (w / 2 ^ (member - 1) % 2) 1) bit_is.0))

  pub no_bit : member_bit member ≡ Err OutOfRange → approved_in w member ≡ false
  no_bit e = go (is_member member) refl
    where
      go : (v : Bool) → is_member member ≡ v → approved_in w member ≡ false
      go true i = let k : ◌≡◌ {A = Result ℕ Refusal} (Ok (2 ^ (member - 1))) (Err OutOfRange) = sym (ap (λ v. cond v (Ok (2 ^ (member - 1))) (Err OutOfRange)) i) ∙ e in let z : ◌≡◌ {A = ℕ} 0 1 = cc in absurd (omega arith)
      go false i = ap (λ v. v && eqb (w / 2 ^ (member - 1) % 2) 1) i

-- A member is approved if its bit is set.
is_set : (w member : ℕ) → is_member member ≡ true → approved_in w member ≡ eqb (w / 2 ^ (member - 1) % 2) 1
is_set w member is_one = ap (λ b. b && eqb (w / 2 ^ (member - 1) % 2) 1) is_one

-- THE COUNT

ones_zero : ones 0 ≡ 0
ones_zero = omega (arith, ones-le 0 0 (omega arith))

ones_bit : (b : ℕ) → b < 2 → ones b ≡ cond (eqb b 1) 1 0
ones_bit b h =
    let s = ones_step b in
    let z : ones (b / 2) ≡ 0 = ap ones (div-eq_of_lt h) ∙ ones_zero in
    let e : ones b ≡ b = omega arith in
    e ∙ grind (arith, nat_tests)

-- The bit n is that of the member n + 1.
next_is : (w n : ℕ) → suc n ≤ 64 → eqb (w / 2 ^ n % 2) 1 ≡ approved_in w (suc n)
next_is w n h =
    let e : n ≡ suc n - 1 = omega arith in
    let m : is_member (suc n) ≡ true = grind (arith, nat_tests) in
    ap (λ k. eqb (w / 2 ^ k % 2) 1) e ∙ sym (is_set w (suc n) m)

-- The set bits among the lowest n are the approved among the first n members.
ones_low : (w n : ℕ) → n ≤ 64 → ones (w % 2 ^ n) ≡ approved_up_to (approved_in w) n
ones_low w zero h = let z : w % 1 ≡ 0 = omega arith in ap ones z ∙ ones_zero
ones_low w (suc n) h =
    let b = w / 2 ^ n % 2 in
    let r = w % 2 ^ n in
    let p : 2 ^ suc n ≡ 2 ^ (1 + n) = ap (λ k. 2 ^ k) (sym (one-add n)) in
    let e : w % 2 ^ suc n ≡ b * 2 ^ n + r = ap (λ k. w % k) p ∙ mod-pow-add w 1 n in
    let o = ones_cat n b r (mod-lt w (pow_pos n)) in
    let c = ones_bit b (mod_below (w / 2 ^ n) 2 (omega arith)) in
    let i = ap (λ t. cond {A = ℕ} t 1 0) (next_is w n h) in
    omega (arith, ap ones e, o, c ∙ i, ones_low w n (omega arith))

pub ones_count : (w : ℕ) → w < 2 ^ 64 → ones w ≡ approved_up_to (approved_in w) 64
ones_count w h = ap ones (sym (mod-eq_of_lt h)) ∙ ones_low w 64 (omega arith)
