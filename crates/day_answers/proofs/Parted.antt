-- Fields and the byte after them
use Rattle.std.proofs.Common.{◌≡◌, ℕ, ◌<◌, ◌^◌, List, [], ◌∷◌, ◌++◌, Some, None, Option, decimal, length, ◌≢◌, refl, ap, append_assoc, arith}
use Rattle.std.specs.List.{AllByRecursion as Each}
use Rattle.std.specs.Str.Parse.{AllDigits}
use Rattle.std.proofs.lemmas.Fmt.{decimal_is_IsNumeral, decimal_nonempty, decimal_injective}
use Rattle.std.proofs.lemmas.Str.Parse.{digit_from_value}
use Rattle.day_answers.specs.Written.{letter, field, answer_bytes}
use Rattle.day_answers.specs.declared.answer.AnswerLine.{AnswerLine}
use Rattle.day_answers.specs.WrittenLaws.{Fits32}

-- the byte stands nowhere in the list
abbrev pub Without : ℕ → List ℕ → Type 0
Without c bs = Each (λ b. b ≢ c) bs

-- the bytes before the first byte c are determined, and so are those after it
parted : (c : ℕ) (xs ys rs ss : List ℕ) → Without c xs → Without c ys → xs ++ c ∷ rs ≡ ys ++ c ∷ ss → (xs ≡ ys) × (rs ≡ ss)
parted c [] [] rs ss p q e = (refl, cc)
parted c [] (y ∷ ys) rs ss p q e = absurd (q.0 (cc))
parted c (x ∷ xs) [] rs ss p q e = absurd (p.0 (cc))
parted c (x ∷ xs) (y ∷ ys) rs ss p q e =
    let both : (xs ≡ ys) × (rs ≡ ss) = parted c xs ys rs ss p.1 q.1 (cc) in
    (cc, both.1)

-- a comma or a byte 10 is no digit
digits_without : (c : ℕ) → c < 48 → (ds : List ℕ) → AllDigits 10 ds → Without c ds
digits_without c low [] all = tt
digits_without c low (d ∷ ds) all = let digit = digit_from_value d all.0 in (λ e. omega arith, digits_without c low ds all.1)

pub decimal_without : (c n : ℕ) → c < 48 → n < 2 ^ 32 → Without c (decimal n)
decimal_without c n low small = digits_without c low (decimal n) (decimal_is_IsNumeral n (omega arith)).0.1

pub field_without : (c : ℕ) (o : Option ℕ) → c < 48 → Fits32 o → Without c (field o)
field_without c None low small = tt
field_without c (Some n) low small = decimal_without c n low small

-- a number and a blank field are told apart, and so are two numbers
field_same : (o p : Option ℕ) → Fits32 o → Fits32 p → field o ≡ field p → o ≡ p
field_same None None h k e = refl
field_same None (Some n) h k e = absurd (omega (arith, decimal_nonempty n (omega arith), ap length e))
field_same (Some n) None h k e = absurd (omega (arith, decimal_nonempty n (omega arith), ap length e))
field_same (Some m) (Some n) h k e = ap Some (decimal_injective m n (omega arith) (omega arith) e)

-- a field before a comma or a byte 10 is determined, and so is what stands after it
pub field_parted : (c : ℕ) → c < 48 → (o p : Option ℕ) (rs ss : List ℕ) → Fits32 o → Fits32 p → field o ++ c ∷ rs ≡ field p ++ c ∷ ss → (o ≡ p) × (rs ≡ ss)
field_parted c low o p rs ss h k e =
    let both = parted c (field o) (field p) rs ss (field_without c o low h) (field_without c p low k) e in
    (field_same o p h k both.0, both.1)

-- a line and what stands after it, field by field
pub spread : (a : AnswerLine) (rs : List ℕ)
    → answer_bytes a ++ rs ≡ decimal a.line ++ 44 ∷ letter a.code ∷ 44 ∷ (field a.number ++ 44 ∷ (field a.price ++ 44 ∷ (field a.shares ++ 10 ∷ rs)))
spread a rs = simp append_assoc
