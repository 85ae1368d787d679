-- A written line is one line
use Rattle.std.proofs.Common.{◌≡◌, ℕ, ◌+◌, ◌<◌, ◌==◌, cond, List, [], ◌∷◌, ◌++◌, decimal, count_by, refl, sym, ap, ◌∙◌, append-nil, arith, lit<}
use borrow.Author.Tests.{ne_eqb}
use Rattle.std.proofs.lemmas.List.Sums.{sum_by-append, sum_by-cons}
use Rattle.day_answers.specs.declared.answer.Code.{Code}
use Rattle.day_answers.specs.declared.answer.Code.TheVariants.{Fill, Filled, Cancelled, Waiting, Away, Refused, Entered, Left, Approved, Withdrawn, Told, Moved, Declared, Lifted, Identifier}
use Rattle.day_answers.specs.declared.answer.AnswerLine.{AnswerLine}
use Rattle.day_answers.specs.Written.{letter, field, answer_bytes, fields, joined}
use Rattle.day_answers.specs.WrittenLaws.{HasU32s, IsOneLine}
use Rattle.day_answers.proofs.Parted.{Without, decimal_without, field_without, spread}

-- a letter is neither a comma nor a byte 10
letter_high : (c : Code) → 48 < letter c
letter_high Fill = lit< tt
letter_high Filled = lit< tt
letter_high Cancelled = lit< tt
letter_high Waiting = lit< tt
letter_high Away = lit< tt
letter_high Refused = lit< tt
letter_high Entered = lit< tt
letter_high Left = lit< tt
letter_high Approved = lit< tt
letter_high Withdrawn = lit< tt
letter_high Told = lit< tt
letter_high Moved = lit< tt
letter_high Declared = lit< tt
letter_high Lifted = lit< tt
letter_high Identifier = lit< tt

-- how often the byte c stands in a list
abbrev times : ℕ → List ℕ → ℕ
times c bs = count_by (λ b. b == c) bs

module _ (c : ℕ) (low : c < 48) where
  times_cons : (b : ℕ) (bs : List ℕ) → times c (b ∷ bs) ≡ cond (b == c) 1 0 + times c bs
  times_cons b bs = sum_by-cons (λ x. cond (x == c) 1 0) b bs

  -- a list without the byte has it 0 times
  none : (bs : List ℕ) → Without c bs → times c bs ≡ 0
  none [] w = refl
  none (b ∷ bs) w = times_cons b bs ∙ omega (arith, ap {B = ℕ} (λ t. cond t 1 0) (ne_eqb b c w.0), none bs w.1)

  -- two lists have the byte c equally often
  record AsOften (xs ys : List ℕ) : Type 0 where
    same : times c xs ≡ times c ys

  -- bytes without c count for nothing
  passed : (bs rs ss : List ℕ) → Without c bs → AsOften rs ss → AsOften (bs ++ rs) ss
  passed bs rs ss w e = record { same = sum_by-append (λ b. cond (b == c) 1 0) bs rs ∙ omega (arith, none bs w, e.same) }

  comma : (rs ss : List ℕ) → AsOften rs ss → AsOften (44 ∷ rs) (44 ∷ ss)
  comma rs ss e = record { same = times_cons 44 rs ∙ ap (λ n. cond (44 == c) 1 0 + n) e.same ∙ sym (times_cons 44 ss) }

  -- of a line only the commas and the byte 10 are left
  left : (a : AnswerLine) → HasU32s a
      → AsOften (decimal a.line ++ 44 ∷ letter a.code ∷ 44 ∷ (field a.number ++ 44 ∷ (field a.price ++ 44 ∷ (field a.shares ++ 10 ∷ [])))) (44 ∷ 44 ∷ 44 ∷ 44 ∷ 10 ∷ [])
  left a h =
      passed (decimal a.line) _ _ (decimal_without c a.line low h.line)
      (comma _ _ (passed (letter a.code ∷ []) _ _ (λ e. omega (arith, letter_high a.code), tt)
      (comma _ _ (passed (field a.number) _ _ (field_without c a.number low h.number)
      (comma _ _ (passed (field a.price) _ _ (field_without c a.price low h.price)
      (comma _ _ (passed (field a.shares) _ _ (field_without c a.shares low h.shares) (record { same = refl })))))))))

  line_times : (a : AnswerLine) → HasU32s a → times c (answer_bytes a) ≡ times c (44 ∷ 44 ∷ 44 ∷ 44 ∷ 10 ∷ [])
  line_times a h = ap (times c) (sym (append-nil (answer_bytes a)) ∙ spread a []) ∙ (left a h).same

pub one_line : (a : AnswerLine) → HasU32s a → IsOneLine (answer_bytes a)
one_line a h = record {
  commas = line_times 44 (omega arith) a h;
  ends = line_times 10 (omega arith) a h;
  last = (joined (fields a), refl);
}
