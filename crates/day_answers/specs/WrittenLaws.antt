-- What the written answers owe their reader
use Rattle.std.specs.Prelude.{◌≡◌, ℕ, ◌<◌, ◌^◌, ◌==◌, List, [], ◌∷◌, ◌++◌, map, codes, Contains, Some, None, Option, count_by}
use Rattle.std.specs.List.{AllByRecursion as Each}
use Rattle.day_answers.specs.declared.answer.AnswerLine.{AnswerLine}
use Rattle.day_answers.specs.declared.answer.Code.{Code}
use Rattle.day_answers.specs.declared.answer.Code.TheVariants.{Fill, Filled, Cancelled, Waiting, Away, Refused, Entered, Left, Approved, Withdrawn, Told, Moved, Declared, Lifted, Identifier}
use Rattle.day_answers.specs.Written.{letter, head_bytes, answer_bytes, answers_bytes}

-- Each number of a line is below 2 ^ 32, as every number is that the code puts there. (The library's decimal has 64
-- digits at most, so numbers without a bound could be written alike.)
abbrev pub Fits32 : Option ℕ → Type 0
Fits32 None = Unit {0}
Fits32 (Some n) = n < 2 ^ 32

pub record HasU32s (a : AnswerLine) : Type 0 where
  pub line : a.line < 2 ^ 32
  pub number : Fits32 a.number
  pub price : Fits32 a.price
  pub shares : Fits32 a.shares

-- These bytes are one line of five fields: four commas, and one byte 10, the last.
pub record IsOneLine (bytes : List ℕ) : Type 0 where
  pub commas : count_by (λ b. b == 44) bytes ≡ 4
  pub ends : count_by (λ b. b == 10) bytes ≡ 1
  pub last : (front : List ℕ) × (bytes ≡ front ++ 10 ∷ [])

-- Every code, as the page on the day file lists what the answers tell.
abbrev pub all_codes : List Code
all_codes = Entered ∷ Left ∷ Fill ∷ Filled ∷ Cancelled ∷ Waiting ∷ Away ∷ Identifier ∷ Approved ∷ Withdrawn ∷ Told ∷ Moved ∷ Declared ∷ Lifted ∷ Refused ∷ []

pub record AnswersHold : Type 0 where
  -- These are all the codes, and their letters.
  pub all : (code : Code) → Contains all_codes code
  pub letters : map letter all_codes ≡ codes "ECFRKSBIAWTPXLN"
  -- Two different answers are never written alike.
  pub answers : (a b : AnswerLine) → HasU32s a → HasU32s b → answer_bytes a ≡ answer_bytes b → a ≡ b
  -- Nor are two different lists of answers.
  pub lists : (xs ys : List AnswerLine) → Each HasU32s xs → Each HasU32s ys → answers_bytes xs ≡ answers_bytes ys → xs ≡ ys
  -- All that is written is lines, the header line first.
  pub names : IsOneLine head_bytes
  pub lines : (a : AnswerLine) → HasU32s a → IsOneLine (answer_bytes a)
  -- A line written after some answers is one answer more.
  pub more : (xs : List AnswerLine) (a : AnswerLine) → answers_bytes xs ++ answer_bytes a ≡ answers_bytes (xs ++ a ∷ [])
