-- The bytes that some answers are written as
use Rattle.std.specs.Prelude.{ℕ, List, flat_map}
use Rattle.day_answers.specs.declared.answer.AnswerLine.{AnswerLine}
use Rattle.day_answers.specs.Written.{answer_bytes}

-- Line after line.
unfoldable pub lines_bytes : List AnswerLine → List ℕ
lines_bytes answers = flat_map answer_bytes answers
