-- Answers are written one after another
use Rattle.std.proofs.Common.{◌≡◌, ℕ, ◌+◌, ◌<◌, List, [], ◌∷◌, ◌++◌, map, length, take, get_or, append-nil, append_assoc, sym, ap, ◌∙◌}
use Rattle.std.proofs.lemmas.Grind.{flat_map-append}
use Rattle.std.proofs.lemmas.List.{map-append, take_more}
use Rattle.terms.specs.declared.orders.Fill.{Fill}
use Rattle.day_answers.specs.declared.answer.AnswerLine.{AnswerLine}
use Rattle.day_answers.specs.Written.{answer_bytes}
use Rattle.dayfile.specs.Day.{fill_line}
use Rattle.dayfile.specs.Writing.{lines_bytes}

pub none_written : (before : List ℕ) → before ≡ before ++ lines_bytes []
unfolding lines_bytes
none_written before = sym (append-nil before)

pub one_written : (a : AnswerLine) → answer_bytes a ≡ lines_bytes (a ∷ [])
unfolding lines_bytes
one_written a = sym (append-nil (answer_bytes a))

pub both_written : (before : List ℕ) (xs ys : List AnswerLine) → (before ++ lines_bytes xs) ++ lines_bytes ys ≡ before ++ lines_bytes (xs ++ ys)
unfolding lines_bytes
both_written before xs ys = append_assoc before (lines_bytes xs) (lines_bytes ys) ∙ ap (λ l. before ++ l) (sym (flat_map-append answer_bytes xs ys))

-- some answers, and others after them
pub behind : (before middle after : List ℕ) (xs ys : List AnswerLine) → middle ≡ before ++ lines_bytes xs → after ≡ middle ++ lines_bytes ys → after ≡ before ++ lines_bytes (xs ++ ys)
behind before middle after xs ys e f = f ∙ (ap (λ l. l ++ lines_bytes ys) e ∙ both_written before xs ys)

pub fills_more : (line : ℕ) (fills : List Fill) (i : ℕ) (d : Fill) (r : AnswerLine) → i < length fills → r ≡ fill_line line (get_or fills i d) → map (fill_line line) (take i fills) ++ r ∷ [] ≡ map (fill_line line) (take (i + 1) fills)
fills_more line fills i d r lt is = sym (ap (map (fill_line line)) (take_more fills i d lt) ∙ (map-append (fill_line line) (take i fills) (get_or fills i d ∷ []) ∙ ap (λ x. map (fill_line line) (take i fills) ++ x ∷ []) (sym is)))
