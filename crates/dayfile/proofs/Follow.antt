-- Lines one after another
use Rattle.std.proofs.Common.{◌≡◌, ℕ, ◌+◌, List, [], ◌∷◌, ◌++◌, length, sym, refl, ap, ◌∙◌, append_assoc, arith}
use Rattle.laws.specs.Book.{State}
use Rattle.laws.specs.Rows.{AnyCall}
use Rattle.laws.specs.Steps.{step, run}
use Rattle.day_words.specs.Spelling.{read_line}
use Rattle.dayfile.specs.Day.{read_calls, read_answers, after_line, day_calls_from, day_lines_from}
use Rattle.dayfile.specs.DayLaws.{Follows}

pub run_append : (centres : ℕ) (s : State) (xs ys : List AnyCall) → run centres s (xs ++ ys) ≡ run centres (run centres s xs) ys
run_append centres s [] ys = refl
run_append centres s (x ∷ xs) ys = run_append centres (step centres s x).1 xs ys

answers_follow : (s : State) (line : ℕ) (xs ys : List (List ℕ)) → day_lines_from s line (xs ++ ys) ≡ day_lines_from s line xs ++ day_lines_from (run 32 s (day_calls_from s xs)) (line + length xs) ys
answers_follow s line [] ys = ap (λ n. day_lines_from s n ys) (omega arith)
answers_follow s line (x ∷ xs) ys =
    let here = read_answers s line (read_line x) in
    let calls = read_calls s (read_line x) in
    let n : line + 1 + length xs ≡ line + length (x ∷ xs) = omega arith in
    ap (λ l. here ++ l) (answers_follow (after_line s x) (line + 1) xs ys)
    ∙ (sym (append_assoc here (day_lines_from (after_line s x) (line + 1) xs) (day_lines_from (run 32 (after_line s x) (day_calls_from (after_line s x) xs)) (line + 1 + length xs) ys))
    ∙ (ap (λ n. (here ++ day_lines_from (after_line s x) (line + 1) xs) ++ day_lines_from (run 32 (after_line s x) (day_calls_from (after_line s x) xs)) n ys) n
    ∙ ap (λ t. (here ++ day_lines_from (after_line s x) (line + 1) xs) ++ day_lines_from t (line + length (x ∷ xs)) ys) (sym (run_append 32 s calls (day_calls_from (after_line s x) xs)))))

calls_follow : (s : State) (xs ys : List (List ℕ)) → day_calls_from s (xs ++ ys) ≡ day_calls_from s xs ++ day_calls_from (run 32 s (day_calls_from s xs)) ys
calls_follow s [] ys = refl
calls_follow s (x ∷ xs) ys =
    let calls = read_calls s (read_line x) in
    ap (λ l. calls ++ l) (calls_follow (after_line s x) xs ys)
    ∙ (sym (append_assoc calls (day_calls_from (after_line s x) xs) (day_calls_from (run 32 (after_line s x) (day_calls_from (after_line s x) xs)) ys))
    ∙ ap (λ t. (calls ++ day_calls_from (after_line s x) xs) ++ day_calls_from t ys) (sym (run_append 32 s calls (day_calls_from (after_line s x) xs))))

pub follows : (s : State) (line : ℕ) (xs ys : List (List ℕ)) → Follows s line xs ys
follows s line xs ys = record { answers = answers_follow s line xs ys; calls = calls_follow s xs ys }
