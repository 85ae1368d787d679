-- No two answers are written alike
use Rattle.std.proofs.Common.{◌≡◌, ℕ, ◌==◌, cond, List, [], ◌∷◌, ◌++◌, codes, flat_map, length, get_or, drop, refl, sym, ap, ◌∙◌, length-append, arith, Some, lit<}
use Rattle.std.specs.Prelude.{Contains}
use Rattle.std.specs.List.{AllByRecursion as Each}
use Rattle.std.proofs.lemmas.List.{flat_map_more}
use Rattle.day_answers.specs.declared.answer.Code.{Code}
use Rattle.day_answers.specs.declared.answer.Code.TheVariants.{Fill, Filled, Cancelled, Waiting, Away, Refused, Entered, Left, Approved, Withdrawn, Told, Moved, Declared, Lifted, Identifier}
use Rattle.day_answers.specs.declared.answer.AnswerLine.{AnswerLine}
use Rattle.day_answers.specs.Written.{letter, answer_bytes, head_bytes}
use Rattle.day_answers.specs.WrittenLaws.{HasU32s, all_codes, AnswersHold}
use Rattle.day_answers.proofs.Parted.{spread, field_parted}
use Rattle.day_answers.proofs.OneLine.{one_line}

-- the code that a letter stands for
abbrev code_of : ℕ → Code
code_of b =
    cond (b == 70) Fill (cond (b == 82) Filled (cond (b == 75) Cancelled (cond (b == 83) Waiting (cond (b == 66) Away
    (cond (b == 78) Refused (cond (b == 69) Entered (cond (b == 67) Left (cond (b == 65) Approved (cond (b == 87) Withdrawn
    (cond (b == 84) Told (cond (b == 80) Moved (cond (b == 88) Declared (cond (b == 76) Lifted Identifier)))))))))))))

code_back : (c : Code) → code_of (letter c) ≡ c
code_back Fill = refl
code_back Filled = refl
code_back Cancelled = refl
code_back Waiting = refl
code_back Away = refl
code_back Refused = refl
code_back Entered = refl
code_back Left = refl
code_back Approved = refl
code_back Withdrawn = refl
code_back Told = refl
code_back Moved = refl
code_back Declared = refl
code_back Lifted = refl
code_back Identifier = refl

each_code : (c : Code) → Contains all_codes c
each_code Entered = (0, lit< tt, refl)
each_code Left = (1, lit< tt, refl)
each_code Fill = (2, lit< tt, refl)
each_code Filled = (3, lit< tt, refl)
each_code Cancelled = (4, lit< tt, refl)
each_code Waiting = (5, lit< tt, refl)
each_code Away = (6, lit< tt, refl)
each_code Identifier = (7, lit< tt, refl)
each_code Approved = (8, lit< tt, refl)
each_code Withdrawn = (9, lit< tt, refl)
each_code Told = (10, lit< tt, refl)
each_code Moved = (11, lit< tt, refl)
each_code Declared = (12, lit< tt, refl)
each_code Lifted = (13, lit< tt, refl)
each_code Refused = (14, lit< tt, refl)

letter_same : (c d : Code) → letter c ≡ letter d → c ≡ d
letter_same c d e = sym (code_back c) ∙ ap code_of e ∙ code_back d

-- a line before more lines is determined, and so is the rest
line_parted : (a b : AnswerLine) (rs ss : List ℕ) → HasU32s a → HasU32s b → answer_bytes a ++ rs ≡ answer_bytes b ++ ss → (a ≡ b) × (rs ≡ ss)
line_parted a b rs ss h k e =
    let first = field_parted 44 (lit< tt) (Some a.line) (Some b.line) _ _ h.line k.line (sym (spread a rs) ∙ e ∙ spread b ss) in
    let line : a.line ≡ b.line = cc in
    let code = letter_same a.code b.code (ap (λ bs. get_or bs 0 0) first.1) in
    let second = field_parted 44 (lit< tt) a.number b.number _ _ h.number k.number (ap (drop 2) first.1) in
    let third = field_parted 44 (lit< tt) a.price b.price _ _ h.price k.price second.1 in
    let fourth = field_parted 10 (lit< tt) a.shares b.shares _ _ h.shares k.shares third.1 in (
      λ i. record { line = line i; code = code i; number = second.0 i; price = third.0 i; shares = fourth.0 i },
      fourth.1,
    )

lines_same : (xs ys : List AnswerLine) → Each HasU32s xs → Each HasU32s ys → flat_map answer_bytes xs ≡ flat_map answer_bytes ys → xs ≡ ys
lines_same [] [] h k e = refl
lines_same [] (y ∷ ys) h k e = absurd (omega (arith, ap length (e ∙ spread y (flat_map answer_bytes ys)), length-append {A = ℕ}))
lines_same (x ∷ xs) [] h k e = absurd (omega (arith, ap length (sym e ∙ spread x (flat_map answer_bytes xs)), length-append {A = ℕ}))
lines_same (x ∷ xs) (y ∷ ys) h k e =
    let both = line_parted x y (flat_map answer_bytes xs) (flat_map answer_bytes ys) h.0 k.0 e in
    λ i. both.0 i ∷ lines_same xs ys h.1 k.1 both.1 i

pub answers_hold : AnswersHold
answers_hold =
    record {
      all = each_code;
      letters = refl;
      answers = λ a b h k e. (line_parted a b [] [] h k (ap (λ bs. bs ++ []) e)).0;
      lists = λ xs ys h k e. lines_same xs ys h k (ap (drop 27) e);
      names = record { commas = refl; ends = refl; last = (codes "line,code,ref,price,shares", refl) };
      lines = one_line;
      more = λ xs a. flat_map_more answer_bytes head_bytes xs a;
    }
