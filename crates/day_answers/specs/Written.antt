-- How the answers of a day are written, byte by byte: 44 is a comma, 10 ends a line
use Rattle.std.specs.Prelude.{ℕ, List, [], ◌∷◌, ◌++◌, Some, None, Option, codes, decimal, flat_map}
use Rattle.day_answers.specs.declared.answer.Code.{Code}
use Rattle.day_answers.specs.declared.answer.Code.TheVariants.{Fill, Filled, Cancelled, Waiting, Away, Refused, Entered, Left, Approved, Withdrawn, Told, Moved, Declared, Lifted, Identifier}
use Rattle.day_answers.specs.declared.answer.AnswerLine.{AnswerLine}

-- the capital letter of each code: 65 is A, 66 is B, and so on
abbrev pub letter : Code → ℕ
letter Fill = 70
letter Filled = 82
letter Cancelled = 75
letter Waiting = 83
letter Away = 66
letter Refused = 78
letter Entered = 69
letter Left = 67
letter Approved = 65
letter Withdrawn = 87
letter Told = 84
letter Moved = 80
letter Declared = 88
letter Lifted = 76
letter Identifier = 73

-- a number in decimal digits; nothing, where the field is blank
abbrev pub field : Option ℕ → List ℕ
field None = []
field (Some n) = decimal n

-- fields with a comma between each and the next
abbrev pub joined : List (List ℕ) → List ℕ
joined [] = []
joined (f ∷ []) = f
joined (f ∷ g ∷ fs) = f ++ 44 ∷ joined (g ∷ fs)

-- the five fields of a line
abbrev pub fields : AnswerLine → List (List ℕ)
fields a = decimal a.line ∷ (letter a.code ∷ []) ∷ field a.number ∷ field a.price ∷ field a.shares ∷ []

-- a line
abbrev pub answer_bytes : AnswerLine → List ℕ
answer_bytes a = joined (fields a) ++ 10 ∷ []

-- the header line
abbrev pub head_bytes : List ℕ
head_bytes = codes "line,code,ref,price,shares\n"

-- the answers of a day: the header line, and then every line
abbrev pub answers_bytes : List AnswerLine → List ℕ
answers_bytes answers = head_bytes ++ flat_map answer_bytes answers
