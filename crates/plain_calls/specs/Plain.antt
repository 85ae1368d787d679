-- What a call is answered, as plain numbers, and lists that are written from the front
use Rattle.std.specs.Prelude.{ℕ, List, [], ◌++◌, map, length, drop, Option, unwrap_or}
use Rattle.terms.specs.declared.orders.Fill.{Fill}
use Rattle.terms.specs.Refusals.{refusal_number}
use Rattle.laws.specs.Book.{Answer}
use Rattle.laws.specs.Book.Answer.{Refused, Done, Entered, Cancelled, Traded, Drawn, Returned}
use Rattle.plain_calls.specs.declared.answers.PlainAnswer.{PlainAnswer}
use Rattle.plain_calls.specs.declared.answers.PlainFill.{PlainFill}
use Rattle.plain_calls.specs.declared.answers.PlainBest.{PlainBest}

-- ANSWERS

-- of a call that was taken
abbrev pub taken : (number shares cancelled waiting fills : ℕ) → PlainAnswer
taken number shares cancelled waiting fills = record { refusal = 0; number = number; shares = shares; cancelled = cancelled; waiting = waiting; fills = fills }

-- A refusal has its number, and nothing else.
abbrev pub plain : Answer → PlainAnswer
plain (Refused why) = record { refusal = refusal_number why; number = 0; shares = 0; cancelled = 0; waiting = 0; fills = 0 }
plain Done = taken 0 0 0 0 0
plain (Entered number shares) = taken number shares 0 0 0
plain (Cancelled number shares) = taken number shares 0 0 0
plain (Traded t) = taken t.number t.filled t.cancelled t.waiting (length t.fills)
plain (Drawn number shares) = taken number shares 0 0 0
plain (Returned number away rest) = taken number away rest 0 0

-- The fills that an answer tells of.
abbrev pub fills_told : Answer → List Fill
fills_told (Refused why) = []
fills_told Done = []
fills_told (Entered number shares) = []
fills_told (Cancelled number shares) = []
fills_told (Traded t) = t.fills
fills_told (Drawn number shares) = []
fills_told (Returned number away rest) = []

abbrev pub plain_fill : Fill → PlainFill
plain_fill fill = record { number = fill.number; price = fill.price; shares = fill.shares }

abbrev pub plain_fills : Answer → List PlainFill
plain_fills answer = map plain_fill (fills_told answer)

-- No price is 0, so 0 says that there is none.
abbrev pub plain_best : Option ℕ × Option ℕ → PlainBest
plain_best best = record { bid = unwrap_or best.0 0; offer = unwrap_or best.1 0 }

-- LISTS

-- A list with these at its front, and after them what it held.
abbrev pub over : {X : Type 0} → List X → List X → List X
over front list = front ++ drop (length front) list
