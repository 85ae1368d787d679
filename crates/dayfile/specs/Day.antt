-- What a day file is answered: the calls that its lines make, and what they are answered, as book and quotes stand when each line comes
use Rattle.std.specs.Prelude.{ℕ, ◌+◌, Bool, false, cond, List, [], ◌∷◌, ◌++◌, map, length, replicate, codes, flat_map, Some, None, Ok, Err, Option, Result, ◌==◌, nat_lt}
use Rattle.std.specs.Str.{bytes_eq}
use Rattle.terms.specs.declared.market.Side.TheVariants.{Buy, Sell}
use Rattle.terms.specs.declared.market.QuoteCall.TheVariants.{Tell, Declare, Lift}
use Rattle.terms.specs.declared.orders.Fill.{Fill}
use Rattle.terms.specs.declared.refusals.Refusal.{Refusal}
use Rattle.terms.specs.declared.refusals.Refusal.TheVariants.{MoreThanSlip}
use Rattle.terms.specs.declared.calls.Call.TheVariants.{Enter, Cancel, Retail, Draw, Return, Move, Approve, Withdraw, Quotes}
use Rattle.terms.specs.Refusals.{refusal_number}
use Rattle.quotes.specs.Quotes.{best_pair}
use Rattle.rules.specs.Rules.{side_on}
use Rattle.laws.specs.Book.{State, Trade, Answer, start}
use Rattle.laws.specs.Book.Answer.{Refused, Done, Entered, Cancelled, Traded, Drawn, Returned}
use Rattle.laws.specs.Rows.{AnyCall}
use Rattle.laws.specs.Steps.{run, trace}
use Rattle.slips.specs.Slips.{shares_waiting}
use Rattle.stacks.specs.Venue.{opening_quotes}
use Rattle.book.specs.declared.answers.Identifier.{Identifier}
use Rattle.book.specs.declared.answers.Identifier.TheVariants.{Neither, Buys, Sells, Both}
use Rattle.book.specs.Identified.{identifier_of}
use Rattle.day_lines.specs.Lines.{lines}
use Rattle.day_words.specs.declared.fault.Fault.{Fault}
use Rattle.day_words.specs.declared.fault.FaultKind.{FaultKind}
use Rattle.day_words.specs.declared.fault.FaultKind.TheVariants.{TooLong, WrongNames}
use Rattle.day_words.specs.declared.line.Line.{Line}
use Rattle.day_words.specs.declared.line.Line.TheVariants.{Call as Calls, Route, Identify}
use Rattle.day_words.specs.Faults.{fault_number}
use Rattle.day_words.specs.Spelling.{read_line}
use Rattle.day_answers.specs.declared.answer.AnswerLine.{AnswerLine}
use Rattle.day_answers.specs.declared.answer.Code.{Code}
use Rattle.day_answers.specs.declared.answer.Code.TheVariants.{Fill as F, Filled as R, Cancelled as K, Waiting as S, Away as B, Refused as N, Entered as E, Left as C, Approved as A, Withdrawn as W, Told as T, Moved as P, Declared as X, Lifted as L, Identifier as I}
use Rattle.day_answers.specs.Written.{answers_bytes}

-- LINES OF THE ANSWERS

-- The letter alone; a number after it; a number and shares.
abbrev pub bare : (line : ℕ) → Code → AnswerLine
bare line code = record { line = line; code = code; number = None; price = None; shares = None }

abbrev pub numbered : (line : ℕ) → Code → (number : ℕ) → AnswerLine
numbered line code number = record { line = line; code = code; number = Some number; price = None; shares = None }

abbrev pub counted : (line : ℕ) → Code → (number shares : ℕ) → AnswerLine
counted line code number shares = record { line = line; code = code; number = Some number; price = None; shares = Some shares }

-- The same, where there are such shares.
abbrev pub if_any : (line : ℕ) → Code → (number shares : ℕ) → List AnswerLine
if_any line code number shares = cond (shares == 0) [] (counted line code number shares ∷ [])

abbrev pub fill_line : (line : ℕ) → Fill → AnswerLine
fill_line line fill = record { line = line; code = F; number = Some fill.number; price = Some fill.price; shares = Some fill.shares }

abbrev pub refusal_line : (line : ℕ) → Refusal → AnswerLine
refusal_line line why = numbered line N (refusal_number why)

-- A fault has its place where shares would stand.
abbrev pub fault_line : (line : ℕ) → Fault → AnswerLine
fault_line line fault = counted line N (fault_number fault.kind) fault.place

-- WHAT A CALL IS ANSWERED

-- the letter of a call
abbrev pub code_of : AnyCall → Code
code_of (Enter o) = E
code_of (Cancel member number) = C
code_of (Retail r lent) = R
code_of (Draw number) = S
code_of (Return number shares away) = B
code_of (Move event) = P
code_of (Approve member) = A
code_of (Withdraw member) = W
code_of (Quotes (Tell u)) = T
code_of (Quotes (Declare centre)) = X
code_of (Quotes (Lift centre)) = L

-- The fills of a Retail Order in their sequence, the shares filled in all, and what is cancelled of it or waits.
abbrev pub trade_lines : (line : ℕ) → Trade → List AnswerLine
trade_lines line t = map (fill_line line) t.fills ++ counted line R t.number t.filled ∷ (if_any line K t.number t.cancelled ++ if_any line S t.number t.waiting)

-- A draw has no line of its own: the slip is told of as it comes back.
abbrev pub answer_lines : (line : ℕ) → AnyCall → Answer → List AnswerLine
answer_lines line call (Refused why) = refusal_line line why ∷ []
answer_lines line call Done = bare line (code_of call) ∷ []
answer_lines line call (Entered number shares) = counted line E number shares ∷ []
answer_lines line call (Cancelled number shares) = counted line C number shares ∷ []
answer_lines line call (Traded t) = trade_lines line t
answer_lines line call (Drawn number shares) = []
answer_lines line call (Returned number away rest) = counted line B number away ∷ if_any line K number rest

-- Calls of one line, one after another.
abbrev pub calls_lines : (line : ℕ) → State → List AnyCall → List AnswerLine
calls_lines line s calls = flat_map (λ m. answer_lines line m.call m.answer) (trace 32 s calls)

-- WHAT A LINE CALLS, AND WHAT IT IS ANSWERED

-- More shares of a slip are reported as executed away than wait on it.
abbrev pub too_many : (away : ℕ) → (waiting : Option ℕ) → Bool
too_many away None = false
too_many away (Some shares) = nat_lt shares away

-- A routed slip is drawn, which is refused where none waits, and then returned with the shares that it has.
abbrev pub slip_calls : (number away : ℕ) → (waiting : Option ℕ) → List AnyCall
slip_calls number away None = Draw number ∷ []
slip_calls number away (Some shares) = Draw number ∷ Return number shares away ∷ []

-- Where too many shares are reported, nothing is called.
abbrev pub route_calls : (number away : ℕ) → (waiting : Option ℕ) → List AnyCall
route_calls number away waiting = cond (too_many away waiting) [] (slip_calls number away waiting)

abbrev pub route_lines : (line : ℕ) → State → (number away : ℕ) → (waiting : Option ℕ) → List AnswerLine
route_lines line s number away waiting = cond (too_many away waiting) (refusal_line line MoreThanSlip ∷ []) (calls_lines line s (slip_calls number away waiting))

-- The liquidity identifier: 0 for none, 1 for buy, 2 for sell, 3 for both.
abbrev pub identifier_number : Identifier → ℕ
identifier_number Neither = 0
identifier_number Buys = 1
identifier_number Sells = 2
identifier_number Both = 3

abbrev pub identifier : State → Identifier
identifier s = identifier_of (side_on (best_pair 32 s.quotes) s.book.resting Buy) (side_on (best_pair 32 s.quotes) s.book.resting Sell)

abbrev pub line_calls : State → Line → List AnyCall
line_calls s (Calls call) = call ∷ []
line_calls s (Route number away) = route_calls number away (shares_waiting number s.book.slips)
line_calls s Identify = []

abbrev pub line_answers : State → (line : ℕ) → Line → List AnswerLine
line_answers s line (Calls call) = calls_lines line s (call ∷ [])
line_answers s line (Route number away) = route_lines line s number away (shares_waiting number s.book.slips)
line_answers s line Identify = numbered line I (identifier_number (identifier s)) ∷ []

-- A line with a fault calls nothing, and is answered with the fault.
abbrev pub read_calls : State → Result Line Fault → List AnyCall
read_calls s (Ok said) = line_calls s said
read_calls s (Err fault) = []

abbrev pub read_answers : State → (line : ℕ) → Result Line Fault → List AnswerLine
read_answers s line (Ok said) = line_answers s line said
read_answers s line (Err fault) = fault_line line fault ∷ []

-- LINE AFTER LINE

-- Each line comes in the state that the calls of the lines before it leave.
abbrev pub after_line : State → List ℕ → State
after_line s bytes = run 32 s (read_calls s (read_line bytes))

abbrev pub day_calls_from : State → List (List ℕ) → List AnyCall
day_calls_from s [] = []
day_calls_from s (bytes ∷ more) = read_calls s (read_line bytes) ++ day_calls_from (after_line s bytes) more

abbrev pub day_lines_from : State → (line : ℕ) → List (List ℕ) → List AnswerLine
day_lines_from s line [] = []
day_lines_from s line (bytes ∷ more) = read_answers s line (read_line bytes) ++ day_lines_from (after_line s bytes) (line + 1) more

-- THE WHOLE FILE

abbrev pub names : List ℕ
names = codes "call,who,side,kind,price,offset,shares,ref"

-- The lines after the header line, which has to be the first.
abbrev pub behind_names : List (List ℕ) → Result (List (List ℕ)) FaultKind
behind_names [] = Err WrongNames
behind_names (first ∷ more) = cond (bytes_eq first names) (Ok more) (Err WrongNames)

-- A file has at most 65,536 bytes.
abbrev pub file_lines : List ℕ → Result (List (List ℕ)) FaultKind
file_lines text = cond (nat_lt 65_536 (length text)) (Err TooLong) (behind_names (lines text))

-- The 256 places that are lent for the fills of each Retail Order, as they are before the first.
unfoldable pub no_fills : List Fill
no_fills = replicate 256 (record { number = 0; price = 0; shares = 0 })

-- The day begins with an empty book and with no quotes told.
abbrev pub day_start : State
day_start = start opening_quotes no_fills

-- The header line is line 1.
abbrev pub file_answers : Result (List (List ℕ)) FaultKind → List AnswerLine
file_answers (Ok ls) = day_lines_from day_start 2 ls
file_answers (Err kind) = counted 1 N (fault_number kind) 0 ∷ []

abbrev pub file_calls : Result (List (List ℕ)) FaultKind → List AnyCall
file_calls (Ok ls) = day_calls_from day_start ls
file_calls (Err kind) = []

abbrev pub day_answers : List ℕ → List AnswerLine
day_answers text = file_answers (file_lines text)

abbrev pub day_calls : List ℕ → List AnyCall
day_calls text = file_calls (file_lines text)

abbrev pub day_bytes : List ℕ → List ℕ
day_bytes text = answers_bytes (day_answers text)
