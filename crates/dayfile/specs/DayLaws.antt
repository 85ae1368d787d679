-- What the answers of a day file owe their reader
use Rattle.std.specs.Prelude.{◌≡◌, ◌≢◌, ℕ, ◌+◌, ◌-◌, ◌<◌, ◌≤◌, Bool, true, false, List, [], ◌∷◌, ◌++◌, length, Some, None, Ok, Err, Result}
use Rattle.terms.specs.declared.market.Side.TheVariants.{Buy, Sell}
use Rattle.terms.specs.declared.calls.Call.TheVariants.{Draw, Return}
use Rattle.quotes.specs.Quotes.{best_pair}
use Rattle.rules.specs.Rules.{side_on}
use Rattle.laws.specs.Book.{State}
use Rattle.laws.specs.Law.{Law}
use Rattle.laws.specs.Rows.{AnyCall}
use Rattle.laws.specs.Routed.{drawn_notes}
use Rattle.laws.specs.Steps.{step, run}
use Rattle.slips.specs.Slips.{shares_waiting}
use Rattle.day_lines.specs.Lines.{lines}
use Rattle.day_words.specs.declared.fault.Fault.{Fault}
use Rattle.day_words.specs.declared.line.Line.{Line}
use Rattle.day_words.specs.declared.line.Line.TheVariants.{Call as Calls, Route, Identify}
use Rattle.day_words.specs.Faults.{fault_number}
use Rattle.day_words.specs.Spelling.{read_line}
use Rattle.day_answers.specs.declared.answer.AnswerLine.{AnswerLine}
use Rattle.day_answers.specs.declared.answer.Code.TheVariants.{Refused as N, Away as B, Cancelled as K, Identifier as I}
use Rattle.dayfile.specs.Day.{numbered, counted, answer_lines, read_calls, read_answers, after_line, day_calls_from, day_lines_from, names, file_lines, day_start, day_answers, day_bytes, day_calls}

-- WHAT A LINE CALLS AND IS ANSWERED

-- A line that says this makes these calls, and is answered so.
pub record Makes (s : State) (line : ℕ) (said : Result Line Fault) (calls : List AnyCall) (answers : List AnswerLine) : Type 0 where
  pub called : read_calls s said ≡ calls
  pub answered : read_answers s line said ≡ answers

-- A slip that is routed.
pub record RouteHolds (s : State) (line : ℕ) (said : Result Line Fault) (number away : ℕ) : Type 0 where
  -- Where no slip of its number waits, the draw is refused.
  pub none : shares_waiting number s.book.slips ≡ None → Makes s line said (Draw number ∷ []) (numbered line N 11 ∷ [])
  -- Where more shares are reported than the slip has, nothing is called.
  pub too_many : (shares : ℕ) → shares_waiting number s.book.slips ≡ Some shares → shares < away → Makes s line said [] (numbered line N 13 ∷ [])
  -- Otherwise it is drawn and returned: it was executed away whole,
  pub whole : (shares : ℕ) → shares_waiting number s.book.slips ≡ Some shares → away ≡ shares
      → Makes s line said (Draw number ∷ Return number shares away ∷ []) (counted line B number away ∷ [])
  -- or the shares that were not are cancelled.
  pub part : (shares : ℕ) → shares_waiting number s.book.slips ≡ Some shares → away < shares
      → Makes s line said (Draw number ∷ Return number shares away ∷ []) (counted line B number away ∷ counted line K number (shares - away) ∷ [])

-- The number of the liquidity identifier, by whether there is RPI interest to buy, and to sell.
abbrev pub interest_number : (buys sells : Bool) → ℕ
interest_number false false = 0
interest_number true false = 1
interest_number false true = 2
interest_number true true = 3

-- A line is one of these four.
pub record LineHolds (s : State) (line : ℕ) (bytes : List ℕ) : Type 0 where
  -- One that says a call makes this call alone, and is answered as the call is.
  pub call : (call : AnyCall) → read_line bytes ≡ Ok (Calls call) → Makes s line (read_line bytes) (call ∷ []) (answer_lines line call (step 32 s call).0)
  pub route : (number away : ℕ) → read_line bytes ≡ Ok (Route number away) → RouteHolds s line (read_line bytes) number away
  -- A question calls nothing, and is answered with the liquidity identifier.
  pub question : read_line bytes ≡ Ok Identify
      → Makes s line (read_line bytes) [] (numbered line I (interest_number (side_on (best_pair 32 s.quotes) s.book.resting Buy) (side_on (best_pair 32 s.quotes) s.book.resting Sell)) ∷ [])
  -- A line with a fault calls nothing, and is answered with the fault's number and place.
  pub fault : (fault : Fault) → read_line bytes ≡ Err fault → Makes s line (read_line bytes) [] (counted line N (fault_number fault.kind) fault.place ∷ [])

-- LINE AFTER LINE

-- Of some lines and others after them, the answers are those of the first, and then those of the others, from the state to which the calls of the first lead; and so are the calls.
pub record Follows (s : State) (line : ℕ) (xs ys : List (List ℕ)) : Type 0 where
  pub answers : day_lines_from s line (xs ++ ys) ≡ day_lines_from s line xs ++ day_lines_from (run 32 s (day_calls_from s xs)) (line + length xs) ys
  pub calls : day_calls_from s (xs ++ ys) ≡ day_calls_from s xs ++ day_calls_from (run 32 s (day_calls_from s xs)) ys

-- The state in which a line comes: that to which the calls of all lines before it lead, from an empty book and no quotes.
abbrev pub state_after : (before : List (List ℕ)) → State
state_after before = run 32 day_start (day_calls_from day_start before)

-- Its number is two more than the lines between the header line and it.
abbrev pub number_after : (before : List (List ℕ)) → ℕ
number_after before = 2 + length before

-- A line of a file, with the lines before and after it: its calls come after theirs and its answers after theirs, and both are as the line says.
pub record LineComes (text bytes : List ℕ) (before after : List (List ℕ)) : Type 0 where
  pub calls : day_calls text ≡ day_calls_from day_start before ++ (read_calls (state_after before) (read_line bytes) ++ day_calls_from (after_line (state_after before) bytes) after)
  pub answers : day_answers text
      ≡ day_lines_from day_start 2 before ++ (read_answers (state_after before) (number_after before) (read_line bytes) ++ day_lines_from (after_line (state_after before) bytes) (number_after before + 1) after)
  pub holds : LineHolds (state_after before) (number_after before) bytes

abbrev pub LineMet : (text bytes : List ℕ) → (before after : List (List ℕ)) → Type 0
LineMet text bytes before after = file_lines text ≡ Ok (before ++ bytes ∷ after) → LineComes text bytes before after

-- FILES

-- The answers and the calls of a file.
pub record Comes (text : List ℕ) (answers : List AnswerLine) (calls : List AnyCall) : Type 0 where
  pub answered : day_answers text ≡ answers
  pub called : day_calls text ≡ calls

-- A file that is too long, or that does not begin with the header line, is answered with that fault alone; any other line by line.
pub record FileHolds (text : List ℕ) : Type 0 where
  pub too_long : 65_536 < length text → Comes text (counted 1 N 25 0 ∷ []) []
  pub wrong_names : length text ≤ 65_536 → ((more : List (List ℕ)) → lines text ≢ names ∷ more) → Comes text (counted 1 N 20 0 ∷ []) []
  pub line_by_line : length text ≤ 65_536 → (more : List (List ℕ)) → lines text ≡ names ∷ more → Comes text (day_lines_from day_start 2 more) (day_calls_from day_start more)

-- THE LAWS

pub record DayHolds : Type 0 where
  pub follows : (s : State) (line : ℕ) (xs ys : List (List ℕ)) → Follows s line xs ys
  pub lines_met : (text bytes : List ℕ) (before after : List (List ℕ)) → LineMet text bytes before after
  -- Whenever a line comes, no slip is out: one that is drawn is returned on its line.
  pub none_out : (before : List (List ℕ)) → drawn_notes (state_after before).book.slips ≡ []
  pub line_holds : (s : State) (line : ℕ) (bytes : List ℕ) → LineHolds s line bytes
  pub routes : (s : State) (line number away : ℕ) → RouteHolds s line (Ok (Route number away)) number away
  pub files : (text : List ℕ) → FileHolds text
  -- The whole law of the book holds of the calls of a file.
  pub law : (text : List ℕ) → Law 32 day_start (day_calls text)

-- What the answers to a file are: their bytes; that each line calls and is answered what it says, in the state to which the calls of the lines before it lead, from an empty book and no quotes; and the whole law of all calls that the lines make.
pub record DayKept (text answers : List ℕ) : Type 0 where
  pub bytes : answers ≡ day_bytes text
  pub file : FileHolds text
  pub lines_met : (bytes : List ℕ) (before after : List (List ℕ)) → LineMet text bytes before after
  pub law : Law 32 day_start (day_calls text)
