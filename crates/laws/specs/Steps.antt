-- One call, and many
use Rattle.std.specs.Prelude.{ℕ, ◌-◌, true, false, List, [], ◌∷◌, Some, None, Option}
use Rattle.terms.specs.declared.refusals.Refusal.{Refusal}
use Rattle.terms.specs.declared.calls.Call.TheVariants.{Enter, Cancel, Retail, Draw, Return, Move, Approve, Withdraw, Quotes}
use Rattle.quotes.specs.Quotes.{after_accepted}
use Rattle.laws.specs.Book.{Book, State, Answer, next_number, phase_after, or_phase, with_phase, with_member, order_shares, slip_shares, trade_now, after_entry, after_cancel, after_trade, after_draw, after_return, written}
use Rattle.laws.specs.Book.Answer.{Refused, Done, Entered, Cancelled, Traded, Drawn, Returned}
use Rattle.laws.specs.Rows.{AnyCall, refusals, decided}

-- a change of the book alone
abbrev pub of_book : State → Book → State
of_book s b = record { book = b; quotes = s.quotes; fill_list = s.fill_list }

-- WHAT AN ACCEPTED CALL ANSWERS AND LEAVES

abbrev pub accepts : (centres : ℕ) → State → AnyCall → Answer × State
accepts centres s (Enter o) = (Entered (next_number s.book) o.shares, of_book s (after_entry s.book o))
accepts centres s (Cancel member number) = (Cancelled number (order_shares s.book member number), of_book s (after_cancel s.book member number))
accepts centres s (Retail r lent) =
    let t = trade_now centres s r in
    (Traded t, record { book = after_trade s.book t; quotes = s.quotes; fill_list = written t.fills s.fill_list })
accepts centres s (Draw number) = (Drawn number (slip_shares s.book number), of_book s (after_draw s.book number))
accepts centres s (Return number shares away) = (Returned number away (shares - away), of_book s (after_return s.book number shares))
accepts centres s (Move event) = (Done, of_book s (with_phase s.book (or_phase (phase_after s.book.phase event) s.book.phase)))
accepts centres s (Approve member) = (Done, of_book s (with_member s.book member true))
accepts centres s (Withdraw member) = (Done, of_book s (with_member s.book member false))
accepts centres s (Quotes q) = (Done, record { book = s.book; quotes = after_accepted s.quotes q; fill_list = s.fill_list })

-- A refused call changes nothing.
abbrev pub unless : Option Refusal → State → Answer × State → Answer × State
unless None s done = done
unless (Some why) s done = (Refused why, s)

abbrev pub step : (centres : ℕ) → State → AnyCall → Answer × State
step centres s call = unless (decided (refusals centres s call)) s (accepts centres s call)

-- the state after some calls
abbrev pub run : (centres : ℕ) → State → List AnyCall → State
run centres s [] = s
run centres s (call ∷ calls) = run centres (step centres s call).1 calls

-- A call as it was met: the state before it, its answer, the state after it.
pub record Met : Type 0 where
  pub before : State
  pub call : AnyCall
  pub answer : Answer
  pub after : State

abbrev pub meet : (centres : ℕ) → State → AnyCall → Met
meet centres s call =
    let r = step centres s call in
    record { before = s; call = call; answer = r.0; after = r.1 }

abbrev pub trace : (centres : ℕ) → State → List AnyCall → List Met
trace centres s [] = []
trace centres s (call ∷ calls) = meet centres s call ∷ trace centres (step centres s call).1 calls
