-- The calls and answers of the definitions that a venue's calls and answers stand for
use Rattle.std.specs.Prelude.{◌≡◌, ℕ, Bool, true, List, [], ◌∷◌, take, drop, Ok, Err, Result}
use Rattle.terms.specs.declared.market.QuoteCall.{QuoteCall}
use Rattle.terms.specs.declared.calls.Call.{Call}
use Rattle.terms.specs.declared.calls.Call.TheVariants.{Enter, Cancel, Retail, Draw, Return, Move, Approve, Withdraw, Quotes}
use Rattle.terms.specs.declared.orders.Fill.{Fill}
use Rattle.terms.specs.declared.refusals.Refusal.{Refusal}
use Rattle.rules.specs.Lists.{sum_of}
use Rattle.laws.specs.Book.{Answer as Told}
use Rattle.laws.specs.Book.Answer.{Refused as ToldRefused, Done as ToldDone, Entered as ToldEntered, Cancelled as ToldCancelled, Traded as ToldTraded, Drawn as ToldDrawn, Returned as ToldReturned}
use Rattle.laws.specs.Rows.{AnyCall}
use Rattle.laws.specs.Routed.{Note}
use Rattle.book.specs.Means.{trade_of, well_told}
use Rattle.slips.specs.declared.slip.DrawnSlip.{DrawnSlip}
use Rattle.venue.specs.declared.answers.Answer.{Answer}
use Rattle.venue.specs.declared.answers.Answer.TheVariants.{Done, Entered, Cancelled, Traded, Drawn, Returned}

-- A call of a source's own stands for a tell, a declare or a lift.
abbrev pub call_of : {Q : Type 0} → (Q → QuoteCall) → Call Q → AnyCall
call_of denotes (Enter o) = Enter o
call_of denotes (Cancel member number) = Cancel member number
call_of denotes (Retail order places) = Retail order places
call_of denotes (Draw number) = Draw number
call_of denotes (Return number shares away) = Return number shares away
call_of denotes (Move event) = Move event
call_of denotes (Approve member) = Approve member
call_of denotes (Withdraw member) = Withdraw member
call_of denotes (Quotes q) = Quotes (denotes q)

-- An answer, where a Retail Order's fills are these.
abbrev pub answer_with : Result Answer Refusal → List Fill → Told
answer_with (Err why) fs = ToldRefused why
answer_with (Ok Done) fs = ToldDone
answer_with (Ok (Entered a)) fs = ToldEntered a.number a.shares
answer_with (Ok (Cancelled a)) fs = ToldCancelled a.number a.shares
answer_with (Ok (Traded a)) fs = ToldTraded (trade_of a fs)
answer_with (Ok (Drawn number shares)) fs = ToldDrawn number shares
answer_with (Ok (Returned a)) fs = ToldReturned a.number a.away a.cancelled

-- one without fills
abbrev pub plain_answer : Result Answer Refusal → Told
plain_answer a = answer_with a []

-- how many fills it has
abbrev pub fills_in : Result Answer Refusal → ℕ
fills_in (Err why) = 0
fills_in (Ok Done) = 0
fills_in (Ok (Entered a)) = 0
fills_in (Ok (Cancelled a)) = 0
fills_in (Ok (Traded a)) = a.fills
fills_in (Ok (Drawn number shares)) = 0
fills_in (Ok (Returned a)) = 0

-- An answer to a Retail Order tells a remainder of no shares as nothing.
abbrev pub rest_told : Result Answer Refusal → Bool
rest_told (Err why) = true
rest_told (Ok Done) = true
rest_told (Ok (Entered a)) = true
rest_told (Ok (Cancelled a)) = true
rest_told (Ok (Traded a)) = well_told a.remainder
rest_told (Ok (Drawn number shares)) = true
rest_told (Ok (Returned a)) = true

-- An answer that has no fills says the same whatever the fill list.
abbrev pub Says : Result Answer Refusal → Told → Type 0
Says a t = (fills_in a ≡ 0) × ((fs : List Fill) → answer_with a fs ≡ t) × (rest_told a ≡ true)

-- An answer, where the fills stand at the front of a list.
abbrev pub answer_of : Result Answer Refusal → (fill_list : List Fill) → Told
answer_of a fill_list = answer_with a (take (fills_in a) fill_list)

-- The answers of a run, whose fills stand one after the other in one list.
abbrev pub answers_of : List (Result Answer Refusal) → (fills : List Fill) → List Told
answers_of [] fills = []
answers_of (a ∷ rest) fills = answer_of a fills ∷ answers_of rest (drop (fills_in a) fills)

abbrev pub all_fills : List (Result Answer Refusal) → ℕ
all_fills answers = sum_of fills_in answers

-- what is written on a slip
abbrev pub note_of : DrawnSlip → Note
note_of slip = record { number = slip.number; shares = slip.shares }
