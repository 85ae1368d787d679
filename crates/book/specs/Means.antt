-- The state that a book stands for, and the answers of its calls
use Rattle.std.specs.Prelude.{◌≡◌, ℕ, ◌≤◌, Bool, true, false, cond, not, List, [], ◌∷◌, ◌++◌, length, take, Ok, Err, vec_items, Result, ◌==◌}
use Rattle.terms.specs.declared.orders.Fill.{Fill}
use Rattle.terms.specs.declared.orders.RetailType.{RetailType}
use Rattle.terms.specs.declared.orders.Slip.{Slip}
use Rattle.terms.specs.declared.refusals.Refusal.{Refusal}
use Rattle.rules.specs.Lists.{picked}
use Rattle.rules.specs.Rules.{after_fill, routable}
use Rattle.queues.specs.declared.side.SideQueues.{SideQueues}
use Rattle.queues.specs.Sides.{orders_of}
use Rattle.laws.specs.Book.{Book, Trade, Answer}
use Rattle.laws.specs.Book.Answer.{Refused, Done, Entered, Traded}
use Rattle.laws.specs.Book.Answer.{Cancelled as CancelledOrder}
use Rattle.book.specs.declared.ledger.Book.{Book as Ledger}
use Rattle.book.specs.declared.answers.EntryAnswer.{EntryAnswer}
use Rattle.book.specs.declared.answers.CancelAnswer.{CancelAnswer}
use Rattle.book.specs.declared.answers.RetailAnswer.{RetailAnswer}
use Rattle.book.specs.declared.answers.Remainder.{Remainder}
use Rattle.book.specs.declared.answers.Remainder.TheVariants.{Nothing, Cancelled, Waiting}
use Rattle.book.specs.BookState.{book_of}

-- The state of the definitions that a book stands for.
abbrev pub state : Ledger → Book
state b = book_of b.phase b.register.word b.last (orders_of b.buys) (orders_of b.sells) (vec_items b.slips.slips)

-- what a call answers, by what its function returns
abbrev pub done_answer : Result Unit Refusal → Answer
done_answer (Ok _) = Done
done_answer (Err why) = Refused why

abbrev pub entry_answer : Result EntryAnswer Refusal → Answer
entry_answer (Ok a) = Entered a.number a.shares
entry_answer (Err why) = Refused why

abbrev pub cancel_answer : Result CancelAnswer Refusal → Answer
cancel_answer (Ok a) = CancelledOrder a.number a.shares
cancel_answer (Err why) = Refused why

-- what becomes of so many remaining shares of a Retail Order
abbrev pub remainder_of : RetailType → ℕ → Remainder
remainder_of kind rest = cond (rest == 0) Nothing (cond (routable kind) (Waiting rest) (Cancelled rest))

-- the shares of a remainder that are cancelled, and those that wait
abbrev pub cancelled_in : Remainder → ℕ
cancelled_in Nothing = 0
cancelled_in (Cancelled shares) = shares
cancelled_in (Waiting shares) = 0

abbrev pub waiting_in : Remainder → ℕ
waiting_in Nothing = 0
waiting_in (Cancelled shares) = 0
waiting_in (Waiting shares) = shares

-- a remainder of no shares is told as nothing
abbrev pub well_told : Remainder → Bool
well_told Nothing = true
well_told (Cancelled shares) = not (shares == 0)
well_told (Waiting shares) = not (shares == 0)

-- a remainder that waits is on a slip
abbrev pub waits : Remainder → Bool
waits Nothing = false
waits (Cancelled shares) = false
waits (Waiting shares) = true

abbrev pub slips_after : List Slip → (number : ℕ) → Remainder → List Slip
slips_after slips number Nothing = slips
slips_after slips number (Cancelled shares) = slips
slips_after slips number (Waiting shares) = slips ++ record { number = number; shares = shares; drawn = false } ∷ []

-- the trade that a Retail Order's answer tells of, with these fills
abbrev pub trade_of : RetailAnswer → List Fill → Trade
trade_of a fs = record { number = a.number; fills = fs; filled = a.filled; cancelled = cancelled_in a.remainder; waiting = waiting_in a.remainder }

-- The fills of a Retail Order are those at the front of the fill list.
abbrev pub retail_answer : Result RetailAnswer Refusal → (fill_list : List Fill) → Answer
retail_answer (Ok a) fill_list = Traded (trade_of a (take a.fills fill_list))
retail_answer (Err why) fill_list = Refused why

-- Each queue of a side after some fills: orders filled whole are gone from it, the others keep their places.
pub record Settled (fs : List Fill) (before after : SideQueues) : Type 0 where
  pub fixed : vec_items after.fixed ≡ picked (after_fill fs) (vec_items before.fixed)
  pub following : vec_items after.following ≡ picked (after_fill fs) (vec_items before.following)
  pub by_offset : vec_items after.by_offset ≡ picked (after_fill fs) (vec_items before.by_offset)

-- The queues of both sides after a Retail Order; a refused one leaves the whole book as it was.
abbrev pub QueuesAfter : Result RetailAnswer Refusal → (fill_list : List Fill) → (before after : Ledger) → Type 0
QueuesAfter (Ok a) fill_list before after =
    let fs = take a.fills fill_list in
    Settled fs before.buys after.buys × Settled fs before.sells after.sells
QueuesAfter (Err why) fill_list before after = after ≡ before

-- The fills that a Retail Order answers to have written stand within the list, and there are at most 256.
abbrev pub FillsWithin : Result RetailAnswer Refusal → (fill_list : List Fill) → Type 0
FillsWithin (Ok a) fill_list = (a.fills ≤ length fill_list) × (a.fills ≤ 256)
FillsWithin (Err why) fill_list = Unit {0}

-- The answer to a Retail Order tells a remainder of no shares as nothing.
abbrev pub RestTold : Result RetailAnswer Refusal → Type 0
RestTold (Ok a) = well_told a.remainder ≡ true
RestTold (Err why) = Unit {0}
