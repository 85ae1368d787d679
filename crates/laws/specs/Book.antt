-- The book: what it holds, what its calls answer, and what an accepted call changes
use Rattle.std.specs.Prelude.{ℕ, zero, suc, ◌+◌, ◌-◌, Bool, false, cond, not, ◌&&◌, ◌||◌, List, [], ◌∷◌, ◌++◌, map, length, drop, Some, None, filter, Option, ◌==◌}
use Rattle.terms.specs.declared.orders.NewOrder.{NewOrder}
use Rattle.terms.specs.declared.orders.RestingOrder.{RestingOrder}
use Rattle.terms.specs.declared.orders.RetailOrder.{RetailOrder}
use Rattle.terms.specs.declared.orders.Fill.{Fill}
use Rattle.terms.specs.declared.orders.Slip.{Slip}
use Rattle.terms.specs.declared.orders.Phase.{Phase}
use Rattle.terms.specs.declared.orders.Phase.TheVariants.{Early, Open, Halted, Closed}
use Rattle.terms.specs.declared.orders.PhaseEvent.{PhaseEvent}
use Rattle.terms.specs.declared.orders.PhaseEvent.TheVariants.{Opening, Halting, Closing}
use Rattle.terms.specs.declared.refusals.Refusal.{Refusal}
use Rattle.quotes.specs.Quotes.{Quotes, best_pair}
use Rattle.rules.specs.Lists.{found, read}
use Rattle.rules.specs.Rules.{eligible, fills, filled, filled_to, with_shares, cancelled_rest, waiting_rest}

-- WHAT THE BOOK HOLDS

pub record Book : Type 0 where
  pub phase : Phase
  -- the members that are approved to send Retail Orders
  pub approved : ℕ → Bool
  -- the last order number given, 0 at the start
  pub last : ℕ
  -- the resting orders, in the order of their numbers
  pub resting : List RestingOrder
  -- the slips that wait or are drawn, in the order of their numbers
  pub slips : List Slip

-- The book, the quotes that it reads, and the list that is lent for the fills.
pub record State : Type 0 where
  pub book : Book
  pub quotes : Quotes
  pub fill_list : List Fill

abbrev pub empty_book : Book
empty_book = record { phase = Early; approved = λ _. false; last = 0; resting = []; slips = [] }

-- The day begins with an empty book, whatever the quotes and the fill list.
abbrev pub start : Quotes → List Fill → State
start quotes fill_list = record { book = empty_book; quotes = quotes; fill_list = fill_list }

-- how many of the members 1 to n are approved
abbrev pub approved_up_to : (ℕ → Bool) → ℕ → ℕ
approved_up_to approved zero = 0
approved_up_to approved (suc n) = approved_up_to approved n + cond (approved (suc n)) 1 0

-- ANSWERS

-- A Retail Order's number, its fills, the shares filled in all, the remainder cancelled, and the remainder that waits on a slip.
pub record Trade : Type 0 where
  pub number : ℕ
  pub fills : List Fill
  pub filled : ℕ
  pub cancelled : ℕ
  pub waiting : ℕ

pub data Answer : Type 0 where
  Refused : Refusal → Answer
  -- a phase, an approval, a withdrawal or a quote call was taken
  Done : Answer
  Entered : (number shares : ℕ) → Answer
  Cancelled : (number shares : ℕ) → Answer
  Traded : Trade → Answer
  Drawn : (number shares : ℕ) → Answer
  Returned : (number away cancelled : ℕ) → Answer

-- PHASES

-- Where an event leads from a phase, if the phase allows it.
abbrev pub phase_after : Phase → PhaseEvent → Option Phase
phase_after Early Opening = Some Open
phase_after Early Halting = None
phase_after Early Closing = Some Closed
phase_after Open Opening = None
phase_after Open Halting = Some Halted
phase_after Open Closing = Some Closed
phase_after Halted Opening = Some Open
phase_after Halted Halting = None
phase_after Halted Closing = Some Closed
phase_after Closed Opening = None
phase_after Closed Halting = None
phase_after Closed Closing = None

abbrev pub or_phase : Option Phase → Phase → Phase
or_phase None phase = phase
or_phase (Some next) phase = next

-- WHAT AN ACCEPTED CALL CHANGES

abbrev pub with_phase : Book → Phase → Book
with_phase b phase = record { phase = phase; approved = b.approved; last = b.last; resting = b.resting; slips = b.slips }

abbrev pub with_resting : Book → List RestingOrder → Book
with_resting b resting = record { phase = b.phase; approved = b.approved; last = b.last; resting = resting; slips = b.slips }

abbrev pub with_slips : Book → List Slip → Book
with_slips b slips = record { phase = b.phase; approved = b.approved; last = b.last; resting = b.resting; slips = slips }

-- The register of approved members.
abbrev pub with_member : Book → ℕ → Bool → Book
with_member b member mark =
    record { phase = b.phase; approved = λ m. cond (m == member) mark (b.approved m); last = b.last; resting = b.resting; slips = b.slips }

-- Accepted orders, resting and Retail, get the next number of one series.
abbrev pub next_number : Book → ℕ
next_number b = b.last + 1

abbrev pub rests_as : (number : ℕ) → NewOrder → RestingOrder
rests_as number o =
    record { number = number; member = o.member; side = o.side; kind = o.kind; limit = o.limit; offset = o.offset; shares = o.shares }

abbrev pub after_entry : Book → NewOrder → Book
after_entry b o =
    record { phase = b.phase; approved = b.approved; last = next_number b; resting = b.resting ++ rests_as (next_number b) o ∷ []; slips = b.slips }

-- the resting order of a number and member
abbrev pub is_order : (member number : ℕ) → RestingOrder → Bool
is_order member number o = o.number == number && o.member == member

abbrev pub order_shares : Book → (member number : ℕ) → ℕ
order_shares b member number = read (λ o. o.shares) 0 (found (is_order member number) b.resting)

abbrev pub after_cancel : Book → (member number : ℕ) → Book
after_cancel b member number = with_resting b (filter (λ o. not (is_order member number o)) b.resting)

-- What a Retail Order is filled now, from the orders that rest and at the quotes that are shown at this moment.
abbrev pub fills_now : (centres : ℕ) → State → RetailOrder → List Fill
fills_now centres s r = fills r.side (eligible (best_pair centres s.quotes) r s.book.resting) r.shares

abbrev pub trade : RetailOrder → (number : ℕ) → List Fill → Trade
trade r number fs =
    let rest = r.shares - filled fs in
    record { number = number; fills = fs; filled = filled fs; cancelled = cancelled_rest r.kind rest; waiting = waiting_rest r.kind rest }

abbrev pub trade_now : (centres : ℕ) → State → RetailOrder → Trade
trade_now centres s r = trade r (next_number s.book) (fills_now centres s r)

-- An order filled in part rests with its remaining shares, and one filled whole leaves.
abbrev pub after_fills : List Fill → List RestingOrder → List RestingOrder
after_fills fs [] = []
after_fills fs (o ∷ os) =
    let left = o.shares - filled_to fs o.number in
    cond (left == 0) (after_fills fs os) (with_shares o left ∷ after_fills fs os)

-- A remainder that waits is a new slip under the Retail Order's number.
abbrev pub with_slip : List Slip → Trade → List Slip
with_slip slips t = cond (t.waiting == 0) slips (slips ++ record { number = t.number; shares = t.waiting; drawn = false } ∷ [])

abbrev pub after_trade : Book → Trade → Book
after_trade b t =
    record { phase = b.phase; approved = b.approved; last = t.number; resting = after_fills t.fills b.resting; slips = with_slip b.slips t }

-- The fills are written to the front of the fill list, and its other places stay as they are.
abbrev pub written : List Fill → List Fill → List Fill
written fs fill_list = fs ++ drop (length fs) fill_list

-- the waiting slip of a number; the drawn slip of a number and so many shares
abbrev pub is_waiting : (number : ℕ) → Slip → Bool
is_waiting number slip = slip.number == number && not slip.drawn

abbrev pub is_drawn : (number shares : ℕ) → Slip → Bool
is_drawn number shares slip = slip.number == number && (slip.drawn && slip.shares == shares)

abbrev pub slip_shares : Book → (number : ℕ) → ℕ
slip_shares b number = read (λ slip. slip.shares) 0 (found (is_waiting number) b.slips)

-- A draw hands out the waiting slip of a number.
abbrev pub drawn_if : (number : ℕ) → Slip → Slip
drawn_if number slip = record { number = slip.number; shares = slip.shares; drawn = slip.drawn || (slip.number == number) }

abbrev pub after_draw : Book → (number : ℕ) → Book
after_draw b number = with_slips b (map (drawn_if number) b.slips)

-- A drawn slip that comes back is gone.
abbrev pub after_return : Book → (number shares : ℕ) → Book
after_return b number shares = with_slips b (filter (λ slip. not (is_drawn number shares slip)) b.slips)
