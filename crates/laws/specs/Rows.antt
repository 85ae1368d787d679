-- When a call is refused, and with which refusal
use Rattle.std.specs.Prelude.{◌≡◌, ℕ, ◌%◌, ◌<◌, ◌≤◌, min, Bool, true, false, cond, not, ◌&&◌, ◌⊎◌, List, [], ◌∷◌, length, Some, None, Option, ◌==◌, ◌≢◌, nat_le, nat_lt}
use Rattle.std.specs.List.{AllByRecursion as Each}
use Rattle.terms.specs.declared.market.QuoteCall.{QuoteCall}
use Rattle.terms.specs.declared.market.QuoteCall.TheVariants.{Tell, Declare, Lift}
use Rattle.terms.specs.declared.orders.OrderKind.{OrderKind}
use Rattle.terms.specs.declared.orders.OrderKind.TheVariants.{Rpi, Hidden, Displayed}
use Rattle.terms.specs.declared.orders.RetailType.TheVariants.{TwoRoutable}
use Rattle.terms.specs.declared.orders.NewOrder.{NewOrder}
use Rattle.terms.specs.declared.orders.RetailOrder.{RetailOrder}
use Rattle.terms.specs.declared.orders.Phase.{Phase}
use Rattle.terms.specs.declared.orders.Phase.TheVariants.{Early, Open, Halted, Closed}
use Rattle.terms.specs.declared.refusals.Refusal.{Refusal}
use Rattle.terms.specs.declared.refusals.Refusal.TheVariants.{OutOfRange, NotWholeCent, OffsetNotRpi, WrongPhase, NotApproved, ShortFillList, BookFull, NumbersExhausted, NoSuchOrder, SlipsFull, NoWaitingSlip, NoDrawnSlip, MoreThanSlip}
use Rattle.terms.specs.declared.calls.Call.{Call}
use Rattle.terms.specs.declared.calls.Call.TheVariants.{Enter, Cancel, Retail, Draw, Return, Move, Approve, Withdraw, Quotes}
use Rattle.terms.specs.Limits.{is_price, is_offset, is_order_size, is_member}
use Rattle.terms.specs.Refusals.{refusal_number}
use Rattle.quotes.specs.Quotes.{accepted}
use Rattle.rules.specs.Lists.{any, present}
use Rattle.rules.specs.Rules.{routable}
use Rattle.laws.specs.Book.{Book, State, phase_after, is_order, is_waiting, is_drawn}

-- THE LISTS: for each call the conditions that refuse it, the first that holds deciding

abbrev pub AnyCall : Type 0
AnyCall = Call QuoteCall

abbrev pub offset_in_range : Option ℕ → Bool
offset_in_range None = true
offset_in_range (Some offset) = is_offset offset

abbrev pub entry_in_range : NewOrder → Bool
entry_in_range o = is_member o.member && (is_price o.limit && (offset_in_range o.offset && is_order_size o.shares))

abbrev pub retail_in_range : RetailOrder → Bool
retail_in_range r = is_member r.member && (is_price r.limit && is_order_size r.shares)

abbrev pub is_ordinary : OrderKind → Bool
is_ordinary Rpi = false
is_ordinary Hidden = true
is_ordinary Displayed = true

-- a dollar or more, and no whole cent
abbrev pub broken_cent : ℕ → Bool
broken_cent mills = nat_le 1_000 mills && not (mills % 10 == 0)

-- Until the day is closed orders can be entered; only while it is open can Retail Orders be sent.
abbrev pub entry_allowed : Phase → Bool
entry_allowed Early = true
entry_allowed Open = true
entry_allowed Halted = true
entry_allowed Closed = false

abbrev pub retail_allowed : Phase → Bool
retail_allowed Early = false
retail_allowed Open = true
retail_allowed Halted = false
retail_allowed Closed = false

-- a Retail Order needs 256 places for its fills
abbrev pub few_places : State → (lent : ℕ) → Bool
few_places s lent = nat_lt (min lent (length s.fill_list)) 256

abbrev pub exhausted : Book → Bool
exhausted b = nat_le 500_000 b.last

abbrev pub refusals : (centres : ℕ) → State → AnyCall → List (Bool × Refusal)
refusals centres s (Enter o) =
    (not (entry_in_range o), OutOfRange)
    ∷ (is_ordinary o.kind && broken_cent o.limit, NotWholeCent)
    ∷ (is_ordinary o.kind && present o.offset, OffsetNotRpi)
    ∷ (not (entry_allowed s.book.phase), WrongPhase)
    ∷ (nat_le 256 (length s.book.resting), BookFull)
    ∷ (exhausted s.book, NumbersExhausted)
    ∷ []
refusals centres s (Cancel member number) =
    (not (is_member member), OutOfRange)
    ∷ (not (any (is_order member number) s.book.resting), NoSuchOrder)
    ∷ []
refusals centres s (Retail r lent) =
    (not (retail_in_range r), OutOfRange)
    ∷ (not (retail_allowed s.book.phase), WrongPhase)
    ∷ (not (s.book.approved r.member), NotApproved)
    ∷ (few_places s lent, ShortFillList)
    ∷ (exhausted s.book, NumbersExhausted)
    ∷ (routable r.kind && nat_le 32 (length s.book.slips), SlipsFull)
    ∷ []
refusals centres s (Draw number) = (not (any (is_waiting number) s.book.slips), NoWaitingSlip) ∷ []
refusals centres s (Return number shares away) =
    (not (any (is_drawn number shares) s.book.slips), NoDrawnSlip)
    ∷ (nat_lt shares away, MoreThanSlip)
    ∷ []
refusals centres s (Move event) = (not (present (phase_after s.book.phase event)), WrongPhase) ∷ []
refusals centres s (Approve member) = (not (is_member member), OutOfRange) ∷ []
refusals centres s (Withdraw member) = (not (is_member member), OutOfRange) ∷ []
refusals centres s (Quotes q) = (not (accepted centres q), OutOfRange) ∷ []

abbrev pub decided : List (Bool × Refusal) → Option Refusal
decided [] = None
decided (row ∷ rows) = cond row.0 (Some row.1) (decided rows)

-- THE TABLE: when each of the thirteen refusals applies to a call, in the subject's words

abbrev pub Outside : (least most n : ℕ) → Type 0
Outside least most n = (n < least) ⊎ (most < n)

abbrev pub OffsetOutside : Option ℕ → Type 0
OffsetOutside None = ⊥
OffsetOutside (Some offset) = Outside 1 100_000 offset

-- The numbers of a call that have a range: members, prices, offsets, shares of orders, centres and told sizes. A tell of size 0 looks at no price.
abbrev pub NumberOutside : (centres : ℕ) → AnyCall → Type 0
NumberOutside centres (Enter o) = Outside 1 64 o.member ⊎ (Outside 1 10_000_000 o.limit ⊎ (OffsetOutside o.offset ⊎ Outside 1 1_000_000 o.shares))
NumberOutside centres (Cancel member number) = Outside 1 64 member
NumberOutside centres (Retail r lent) = Outside 1 64 r.member ⊎ (Outside 1 10_000_000 r.limit ⊎ Outside 1 1_000_000 r.shares)
NumberOutside centres (Draw number) = ⊥
NumberOutside centres (Return number shares away) = ⊥
NumberOutside centres (Move event) = ⊥
NumberOutside centres (Approve member) = Outside 1 64 member
NumberOutside centres (Withdraw member) = Outside 1 64 member
NumberOutside centres (Quotes (Tell u)) = (centres ≤ u.centre) ⊎ ((1_000_000 < u.size) ⊎ ((0 < u.size) × Outside 1 10_000_000 u.price))
NumberOutside centres (Quotes (Declare centre)) = centres ≤ centre
NumberOutside centres (Quotes (Lift centre)) = centres ≤ centre

-- Entry is closed in the phase closed, Retail Orders in every phase but open, and a phase is taken only from those that lead to it; the other calls always work.
abbrev pub PhaseForbids : Phase → AnyCall → Type 0
PhaseForbids phase (Enter o) = phase ≡ Closed
PhaseForbids phase (Cancel member number) = ⊥
PhaseForbids phase (Retail r lent) = phase ≡ Open → ⊥
PhaseForbids phase (Draw number) = ⊥
PhaseForbids phase (Return number shares away) = ⊥
PhaseForbids phase (Move event) = phase_after phase event ≡ None
PhaseForbids phase (Approve member) = ⊥
PhaseForbids phase (Withdraw member) = ⊥
PhaseForbids phase (Quotes q) = ⊥

-- An accepted entry or Retail Order is given a number.
abbrev pub TakesNumber : AnyCall → Type 0
TakesNumber (Enter o) = Unit {0}
TakesNumber (Cancel member number) = ⊥
TakesNumber (Retail r lent) = Unit {0}
TakesNumber (Draw number) = ⊥
TakesNumber (Return number shares away) = ⊥
TakesNumber (Move event) = ⊥
TakesNumber (Approve member) = ⊥
TakesNumber (Withdraw member) = ⊥
TakesNumber (Quotes q) = ⊥

pub data Applies (centres : ℕ) (s : State) : AnyCall → Refusal → Type 0 where
  out_of_range : (call : AnyCall) → NumberOutside centres call → Applies centres s call OutOfRange
  not_whole_cent : (o : NewOrder) → (o.kind ≢ Rpi) → 1_000 ≤ o.limit → (o.limit % 10 ≢ 0) → Applies centres s (Enter o) NotWholeCent
  offset_not_rpi : (o : NewOrder) → (o.kind ≢ Rpi) → (o.offset ≢ None) → Applies centres s (Enter o) OffsetNotRpi
  wrong_phase : (call : AnyCall) → PhaseForbids s.book.phase call → Applies centres s call WrongPhase
  not_approved : (r : RetailOrder) (lent : ℕ) → s.book.approved r.member ≡ false → Applies centres s (Retail r lent) NotApproved
  short_fill_list : (r : RetailOrder) (lent : ℕ) → min lent (length s.fill_list) < 256 → Applies centres s (Retail r lent) ShortFillList
  book_full : (o : NewOrder) → 256 ≤ length s.book.resting → Applies centres s (Enter o) BookFull
  numbers_exhausted : (call : AnyCall) → TakesNumber call → 500_000 ≤ s.book.last → Applies centres s call NumbersExhausted
  no_such_order : (member number : ℕ) → Each (λ o. o.number ≡ number → o.member ≢ member) s.book.resting → Applies centres s (Cancel member number) NoSuchOrder
  slips_full : (r : RetailOrder) (lent : ℕ) → r.kind ≡ TwoRoutable → 32 ≤ length s.book.slips → Applies centres s (Retail r lent) SlipsFull
  no_waiting_slip : (number : ℕ) → Each (λ slip. slip.number ≡ number → slip.drawn ≡ true) s.book.slips → Applies centres s (Draw number) NoWaitingSlip
  no_drawn_slip : (number shares away : ℕ) → Each (λ slip. slip.number ≡ number → slip.drawn ≡ true → slip.shares ≢ shares) s.book.slips → Applies centres s (Return number shares away) NoDrawnSlip
  more_than_slip : (number shares away : ℕ) → shares < away → Applies centres s (Return number shares away) MoreThanSlip

-- A refusal decides if it applies and none above it in the table does.
pub record Decides (centres : ℕ) (s : State) (call : AnyCall) (why : Refusal) : Type 0 where
  pub applies : Applies centres s call why
  pub first : (other : Refusal) → refusal_number other < refusal_number why → Applies centres s call other → ⊥
