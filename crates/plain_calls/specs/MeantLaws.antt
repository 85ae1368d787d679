-- What the meaning of a plain call owes its writer
use Rattle.std.specs.Prelude.{◌≡◌, ℕ, Bool, true, false, Some, None, Option}
use Rattle.terms.specs.Words.{ExactlyIf}
use Rattle.terms.specs.declared.market.Side.{Side}
use Rattle.terms.specs.declared.market.Side.TheVariants.{Buy, Sell}
use Rattle.terms.specs.declared.market.QuoteCall.TheVariants.{Tell, Declare, Lift}
use Rattle.terms.specs.declared.orders.OrderKind.{OrderKind}
use Rattle.terms.specs.declared.orders.OrderKind.TheVariants.{Rpi, Hidden, Displayed}
use Rattle.terms.specs.declared.orders.RetailType.{RetailType}
use Rattle.terms.specs.declared.orders.RetailType.TheVariants.{One, Two, TwoRoutable}
use Rattle.terms.specs.declared.orders.PhaseEvent.{PhaseEvent}
use Rattle.terms.specs.declared.orders.PhaseEvent.TheVariants.{Opening, Halting, Closing}
use Rattle.terms.specs.declared.calls.Call.TheVariants.{Enter, Cancel, Retail, Draw, Return, Move, Approve, Withdraw, Quotes}
use Rattle.laws.specs.Rows.{AnyCall}
use Rattle.plain_calls.specs.declared.calls.PlainCall.{PlainCall}
use Rattle.plain_calls.specs.Meant.{meant}

-- B and S
abbrev pub side_letter : Side → ℕ
side_letter Buy = 66
side_letter Sell = 83

-- R, H and D
abbrev pub kind_letter : OrderKind → ℕ
kind_letter Rpi = 82
kind_letter Hidden = 72
kind_letter Displayed = 68

-- 1, 2 and 3
abbrev pub type_letter : RetailType → ℕ
type_letter One = 49
type_letter Two = 50
type_letter TwoRoutable = 51

-- O, H and C
abbrev pub event_letter : PhaseEvent → ℕ
event_letter Opening = 79
event_letter Halting = 72
event_letter Closing = 67

-- With the flag an entry says this number as its offset, and without it none, whatever the number.
abbrev pub SaysOffset : (given : Bool) (number : ℕ) → Option ℕ → Type 0
SaysOffset false number None = Unit {0}
SaysOffset false number (Some offset) = ⊥
SaysOffset true number None = ⊥
SaysOffset true number (Some offset) = number ≡ offset

-- A plain call says this call: the letter of the call, and in the fields that the call uses what it says; what stands in the other fields does not matter. The letters of the calls are E, C, R, D, B, P, A, W, T, X and L.
abbrev pub Says : PlainCall → AnyCall → Type 0
Says p (Enter o) = (p.call ≡ 69) × (p.side ≡ side_letter o.side) × (p.kind ≡ kind_letter o.kind) × (p.who ≡ o.member) × (p.price ≡ o.limit) × SaysOffset p.has_offset p.offset o.offset × (p.shares ≡ o.shares)
Says p (Cancel member number) = (p.call ≡ 67) × (p.who ≡ member) × (p.number ≡ number)
Says p (Retail o places) = (p.call ≡ 82) × (p.side ≡ side_letter o.side) × (p.kind ≡ type_letter o.kind) × (p.who ≡ o.member) × (p.price ≡ o.limit) × (p.shares ≡ o.shares) × (places ≡ 256)
Says p (Draw number) = (p.call ≡ 68) × (p.number ≡ number)
Says p (Return number shares away) = (p.call ≡ 66) × (p.number ≡ number) × (p.shares ≡ shares) × (p.away ≡ away)
Says p (Move event) = (p.call ≡ 80) × (p.kind ≡ event_letter event)
Says p (Approve member) = (p.call ≡ 65) × (p.who ≡ member)
Says p (Withdraw member) = (p.call ≡ 87) × (p.who ≡ member)
Says p (Quotes (Tell u)) = (p.call ≡ 84) × (p.who ≡ u.centre) × (p.side ≡ side_letter u.side) × (p.price ≡ u.price) × (p.shares ≡ u.size)
Says p (Quotes (Declare centre)) = (p.call ≡ 88) × (p.who ≡ centre)
Says p (Quotes (Lift centre)) = (p.call ≡ 76) × (p.who ≡ centre)

pub record MeaningsHold : Type 0 where
  -- A plain call means a call exactly if it says it,
  pub meanings : (p : PlainCall) (call : AnyCall) → ExactlyIf (meant p ≡ Some call) (Says p call)
  -- and nothing exactly if it says none.
  pub silence : (p : PlainCall) → ExactlyIf (meant p ≡ None) ((call : AnyCall) → ¬ Says p call)
