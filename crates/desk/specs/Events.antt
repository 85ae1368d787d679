-- The call that an event makes
use Rattle.terms.specs.declared.market.QuoteCall.TheVariants.{Tell, Declare, Lift}
use Rattle.std.specs.Prelude.{ℕ}
use Rattle.terms.specs.declared.calls.Call.TheVariants.{Enter as Entering, Cancel as Cancelling, Retail as Sending, Draw as Drawing, Return as Returning, Move, Approve as Approving, Quotes}
use Rattle.laws.specs.Rows.{AnyCall}
use Rattle.desk.specs.declared.events.Event.{Event}
use Rattle.desk.specs.declared.events.Event.TheVariants.{Quote, Exception, Return, Enter, Cancel, Phase, Approve, Retail, Draw, GiveBack}

-- A Retail Order is lent so many places for its fills.
abbrev pub event_call : Event → (places : ℕ) → AnyCall
event_call (Quote update) places = Quotes (Tell update)
event_call (Exception centre) places = Quotes (Declare centre)
event_call (Return centre) places = Quotes (Lift centre)
event_call (Enter order) places = Entering order
event_call (Cancel member number) places = Cancelling member number
event_call (Phase change) places = Move change
event_call (Approve member) places = Approving member
event_call (Retail order) places = Sending order places
event_call (Draw number) places = Drawing number
event_call (GiveBack number shares away) places = Returning number shares away
