-- What the calls and their answers say of each order's shares
use Rattle.std.specs.Prelude.{ℕ, ◌+◌, min, Bool, cond, List, length, fold, ◌==◌, nat_eq, nat_lt, slice_index_or, slice_set, Option, Some, None, Ok, Err, Result}
use Rattle.terms.specs.declared.orders.Fill.{Fill}
use Rattle.terms.specs.declared.orders.RestingOrder.{RestingOrder}
use Rattle.terms.specs.declared.refusals.Refusal.{Refusal}
use Rattle.rules.specs.Lists.{found}
use Rattle.book.specs.Means.{cancelled_in}
use Rattle.venue.specs.declared.answers.Answer.{Answer}
use Rattle.venue.specs.declared.answers.Answer.TheVariants.{Done, Entered, Cancelled, Traded, Drawn, Returned}
use Rattle.desk.specs.declared.events.Event.{Event}
use Rattle.desk.specs.declared.events.Event.TheVariants.{Quote, Exception, Return, Enter, Cancel, Phase, Approve, Retail, Draw, GiveBack}
use Rattle.tour.specs.declared.tallies.Tally.{Tally}

-- a sum that stays at the largest number of 32 bits
abbrev pub capped : ℕ → ℕ → ℕ
capped x y = min (x + y) 4294967295

abbrev pub both : Tally → Tally → Tally
both a b = record { entered = capped a.entered b.entered; filled = capped a.filled b.filled; cancelled = capped a.cancelled b.cancelled; away = capped a.away b.away }

-- shares are added to the tally of a number; the tally of a number that has no place is not kept
abbrev pub added : List Tally → (number : ℕ) → Tally → List Tally
added tallies number more = cond (nat_lt number (length tallies)) (slice_set tallies number (both (slice_index_or tallies number (record { entered = 0; filled = 0; cancelled = 0; away = 0 })) more)) tallies

-- a fill is one of the resting order that it names
abbrev pub fill_added : List Tally → Fill → List Tally
fill_added tallies fill = added tallies fill.number (record { entered = 0; filled = fill.shares; cancelled = 0; away = 0 })

-- the shares that a Retail Order is sent with
abbrev pub sent : Event → ℕ
sent (Quote update) = 0
sent (Exception centre) = 0
sent (Return centre) = 0
sent (Enter order) = 0
sent (Cancel member number) = 0
sent (Phase change) = 0
sent (Approve member) = 0
sent (Retail order) = order.shares
sent (Draw number) = 0
sent (GiveBack number shares away) = 0

-- An event, its answer and its fills change the tallies so.
abbrev pub counted : List Tally → Event → Result Answer Refusal → List Fill → List Tally
counted tallies event (Err why) fills = tallies
counted tallies event (Ok Done) fills = tallies
counted tallies event (Ok (Entered a)) fills = added tallies a.number (record { entered = a.shares; filled = 0; cancelled = 0; away = 0 })
counted tallies event (Ok (Cancelled a)) fills = added tallies a.number (record { entered = 0; filled = 0; cancelled = a.shares; away = 0 })
counted tallies event (Ok (Traded a)) fills = added (fold fill_added tallies fills) a.number (record { entered = sent event; filled = a.filled; cancelled = cancelled_in a.remainder; away = 0 })
counted tallies event (Ok (Drawn number shares)) fills = tallies
counted tallies event (Ok (Returned a)) fills = added tallies a.number (record { entered = 0; filled = 0; cancelled = a.cancelled; away = a.away })

-- Every share that was entered is accounted for.
abbrev pub adds_up : Tally → (resting waiting : ℕ) → Bool
adds_up t resting waiting = t.entered == t.filled + t.cancelled + t.away + resting + waiting

-- The shares of an order that rests; none rest where there is no such order.
abbrev pub shares_of : Option RestingOrder → ℕ
shares_of None = 0
shares_of (Some order) = order.shares

-- How many shares of the order of a number rest.
abbrev pub shares_resting : (number : ℕ) → List RestingOrder → ℕ
shares_resting number resting = shares_of (found (λ o. nat_eq o.number number) resting)
