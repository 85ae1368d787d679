-- A small day of calls, every answer compared
use Rattle.std.specs.Prelude.{ℕ, List, [], ◌∷◌, map, replicate, Some, None, Option}
use Rattle.terms.specs.declared.market.Side.{Side}
use Rattle.terms.specs.declared.market.Side.TheVariants.{Buy, Sell}
use Rattle.terms.specs.declared.market.QuoteCall.TheVariants.{Tell, Declare, Lift}
use Rattle.terms.specs.declared.orders.OrderKind.{OrderKind}
use Rattle.terms.specs.declared.orders.OrderKind.TheVariants.{Rpi, Hidden, Displayed}
use Rattle.terms.specs.declared.orders.RetailType.{RetailType}
use Rattle.terms.specs.declared.orders.RetailType.TheVariants.{One, TwoRoutable}
use Rattle.terms.specs.declared.orders.PhaseEvent.TheVariants.{Opening, Halting, Closing}
use Rattle.terms.specs.declared.refusals.Refusal.TheVariants.{OutOfRange, NotWholeCent, WrongPhase, NotApproved, NoSuchOrder, NoWaitingSlip, NoDrawnSlip, MoreThanSlip}
use Rattle.terms.specs.declared.calls.Call.TheVariants.{Enter, Cancel, Retail, Draw, Return, Move, Approve, Withdraw, Quotes}
use Rattle.quotes.specs.Quotes.{no_quotes, no_centres, with_lot, with_exceptions}
use Rattle.rules.specs.WorkedPrices.{fill}
use Rattle.laws.specs.Book.{State, Answer, start}
use Rattle.laws.specs.Book.Answer.{Refused, Done, Entered, Cancelled, Traded, Drawn, Returned}
use Rattle.laws.specs.Rows.{AnyCall}
use Rattle.laws.specs.Steps.{trace}

abbrev pub tells : (centre : ℕ) → Side → (price size : ℕ) → AnyCall
tells centre side price size = Quotes (Tell (record { centre = centre; side = side; price = price; size = size }))

abbrev pub enters : (member : ℕ) → Side → OrderKind → (limit : ℕ) → Option ℕ → (shares : ℕ) → AnyCall
enters member side kind limit offset shares = Enter (record { member = member; side = side; kind = kind; limit = limit; offset = offset; shares = shares })

abbrev pub retails : Side → RetailType → (limit shares : ℕ) → AnyCall
retails side type limit shares = Retail (record { member = 5; side = side; kind = type; limit = limit; shares = shares }) 256

-- 32 centres under an exception layer and a lot layer of 100, and a fill list of 256 places
abbrev pub morning : State
morning = start (with_lot 100 (with_exceptions no_centres no_quotes)) (replicate 256 (fill 0 0 0))

-- each call with its answer
abbrev pub day : List (AnyCall × Answer)
day =
    (retails Sell One 10_000 800, Refused WrongPhase)
    ∷ (Approve 5, Done)
    ∷ (Move Opening, Done)
    ∷ (tells 1 Buy 10_000 300, Done)
    ∷ (enters 2 Buy Rpi 10_015 None 500, Entered 1 500)
    ∷ (enters 3 Buy Rpi 10_040 (Some 20) 100, Entered 2 100)
    ∷ (retails Sell One 10_000 800, Traded (record { number = 3; fills = fill 2 10_020 100 ∷ fill 1 10_015 500 ∷ []; filled = 600; cancelled = 200; waiting = 0 }))
    ∷ (enters 2 Sell Displayed 10_055 None 300, Refused NotWholeCent)
    ∷ (enters 2 Sell Displayed 10_050 None 300, Entered 4 300)
    ∷ (tells 2 Sell 10_060 200, Done)
    ∷ (retails Buy TwoRoutable 10_060 500, Traded (record { number = 5; fills = fill 4 10_050 300 ∷ []; filled = 300; cancelled = 0; waiting = 200 }))
    ∷ (Draw 5, Drawn 5 200)
    ∷ (Draw 5, Refused NoWaitingSlip)
    ∷ (Return 5 200 201, Refused MoreThanSlip)
    ∷ (Return 5 200 150, Returned 5 150 50)
    ∷ (Return 5 200 0, Refused NoDrawnSlip)
    ∷ (enters 2 Buy Hidden 9_990 None 100, Entered 6 100)
    ∷ (Cancel 3 6, Refused NoSuchOrder)
    ∷ (Cancel 2 6, Cancelled 6 100)
    ∷ (Quotes (Declare 1), Done)
    ∷ (Quotes (Lift 40), Refused OutOfRange)
    ∷ (Withdraw 5, Done)
    ∷ (retails Sell One 10_000 100, Refused NotApproved)
    ∷ (Move Halting, Done)
    ∷ (Move Closing, Done)
    ∷ (enters 2 Buy Hidden 9_990 None 100, Refused WrongPhase)
    ∷ []

abbrev pub day_calls : List AnyCall
day_calls = map (λ line. line.0) day

abbrev pub day_answers : List Answer
day_answers = map (λ line. line.1) day

abbrev pub answers : (centres : ℕ) → State → List AnyCall → List Answer
answers centres s calls = map (λ m. m.answer) (trace centres s calls)
