-- What is asked of the slips, what they answer, and what they are left as
use Rattle.std.specs.Prelude.{◌≡◌, ℕ, ◌-◌, false, cond, not, ◌&&◌, List, [], ◌∷◌, ◌++◌, map, length, Some, None, Ok, Err, filter, Option, Result, nat_le, nat_lt}
use Rattle.terms.specs.declared.orders.Slip.{Slip}
use Rattle.terms.specs.declared.refusals.Refusal.{Refusal}
use Rattle.terms.specs.declared.refusals.Refusal.TheVariants.{SlipsFull, NoWaitingSlip, NoDrawnSlip, MoreThanSlip}
use Rattle.rules.specs.Lists.{any, found}
use Rattle.laws.specs.Book.{Answer, is_waiting, is_drawn, drawn_if}
use Rattle.laws.specs.Book.Answer.{Refused, Drawn, Returned}
use Rattle.slips.specs.declared.slip.DrawnSlip.{DrawnSlip}
use Rattle.slips.specs.declared.slip.RefusedReturn.{RefusedReturn}
use Rattle.slips.specs.declared.slip.ReturnAnswer.{ReturnAnswer}

-- the shares on the waiting slip of a number
abbrev pub shares_of : Option Slip → Option ℕ
shares_of None = None
shares_of (Some slip) = Some slip.shares

abbrev pub shares_waiting : ℕ → List Slip → Option ℕ
shares_waiting number slips = shares_of (found (is_waiting number) slips)

-- ONE SLIP MORE

abbrev pub add_answer : List Slip → Result Unit Refusal
add_answer slips = cond (nat_le 32 (length slips)) (Err SlipsFull) (Ok tt)

abbrev pub slips_added : List Slip → (number shares : ℕ) → List Slip
slips_added slips number shares = cond (nat_le 32 (length slips)) slips (slips ++ record { number = number; shares = shares; drawn = false } ∷ [])

-- A DRAW

abbrev pub told_of : ℕ → Option ℕ → Answer
told_of number None = Refused NoWaitingSlip
told_of number (Some shares) = Drawn number shares

abbrev pub drawn_told : ℕ → List Slip → Answer
drawn_told number slips = told_of number (shares_waiting number slips)

abbrev pub slips_drawn : ℕ → List Slip → List Slip
slips_drawn number slips = cond (any (is_waiting number) slips) (map (drawn_if number) slips) slips

abbrev pub draw_answer : Result DrawnSlip Refusal → Answer
draw_answer (Ok slip) = Drawn slip.number slip.shares
draw_answer (Err why) = Refused why

-- A RETURN

abbrev pub returned_told : (number shares away : ℕ) → List Slip → Answer
returned_told number shares away slips =
    cond (any (is_drawn number shares) slips) (cond (nat_lt shares away) (Refused MoreThanSlip) (Returned number away (shares - away))) (Refused NoDrawnSlip)

abbrev pub slips_returned : (number shares away : ℕ) → List Slip → List Slip
slips_returned number shares away slips =
    cond (any (is_drawn number shares) slips && not (nat_lt shares away)) (filter (λ slip. not (is_drawn number shares slip)) slips) slips

abbrev pub return_answer : Result ReturnAnswer RefusedReturn → Answer
return_answer (Ok a) = Returned a.number a.away a.cancelled
return_answer (Err back) = Refused back.why

-- A refused return hands the slip back as it was.
abbrev pub HandedBack : DrawnSlip → Result ReturnAnswer RefusedReturn → Type 0
HandedBack slip (Ok a) = Unit {0}
HandedBack slip (Err back) = back.slip ≡ slip
