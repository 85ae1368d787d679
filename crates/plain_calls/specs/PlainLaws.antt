-- What the plain answers, fills and prices owe their reader, field by field
use Rattle.std.specs.Prelude.{◌≡◌, ℕ, ◌≤◌, List, [], ◌∷◌, length, take, drop, Some, None, Option}
use Rattle.terms.specs.declared.orders.Fill.{Fill}
use Rattle.terms.specs.Refusals.{refusal_number}
use Rattle.terms.specs.Words.{ExactlyIf}
use Rattle.laws.specs.Book.{Answer}
use Rattle.laws.specs.Book.Answer.{Refused, Done, Entered, Cancelled, Traded, Drawn, Returned}
use Rattle.plain_calls.specs.declared.answers.PlainAnswer.{PlainAnswer}
use Rattle.plain_calls.specs.declared.answers.PlainFill.{PlainFill}
use Rattle.plain_calls.specs.declared.answers.PlainBest.{PlainBest}
use Rattle.plain_calls.specs.Plain.{plain}

-- Two lists are as long as each other, and each of the one goes with the one in its place of the other.
abbrev pub EachWith : {X Y : Type 0} → (X → Y → Type 0) → List X → List Y → Type 0
EachWith R [] [] = Unit {0}
EachWith R [] (y ∷ ys) = ⊥
EachWith R (x ∷ xs) [] = ⊥
EachWith R (x ∷ xs) (y ∷ ys) = R x y × EachWith R xs ys

-- ANSWERS

-- A plain answer tells this answer. Of a refusal it has the number, 1 to 13, and nothing else; of a call that was taken the refusal is 0. The shares are those that rest, that a cancel took off, that a Retail Order was filled, that are on a slip, or that were executed away; what is cancelled is told of a Retail Order and of a slip that came back, what waits and how many fills there are of a Retail Order alone. What does not apply is 0.
abbrev pub Tells : Answer → PlainAnswer → Type 0
Tells (Refused why) p = (p.refusal ≡ refusal_number why) × (1 ≤ p.refusal) × (p.refusal ≤ 13) × (p.number ≡ 0) × (p.shares ≡ 0) × (p.cancelled ≡ 0) × (p.waiting ≡ 0) × (p.fills ≡ 0)
Tells Done p = (p.refusal ≡ 0) × (p.number ≡ 0) × (p.shares ≡ 0) × (p.cancelled ≡ 0) × (p.waiting ≡ 0) × (p.fills ≡ 0)
Tells (Entered number shares) p = (p.refusal ≡ 0) × (p.number ≡ number) × (p.shares ≡ shares) × (p.cancelled ≡ 0) × (p.waiting ≡ 0) × (p.fills ≡ 0)
Tells (Cancelled number shares) p = (p.refusal ≡ 0) × (p.number ≡ number) × (p.shares ≡ shares) × (p.cancelled ≡ 0) × (p.waiting ≡ 0) × (p.fills ≡ 0)
Tells (Traded t) p = (p.refusal ≡ 0) × (p.number ≡ t.number) × (p.shares ≡ t.filled) × (p.cancelled ≡ t.cancelled) × (p.waiting ≡ t.waiting) × (p.fills ≡ length t.fills)
Tells (Drawn number shares) p = (p.refusal ≡ 0) × (p.number ≡ number) × (p.shares ≡ shares) × (p.cancelled ≡ 0) × (p.waiting ≡ 0) × (p.fills ≡ 0)
Tells (Returned number away rest) p = (p.refusal ≡ 0) × (p.number ≡ number) × (p.shares ≡ away) × (p.cancelled ≡ rest) × (p.waiting ≡ 0) × (p.fills ≡ 0)

-- Every answer is told so, and by one plain answer alone.
abbrev pub TellingsHold : Type 0
TellingsHold = (answer : Answer) (p : PlainAnswer) → ExactlyIf (plain answer ≡ p) (Tells answer p)

-- FILLS

abbrev pub TellsFill : Fill → PlainFill → Type 0
TellsFill fill p = (p.number ≡ fill.number) × (p.price ≡ fill.price) × (p.shares ≡ fill.shares)

-- The fills of a Retail Order in their sequence; no other answer has any.
abbrev pub TellsFills : Answer → List PlainFill → Type 0
TellsFills (Refused why) ps = ps ≡ []
TellsFills Done ps = ps ≡ []
TellsFills (Entered number shares) ps = ps ≡ []
TellsFills (Cancelled number shares) ps = ps ≡ []
TellsFills (Traded t) ps = EachWith TellsFill t.fills ps
TellsFills (Drawn number shares) ps = ps ≡ []
TellsFills (Returned number away rest) ps = ps ≡ []

-- Answers and fills as they are read from the front: each answer has as many of the next fills as it says, and at the end no fill is over.
abbrev pub AllTold : List Answer → List PlainAnswer → List PlainFill → Type 0
AllTold [] ps fills = (ps ≡ []) × (fills ≡ [])
AllTold (a ∷ more) [] fills = ⊥
AllTold (a ∷ more) (p ∷ ps) fills = Tells a p × TellsFills a (take p.fills fills) × AllTold more ps (drop p.fills fills)

-- PRICES

-- A price that is absent is told as 0. One that is present is told as it is, and is 1 or more, so that 0 says that there is none.
abbrev pub TellsPrice : Option ℕ → ℕ → Type 0
TellsPrice None told = told ≡ 0
TellsPrice (Some price) told = (told ≡ price) × (1 ≤ told)

-- The bid and the offer, each by itself.
abbrev pub TellsBest : Option ℕ × Option ℕ → PlainBest → Type 0
TellsBest best p = TellsPrice best.0 p.bid × TellsPrice best.1 p.offer
