-- The numbers of the refusals, from the first that is tried to the last, and the words in which each is told
use Rattle.std.specs.Prelude.{ℕ, List, codes}
use Rattle.terms.specs.declared.refusals.Refusal.{Refusal}
use Rattle.terms.specs.declared.refusals.Refusal.TheVariants.{OutOfRange, NotWholeCent, OffsetNotRpi, WrongPhase, NotApproved, ShortFillList, BookFull, NumbersExhausted, NoSuchOrder, SlipsFull, NoWaitingSlip, NoDrawnSlip, MoreThanSlip}

abbrev pub refusal_number : Refusal → ℕ
refusal_number OutOfRange = 1
refusal_number NotWholeCent = 2
refusal_number OffsetNotRpi = 3
refusal_number WrongPhase = 4
refusal_number NotApproved = 5
refusal_number ShortFillList = 6
refusal_number BookFull = 7
refusal_number NumbersExhausted = 8
refusal_number NoSuchOrder = 9
refusal_number SlipsFull = 10
refusal_number NoWaitingSlip = 11
refusal_number NoDrawnSlip = 12
refusal_number MoreThanSlip = 13

abbrev pub refusal_words : Refusal → List ℕ
refusal_words OutOfRange = codes "out of range"
refusal_words NotWholeCent = codes "not a whole cent"
refusal_words OffsetNotRpi = codes "an offset on an order that is not RPI"
refusal_words WrongPhase = codes "not in this phase"
refusal_words NotApproved = codes "member not approved"
refusal_words ShortFillList = codes "fill list too short"
refusal_words BookFull = codes "book full"
refusal_words NumbersExhausted = codes "no order number left"
refusal_words NoSuchOrder = codes "no such order"
refusal_words SlipsFull = codes "too many slips out"
refusal_words NoWaitingSlip = codes "no such slip waiting"
refusal_words NoDrawnSlip = codes "no such slip drawn"
refusal_words MoreThanSlip = codes "more shares than on the slip"
