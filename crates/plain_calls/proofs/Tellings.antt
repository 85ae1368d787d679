-- Every answer is told as the relations say, and every call that is made is said
use Rattle.std.proofs.Common.{◌≡◌, ℕ, suc, ◌≤◌, List, [], ◌∷◌, map, length, take, drop, Some, None, Option, sym, refl, ap, subst, ◌∙◌, arith}
use Rattle.std.proofs.lemmas.List.{length-map, length-take-le, take_at, drop_at}
use Rattle.terms.specs.declared.orders.Fill.{Fill}
use Rattle.terms.specs.declared.refusals.Refusal.{Refusal}
use Rattle.terms.specs.declared.refusals.Refusal.TheVariants.{OutOfRange, NotWholeCent, OffsetNotRpi, WrongPhase, NotApproved, ShortFillList, BookFull, NumbersExhausted, NoSuchOrder, SlipsFull, NoWaitingSlip, NoDrawnSlip, MoreThanSlip}
use Rattle.terms.specs.Refusals.{refusal_number}
use Rattle.rules.specs.Lists.{picked, and_then}
use Rattle.rules.proofs.Picks.{length_picked}
use Rattle.laws.specs.Book.{State, Answer}
use Rattle.laws.specs.Book.Answer.{Refused, Done, Entered, Cancelled, Traded, Drawn, Returned}
use Rattle.plain_calls.specs.declared.answers.PlainAnswer.{PlainAnswer}
use Rattle.plain_calls.specs.declared.answers.PlainFill.{PlainFill}
use Rattle.plain_calls.specs.declared.calls.PlainCall.{PlainCall}
use Rattle.plain_calls.specs.Meant.{meant}
use Rattle.plain_calls.specs.MeantLaws.{Says}
use Rattle.plain_calls.specs.Plain.{plain, plain_fill, plain_fills}
use Rattle.plain_calls.specs.PlainLaws.{EachWith, Tells, TellingsHold, TellsFill, TellsFills, AllTold}
use Rattle.plain_calls.specs.Runs.{answers_to, calls_meant, fills_of, Made}
use Rattle.plain_calls.proofs.Making.{length_answers}
use Rattle.plain_calls.proofs.Meanings.{meant_says}

-- ONE ANSWER

numbered : (why : Refusal) → (1 ≤ refusal_number why) × (refusal_number why ≤ 13)
numbered OutOfRange = (omega arith, omega arith)
numbered NotWholeCent = (omega arith, omega arith)
numbered OffsetNotRpi = (omega arith, omega arith)
numbered WrongPhase = (omega arith, omega arith)
numbered NotApproved = (omega arith, omega arith)
numbered ShortFillList = (omega arith, omega arith)
numbered BookFull = (omega arith, omega arith)
numbered NumbersExhausted = (omega arith, omega arith)
numbered NoSuchOrder = (omega arith, omega arith)
numbered SlipsFull = (omega arith, omega arith)
numbered NoWaitingSlip = (omega arith, omega arith)
numbered NoDrawnSlip = (omega arith, omega arith)
numbered MoreThanSlip = (omega arith, omega arith)

tells_plain : (answer : Answer) → Tells answer (plain answer)
tells_plain (Refused why) = let n = numbered why in (refl, n.0, n.1, refl, refl, refl, refl, refl)
tells_plain Done = (refl, refl, refl, refl, refl, refl)
tells_plain (Entered number shares) = (refl, refl, refl, refl, refl, refl)
tells_plain (Cancelled number shares) = (refl, refl, refl, refl, refl, refl)
tells_plain (Traded t) = (refl, refl, refl, refl, refl, refl)
tells_plain (Drawn number shares) = (refl, refl, refl, refl, refl, refl)
tells_plain (Returned number away rest) = (refl, refl, refl, refl, refl, refl)

abbrev of_fields : (refusal number shares cancelled waiting fills : ℕ) → PlainAnswer
of_fields refusal number shares cancelled waiting fills = record { refusal = refusal; number = number; shares = shares; cancelled = cancelled; waiting = waiting; fills = fills }

-- a plain answer is what its fields are
same_fields : (p : PlainAnswer) (r n s c w f : ℕ) → p.refusal ≡ r → p.number ≡ n → p.shares ≡ s → p.cancelled ≡ c → p.waiting ≡ w → p.fills ≡ f → of_fields r n s c w f ≡ p
same_fields p r n s c w f a b d e g h = rw (← a, ← b, ← d, ← e, ← g, ← h) refl

told_is : (answer : Answer) (p : PlainAnswer) → Tells answer p → plain answer ≡ p
told_is (Refused why) p h = same_fields p _ _ _ _ _ _ h.0 h.3 h.4 h.5 h.6 h.7
told_is Done p h = same_fields p _ _ _ _ _ _ h.0 h.1 h.2 h.3 h.4 h.5
told_is (Entered number shares) p h = same_fields p _ _ _ _ _ _ h.0 h.1 h.2 h.3 h.4 h.5
told_is (Cancelled number shares) p h = same_fields p _ _ _ _ _ _ h.0 h.1 h.2 h.3 h.4 h.5
told_is (Traded t) p h = same_fields p _ _ _ _ _ _ h.0 h.1 h.2 h.3 h.4 h.5
told_is (Drawn number shares) p h = same_fields p _ _ _ _ _ _ h.0 h.1 h.2 h.3 h.4 h.5
told_is (Returned number away rest) p h = same_fields p _ _ _ _ _ _ h.0 h.1 h.2 h.3 h.4 h.5

pub tellings_hold : TellingsHold
tellings_hold answer p = record { only = λ e. subst (Tells answer) e (tells_plain answer); if = told_is answer p }

-- ITS FILLS

each_fill : (fills : List Fill) → EachWith TellsFill fills (map plain_fill fills)
each_fill [] = tt
each_fill (fill ∷ fills) = ((refl, refl, refl), each_fill fills)

tells_fills : (answer : Answer) → TellsFills answer (plain_fills answer)
tells_fills (Refused why) = refl
tells_fills Done = refl
tells_fills (Entered number shares) = refl
tells_fills (Cancelled number shares) = refl
tells_fills (Traded t) = each_fill t.fills
tells_fills (Drawn number shares) = refl
tells_fills (Returned number away rest) = refl

count : (answer : Answer) → length (plain_fills answer) ≡ (plain answer).fills
count (Refused why) = refl
count Done = refl
count (Entered number shares) = refl
count (Cancelled number shares) = refl
count (Traded t) = length-map t.fills plain_fill
count (Drawn number shares) = refl
count (Returned number away rest) = refl

-- ALL ANSWERS

all_told : (answers : List Answer) → AllTold answers (map plain answers) (fills_of answers)
all_told [] = (refl, refl)
all_told (a ∷ more) =
    let own = take_at (plain_fills a) (fills_of more) (plain a).fills (count a) in
    let others = drop_at (plain_fills a) (fills_of more) (plain a).fills (count a) in (
      tells_plain a,
      subst (TellsFills a) (sym own) (tells_fills a),
      subst (AllTold more (map plain more)) (sym others) (all_told more),
    )

-- THE LISTS

-- what is picked from a list, if nothing is passed over, goes with it
pub picked_with : {X Y : Type 0} (R : X → Y → Type 0) (f : X → Option Y) → ((x : X) (y : Y) → f x ≡ Some y → R x y) → (xs : List X) → length (picked f xs) ≡ length xs → EachWith R xs (picked f xs)
picked_with R f goes [] e = tt
picked_with {X} {Y} R f goes (x ∷ xs) e = go (f x) refl e (picked_with R f goes xs)
  where
    go : (o : Option Y) → f x ≡ o → length (and_then o (picked f xs)) ≡ suc (length xs) → (length (picked f xs) ≡ length xs → EachWith R xs (picked f xs)) → EachWith R (x ∷ xs) (and_then o (picked f xs))
    go None i e more = absurd (omega (arith, length_picked f xs))
    go (Some y) i e more = (goes x y i, more (omega arith))

module _ (s : State) (calls : List PlainCall) (answers answers' : List PlainAnswer) (fills fills' : List PlainFill) (n k : ℕ) where
  pub made_said : Made s calls answers answers' fills fills' n k → EachWith Says (take n calls) (calls_meant n calls)
  made_said m = picked_with Says meant meant_says (take n calls) (m.all_mean ∙ sym (length-take-le n calls m.within))

  pub made_told : Made s calls answers answers' fills fills' n k → AllTold (answers_to s (calls_meant n calls)) (take n answers') (take k fills')
  made_told m =
      let told = answers_to s (calls_meant n calls) in
      let many : length (map plain told) ≡ n = length-map told plain ∙ (length_answers s (calls_meant n calls) ∙ m.all_mean) in
      let answers_are : take n answers' ≡ map plain told = ap (take n) m.answered ∙ take_at (map plain told) (drop (length (map plain told)) answers) n many in
      let fills_are : take k fills' ≡ fills_of told = ap (take k) m.filled ∙ take_at (fills_of told) (drop (length (fills_of told)) fills) k m.counted in
      subst (λ l. AllTold told l (take k fills')) (sym answers_are) (subst (AllTold told (map plain told)) (sym fills_are) (all_told told))
