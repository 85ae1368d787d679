-- A Retail Order that is lent the first places of a list takes its step on the whole list
use Rattle.std.proofs.Common.{◌≡◌, ℕ, ◌≤◌, min, not, ◌&&◌, ltb, leb, List, [], ◌∷◌, ◌++◌, length, take, drop, Some, None, Option, sym, refl, ap, ◌∙◌, subst, append_assoc, arith, take-append-drop, length-take-le}
use lib.Seq.{drop-append-le}
use Rattle.std.proofs.lemmas.Bool.{ltb-false}
use Rattle.std.proofs.lemmas.List.{length-append}
use Rattle.terms.specs.declared.orders.Fill.{Fill}
use Rattle.terms.specs.declared.orders.RetailOrder.{RetailOrder}
use Rattle.terms.specs.declared.refusals.Refusal.{Refusal}
use Rattle.terms.specs.declared.refusals.Refusal.TheVariants.{OutOfRange, WrongPhase, NotApproved, ShortFillList, NumbersExhausted, SlipsFull}
use Rattle.terms.specs.declared.calls.Call.TheVariants.{Retail}
use Rattle.quotes.specs.Quotes.{Quotes}
use Rattle.rules.specs.Rules.{routable}
use Rattle.laws.specs.Book.{Book, State, Answer, fills_now, trade_now, after_trade}
use Rattle.laws.specs.Book.Answer.{Refused, Traded}
use Rattle.laws.specs.Rows.{refusals, decided, retail_in_range, retail_allowed, exhausted}
use Rattle.laws.specs.Steps.{accepts, unless, step}
use Rattle.laws.proofs.Room.{fills_few}
use Rattle.laws.proofs.Soundness.{all_passed}
use Rattle.book.specs.declared.ledger.Book.{Book as Ledger}
use Rattle.book.specs.BookState.{state_of, RetailSteps}
use Rattle.queues.specs.Sides.{orders_of}
use Rattle.book.specs.Means.{state}
use Rattle.book.proofs.Numbers.{resting_length}

-- after some fills the rest of the lent places and then the others stand
drop_seam : {X : Type 0} (m k : ℕ) (xs : List X) → m ≤ k → k ≤ length xs → drop m (take k xs) ++ drop k xs ≡ drop m xs
drop_seam m k xs h l = sym (ap (drop m) (sym (take-append-drop k xs)) ∙ drop-append-le m (take k xs) (drop k xs) (omega (arith, length-take-le k xs l, h)))

module _ (centres : ℕ) (quotes : Quotes) (b : Book) (list : List Fill) (r : RetailOrder) (places : ℕ) where
  abbrev whole : State
  whole = state_of b quotes list

  abbrev part : State
  part = state_of b quotes (take (min places (length list)) list)

  -- the same refuses it
  same_refusal : decided (refusals centres whole (Retail r places)) ≡ decided (refusals centres part (Retail r (length (take (min places (length list)) list))))
  same_refusal = ap (λ n. by n) (omega (arith, length-take-le (min places (length list)) list (omega arith)))
    where
      by : ℕ → Option Refusal
      by n =
          decided
          ((not (retail_in_range r), OutOfRange)
          ∷ (not (retail_allowed b.phase), WrongPhase)
          ∷ (not (b.approved r.member), NotApproved)
          ∷ (ltb n 256, ShortFillList)
          ∷ (exhausted b, NumbersExhausted)
          ∷ (routable r.kind && leb 32 (length b.slips), SlipsFull)
          ∷ [])

  lent_steps : (answer : Answer) (after : Book) (left : List Fill) → length b.resting ≤ 256 → RetailSteps centres quotes b (take (min places (length list)) list) r answer after left
      → step centres whole (Retail r places) ≡ (answer, state_of after quotes (left ++ drop (min places (length list)) list))
  lent_steps answer after left few st =
      ap (λ d. unless d whole (accepts centres whole (Retail r places))) same_refusal
      ∙ (go (decided (refusals centres part (Retail r (length (take (min places (length list)) list))))) refl
      ∙ ap (λ z. (z.0, state_of z.1.book quotes (z.1.fill_list ++ drop (min places (length list)) list))) st)
    where
      go : (d : Option Refusal) → decided (refusals centres part (Retail r (length (take (min places (length list)) list)))) ≡ d
          → unless d whole (accepts centres whole (Retail r places))
          ≡ (
            (unless d part (accepts centres part (Retail r (length (take (min places (length list)) list))))).0,
            state_of (unless d part (accepts centres part (Retail r (length (take (min places (length list)) list))))).1.book quotes
                ((unless d part (accepts centres part (Retail r (length (take (min places (length list)) list))))).1.fill_list ++ drop (min places (length list)) list),
          )
      go (Some why) e = ap (λ l. (Refused why, state_of b quotes l)) (sym (take-append-drop (min places (length list)) list))
      go None e =
          let fs = fills_now centres whole r in
          let rows = all_passed (refusals centres part (Retail r (length (take (min places (length list)) list)))) e in
          let places_left = ltb-false (min (length (take (min places (length list)) list)) (length (take (min places (length list)) list))) 256 rows.1.1.1.0 in
          let long = length-take-le (min places (length list)) list (omega arith) in
          let seam = drop_seam (length fs) (min places (length list)) list (omega (arith, fills_few centres whole r, places_left, long)) (omega arith) in
          ap (λ l. (Traded (trade_now centres whole r), state_of (after_trade b (trade_now centres whole r)) quotes l))
          (ap (λ l. fs ++ l) (sym seam) ∙ sym (append_assoc fs (drop (length fs) (take (min places (length list)) list)) (drop (min places (length list)) list)))

  -- by the number of places that is lent, as a book stands
  pub lent_at : (k : ℕ) → k ≡ min places (length list) → (answer : Answer) (after : Book) (left : List Fill) → length b.resting ≤ 256 → RetailSteps centres quotes b (take k list) r answer after left
      → step centres whole (Retail r places) ≡ (answer, state_of after quotes (left ++ drop k list))
  lent_at k e answer after left few st =
      subst (λ n. step centres whole (Retail r places) ≡ (answer, state_of after quotes (left ++ drop n list))) (sym e)
      (lent_steps answer after left few (subst (λ n. RetailSteps centres quotes b (take n list) r answer after left) e st))

pub resting_few : (b : Ledger) → length (state b).resting ≤ 256
resting_few b = omega (arith, resting_length (orders_of b.buys) (orders_of b.sells), length-append (orders_of b.buys) (orders_of b.sells), b.few)
