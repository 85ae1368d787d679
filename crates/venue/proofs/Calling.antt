-- One call takes its step, in the book, the quotes, the fill list and the slips that are out
use Rattle.std.proofs.Common.{◌≡◌, ℕ, true, List, map, take, vec_items, Ok, Err, Result, sym, refl, ap, ◌∙◌, subst, ◌≤◌, length, arith}
use Rattle.std.specs.Result.{MatchResult}
use Rattle.terms.specs.declared.market.QuoteCall.{QuoteCall}
use Rattle.terms.specs.declared.orders.Fill.{Fill}
use Rattle.terms.specs.declared.refusals.Refusal.{Refusal}
use Rattle.terms.specs.declared.calls.Call.{Call}
use Rattle.terms.specs.declared.calls.Call.TheVariants.{Enter, Cancel, Retail, Draw, Return, Move, Approve, Withdraw, Quotes}
use Rattle.quotes.specs.Quotes.{Quotes as QuoteState}
use Rattle.rules.specs.Sorted.{Perm}
use Rattle.rules.proofs.Perms.{perm_is}
use Rattle.laws.specs.Book.{Book, State}
use Rattle.laws.specs.Book.{Answer as Told}
use Rattle.laws.specs.Rows.{AnyCall, refusals, decided}
use Rattle.laws.specs.Routed.{Note, InStep, drawn_notes, out_after}
use Rattle.laws.specs.Steps.{accepts, step}
use Rattle.laws.proofs.Out.{stays_in_step}
use Rattle.laws.proofs.Soundness.{refused_or}
use Rattle.book.specs.declared.answers.CancelAnswer.{CancelAnswer}
use Rattle.book.specs.declared.answers.EntryAnswer.{EntryAnswer}
use Rattle.book.specs.BookState.{state_of}
use Rattle.book.specs.Means.{cancel_answer, done_answer, entry_answer, state}
use Rattle.venue.specs.declared.answers.Answer.{Answer}
use Rattle.venue.specs.declared.answers.Answer.TheVariants.{Done, Entered, Cancelled}
use Rattle.venue.specs.declared.venue.Venue.{Venue}
use Rattle.venue.specs.Answers.{Says, answer_of, call_of, fills_in, note_of, rest_told}
use Rattle.venue.specs.Together.{in_order, same_notes, slips_numbered}
use Rattle.venue.proofs.Tallies.{from_tests, in_step_perm, numbered_test, tally_test}

-- a call that neither draws nor returns
abbrev pub Quiet : AnyCall → Type 0
Quiet (Enter o) = Unit {0}
Quiet (Cancel member number) = Unit {0}
Quiet (Retail r places) = Unit {0}
Quiet (Draw number) = ⊥
Quiet (Return number shares away) = ⊥
Quiet (Move event) = Unit {0}
Quiet (Approve member) = Unit {0}
Quiet (Withdraw member) = Unit {0}
Quiet (Quotes q) = Unit {0}

quiet_accepted : (centres : ℕ) (s : State) (call : AnyCall) (out : List Note) → Quiet call → out_after out (accepts centres s call).0 ≡ out
quiet_accepted centres s (Enter o) out h = refl
quiet_accepted centres s (Cancel member number) out h = refl
quiet_accepted centres s (Retail r places) out h = refl
quiet_accepted centres s (Draw number) out h = absurd h
quiet_accepted centres s (Return number shares away) out h = absurd h
quiet_accepted centres s (Move event) out h = refl
quiet_accepted centres s (Approve member) out h = refl
quiet_accepted centres s (Withdraw member) out h = refl
quiet_accepted centres s (Quotes q) out h = refl

-- WHAT AN ANSWER SAYS

module _ (r : Result Answer Refusal) where
  pub says_done : (b : Result Unit Refusal) → MatchResult b (λ _. r ≡ Ok Done) (λ why. r ≡ Err why) → Says r (done_answer b)
  says_done (Ok tt) h = rw h (refl, λ fs. refl, refl)
  says_done (Err why) h = rw h (refl, λ fs. refl, refl)

  pub says_entered : (b : Result EntryAnswer Refusal) → MatchResult b (λ a. r ≡ Ok (Entered a)) (λ why. r ≡ Err why) → Says r (entry_answer b)
  says_entered (Ok a) h = rw h (refl, λ fs. refl, refl)
  says_entered (Err why) h = rw h (refl, λ fs. refl, refl)

  pub says_cancelled : (b : Result CancelAnswer Refusal) → MatchResult b (λ a. r ≡ Ok (Cancelled a)) (λ why. r ≡ Err why) → Says r (cancel_answer b)
  says_cancelled (Ok a) h = rw h (refl, λ fs. refl, refl)
  says_cancelled (Err why) h = rw h (refl, λ fs. refl, refl)

-- WHAT THE TYPE OF A VENUE STATES

-- the venue is in step with its book, and after a call with the book and the slips that it leaves
pub together : (v : Venue) → InStep (state v.book) (map note_of (vec_items v.held))
together v = from_tests (state v.book) (map note_of (vec_items v.held)) v.numbered v.tallied

module _ (centres : ℕ) (v : Venue) (b' : Book) (q q' : QuoteState) (list list' : List Fill) (call : AnyCall) (told : Told) (out' : List Note)
    (st : step centres (state_of (state v.book) q list) call ≡ (told, state_of b' q' list')) (p : Perm (out_after (map note_of (vec_items v.held)) told) out') where
  in_step : InStep b' out'
  in_step =
      let out = map note_of (vec_items v.held) in
      in_step_perm b' (out_after out told) out' (subst (λ x. InStep x.1.book (out_after out x.0)) st (stays_in_step centres (state_of (state v.book) q list) call out (together v))) p

  pub kept : (slips_numbered b'.last b'.slips ≡ true) × (same_notes (in_order (drawn_notes b'.slips)) (in_order out') ≡ true)
  kept = (numbered_test b' out' in_step, tally_test b' out' in_step)

-- A call, by the step that was made.
module _ {Q : Type 0} (denotes : Q → QuoteCall) (centres : ℕ) (v : Venue) (b' : Book) (q q' : QuoteState) (made : Call Q) (list list' : List Fill) (told : Told)
    (st : step centres (state_of (state v.book) q list) (call_of denotes made) ≡ (told, state_of b' q' list')) where
  -- an answer that has no fills says the same whatever the fill list
  pub plainly : (call : Call Q) → call ≡ made → (r : Result Answer Refusal) → Says r told → step centres (state_of (state v.book) q list) (call_of denotes call) ≡ (answer_of r list', state_of b' q' list')
  plainly call is r says = ap (λ c. step centres (state_of (state v.book) q list) (call_of denotes c)) is ∙ (st ∙ ap (λ a. (a, state_of b' q' list')) (sym (says.1 (take (fills_in r) list'))))

  -- it leaves the slips that are out
  module _ (quiet : Quiet (call_of denotes made)) where
    pub still : Perm (out_after (map note_of (vec_items v.held)) told) (map note_of (vec_items v.held))
    still =
        let s = state_of (state v.book) q list in
        let own = call_of denotes made in
        let out = map note_of (vec_items v.held) in
        perm_is (sym (ap (λ x. out_after out x.0) st) ∙ refused_or (λ x. out_after out x.0 ≡ out) (decided (refusals centres s own)) s (accepts centres s own) (λ why. refl) (λ _. quiet_accepted centres s own out quiet))

    pub answered : (call : Call Q) → call ≡ made → (r : Result Answer Refusal) → Says r told
        → (step centres (state_of (state v.book) q list) (call_of denotes call) ≡ (answer_of r list', state_of b' q' list'))
        × Perm (out_after (map note_of (vec_items v.held)) (answer_of r list')) (map note_of (vec_items v.held))
        × ((fills_in r ≤ length list') × (fills_in r ≤ 256))
        × (rest_told r ≡ true)
    answered call is r says = (
      plainly call is r says,
      subst (λ a. Perm (out_after (map note_of (vec_items v.held)) a) (map note_of (vec_items v.held))) (sym (says.1 (take (fills_in r) list'))) still,
      (omega (arith, says.0), omega (arith, says.0)),
      says.2,
    )

    pub still_kept : (slips_numbered b'.last b'.slips ≡ true) × (same_notes (in_order (drawn_notes b'.slips)) (in_order (map note_of (vec_items v.held))) ≡ true)
    still_kept = kept centres v b' q q' list list' (call_of denotes made) told (map note_of (vec_items v.held)) st still
