-- A call is refused with the first reason in the table that applies, and accepted if none does
use Rattle.std.proofs.Common.{◌≡◌, ℕ, ◌<◌, ◌≤◌, Bool, true, false, cond, not, ◌&&◌, eqb, ltb, List, [], ◌∷◌, Some, Decides as Tells, Option, refl, ap, ◌∙◌, subst, arith}
use Rattle.std.specs.List.{AllByRecursion as Each}
use Rattle.std.proofs.lemmas.Bool.{false≢true}
use Rattle.std.proofs.lemmas.Bool.Decides.{nat_tests}
use Rattle.std.proofs.ByRecursion.{Decides-by_and}
use Rattle.terms.specs.declared.orders.RestingOrder.{RestingOrder}
use Rattle.terms.specs.declared.orders.Slip.{Slip}
use Rattle.terms.specs.declared.refusals.Refusal.{Refusal}
use Rattle.terms.specs.declared.refusals.Refusal.TheVariants.{OutOfRange, WrongPhase}
use Rattle.terms.specs.declared.calls.Call.TheVariants.{Enter, Cancel, Retail, Draw, Return, Move, Approve, Withdraw, Quotes}
use Rattle.terms.specs.Refusals.{refusal_number}
use Rattle.terms.specs.Words.{ExactlyIf}
use Rattle.rules.specs.Lists.{any}
use Rattle.laws.specs.Book.{State, Answer, is_order, is_waiting, is_drawn}
use Rattle.laws.specs.Book.Answer.{Refused}
use Rattle.laws.specs.Rows.{AnyCall, refusals, decided, NumberOutside, PhaseForbids, Applies, Decides}
use Rattle.laws.specs.Rows.Applies.{out_of_range, not_whole_cent, offset_not_rpi, wrong_phase, not_approved, short_fill_list, book_full, numbers_exhausted, no_such_order, slips_full, no_waiting_slip, no_drawn_slip, more_than_slip}
use Rattle.laws.specs.Steps.{accepts, unless, meet}
use Rattle.laws.specs.Law.{RefusedByTable, AcceptedByTable}

-- WHAT A TEST OF A LIST SAYS IN WORDS

-- nothing in a list passes a test exactly if each fails it
tells_none : {X : Type 0} (test : X → Bool) (P : X → Type 0) → ((x : X) → Tells (not (test x)) (P x)) → (xs : List X) → Tells (not (any test xs)) (Each P xs)
tells_none {X} test P each xs =
    Decides-by_and (λ x. not (test x)) P (λ (ys : List X). not (any test ys)) each refl (λ x ys. grind arith) xs

-- no resting order of this number and member
no_order : (member number : ℕ) (orders : List RestingOrder) → Tells (not (any (is_order member number) orders)) (Each (λ o. o.number ≡ number → o.member ≡ member → ⊥) orders)
no_order member number orders = tells_none (is_order member number) (λ o. o.number ≡ number → o.member ≡ member → ⊥) (λ o. grind (arith, nat_tests)) orders

-- no waiting slip of this number
no_waiting : (number : ℕ) (slips : List Slip) → Tells (not (any (is_waiting number) slips)) (Each (λ slip. slip.number ≡ number → slip.drawn ≡ true) slips)
no_waiting number slips = tells_none (is_waiting number) (λ slip. slip.number ≡ number → slip.drawn ≡ true) (λ slip. grind (arith, nat_tests)) slips

-- no drawn slip of this number and these shares
no_drawn : (number shares : ℕ) (slips : List Slip) → Tells (not (any (is_drawn number shares) slips)) (Each (λ slip. slip.number ≡ number → slip.drawn ≡ true → slip.shares ≡ shares → ⊥) slips)
no_drawn number shares slips =
    tells_none (is_drawn number shares) (λ slip. slip.number ≡ number → slip.drawn ≡ true → slip.shares ≡ shares → ⊥) (λ slip. grind (arith, nat_tests)) slips

-- THE ROWS

abbrev number_of : Bool × Refusal → ℕ
number_of row = refusal_number row.1

-- the test of the row of this number; false, if there is no such row
abbrev test_at : ℕ → List (Bool × Refusal) → Bool
test_at n [] = false
test_at n (row ∷ rows) = cond (eqb (number_of row) n) row.0 (test_at n rows)

module _ (centres : ℕ) (s : State) where
  -- the two refusals that stand in the lists of many calls
  range_tells : (call : AnyCall) → Tells (test_at 1 (refusals centres s call)) (NumberOutside centres call)
  range_tells call = grind (arith, nat_tests)

  phase_tells : (call : AnyCall) → Tells (test_at 4 (refusals centres s call)) (PhaseForbids s.book.phase call)
  phase_tells call = grind (arith, nat_tests)

  range_applies : (call : AnyCall) → test_at 1 (refusals centres s call) ≡ true → Applies centres s call OutOfRange
  range_applies call e = out_of_range call ((range_tells call).0 e)

  phase_applies : (call : AnyCall) → test_at 4 (refusals centres s call) ≡ true → Applies centres s call WrongPhase
  phase_applies call e = wrong_phase call ((phase_tells call).0 e)

  -- A row whose test passes applies,
  row_applies : (call : AnyCall) → Each (λ row. row.0 ≡ true → Applies centres s call row.1) (refusals centres s call)
  row_applies (Enter o) = (
    range_applies (Enter o),
    (
      λ e. not_whole_cent o (grind (arith, nat_tests)) (grind (arith, nat_tests)) (grind (arith, nat_tests)),
      (
        λ e. offset_not_rpi o (grind (arith, nat_tests)) (grind (arith, nat_tests)),
        (
          phase_applies (Enter o),
          (
            λ e. book_full o (grind (arith, nat_tests)),
            (λ e. numbers_exhausted (Enter o) tt (grind (arith, nat_tests)), tt),
          ),
        ),
      ),
    ),
  )
  row_applies (Cancel member number) = (range_applies (Cancel member number), (λ e. no_such_order member number ((no_order member number s.book.resting).0 e), tt))
  row_applies (Retail r lent) = (
    range_applies (Retail r lent),
    (
      phase_applies (Retail r lent),
      (
        λ e. not_approved r lent (grind (arith, nat_tests)),
        (
          λ e. short_fill_list r lent (grind (arith, nat_tests)),
          (
            λ e. numbers_exhausted (Retail r lent) tt (grind (arith, nat_tests)),
            (λ e. slips_full r lent (grind (arith, nat_tests)) (grind (arith, nat_tests)), tt),
          ),
        ),
      ),
    ),
  )
  row_applies (Draw number) = (λ e. no_waiting_slip number ((no_waiting number s.book.slips).0 e), tt)
  row_applies (Return number shares away) =
      (λ e. no_drawn_slip number shares away ((no_drawn number shares s.book.slips).0 e), (λ e. more_than_slip number shares away (grind (arith, nat_tests)), tt))
  row_applies (Move event) = (phase_applies (Move event), tt)
  row_applies (Approve member) = (range_applies (Approve member), tt)
  row_applies (Withdraw member) = (range_applies (Withdraw member), tt)
  row_applies (Quotes q) = (range_applies (Quotes q), tt)

  -- and whatever applies has a row whose test passes.
  applies_row : (call : AnyCall) (why : Refusal) → Applies centres s call why → test_at (refusal_number why) (refusals centres s call) ≡ true
  applies_row _ _ (out_of_range call h) = (range_tells call).1 h
  applies_row _ _ (not_whole_cent o kind dollar cent) = grind (arith, nat_tests)
  applies_row _ _ (offset_not_rpi o kind offset) = grind (arith, nat_tests)
  applies_row _ _ (wrong_phase call h) = (phase_tells call).1 h
  applies_row _ _ (not_approved r lent h) = grind (arith, nat_tests)
  applies_row _ _ (short_fill_list r lent h) = grind (arith, nat_tests)
  applies_row _ _ (book_full o h) = grind (arith, nat_tests)
  applies_row _ _ (numbers_exhausted call h le) = grind (arith, nat_tests)
  applies_row _ _ (no_such_order member number h) = (no_order member number s.book.resting).1 h
  applies_row _ _ (slips_full r lent kind full) = grind (arith, nat_tests)
  applies_row _ _ (no_waiting_slip number h) = (no_waiting number s.book.slips).1 h
  applies_row _ _ (no_drawn_slip number shares away h) = (no_drawn number shares s.book.slips).1 h
  applies_row _ _ (more_than_slip number shares away h) = grind (arith, nat_tests)

-- THE FIRST ROW THAT PASSES

-- the numbers of the rows rise, from above this one
abbrev rise : ℕ → List (Bool × Refusal) → Bool
rise least [] = true
rise least (row ∷ rows) = ltb least (number_of row) && rise (number_of row) rows

rows_rise : (centres : ℕ) (s : State) (call : AnyCall) → rise 0 (refusals centres s call) ≡ true
rows_rise centres s call = grind (arith, nat_tests)

-- so a row that passes has a number above it
row_above : (least n : ℕ) (rows : List (Bool × Refusal)) → rise least rows ≡ true → test_at n rows ≡ true → least < n
row_above least n [] up e = absurd (false≢true e)
row_above least n (row ∷ rows) up e = let later = row_above (number_of row) n rows in grind (arith, nat_tests)

-- The row that decides passes, so what follows from each row that passes holds of it.
decided_passes : (P : Refusal → Type 0) (rows : List (Bool × Refusal)) → Each (λ row. row.0 ≡ true → P row.1) rows → (why : Refusal) → decided rows ≡ Some why → P why
decided_passes P [] each why e = grind arith
decided_passes P (row ∷ rows) each why e = go row.0 refl e (decided_passes P rows each.1 why)
  where
    go : (b : Bool) → row.0 ≡ b → cond b (Some row.1) (decided rows) ≡ Some why → (decided rows ≡ Some why → P why) → P why
    go true i j later = let same : row.1 ≡ why = cc in subst P same (each.0 i)
    go false i j later = later j

-- Where a row passes, some row decides, and its number is no larger.
abbrev DecidedBy : ℕ → Option Refusal → Type 0
DecidedBy n d = (first : Refusal) × (d ≡ Some first) × (refusal_number first ≤ n)

passes_decided : (least n : ℕ) (rows : List (Bool × Refusal)) → rise least rows ≡ true → test_at n rows ≡ true → DecidedBy n (decided rows)
passes_decided least n [] up e = absurd (false≢true e)
passes_decided least n (row ∷ rows) up e =
    go row.0 refl (row_above (number_of row) n rows) (passes_decided (number_of row) n rows)
  where
    go : (b : Bool) → row.0 ≡ b → (rise (number_of row) rows ≡ true → test_at n rows ≡ true → number_of row < n) → (rise (number_of row) rows ≡ true → test_at n rows ≡ true → DecidedBy n (decided rows))
        → DecidedBy n (cond b (Some row.1) (decided rows))
    go true i above later = (row.1, refl, grind (arith, nat_tests))
    go false i above later = later (grind (arith, nat_tests)) (grind (arith, nat_tests))

-- ANSWERS

same_number : (a b : Refusal) → refusal_number a ≡ refusal_number b → a ≡ b
same_number a b e = grind (arith, nat_tests)

-- an accepted call is not answered with a refusal
unrefused : (centres : ℕ) (s : State) (call : AnyCall) (why : Refusal) → (accepts centres s call).0 ≡ Refused why → ⊥
unrefused centres s call why e = grind arith

-- so the answer is a refusal exactly if the rows decide on it
answer_exactly : (d : Option Refusal) (s : State) (done : Answer × State) → ((why : Refusal) → done.0 ≡ Refused why → ⊥) → (why : Refusal)
    → ExactlyIf ((unless d s done).0 ≡ Refused why) (d ≡ Some why)
answer_exactly d s done not_refused why = grind arith

module _ (centres : ℕ) (s : State) (call : AnyCall) where
  abbrev verdict : Option Refusal
  verdict = decided (refusals centres s call)

  refused_exactly : (why : Refusal) → ExactlyIf ((meet centres s call).answer ≡ Refused why) (verdict ≡ Some why)
  refused_exactly why = answer_exactly verdict s (accepts centres s call) (unrefused centres s call) why

  verdict_applies : (why : Refusal) → verdict ≡ Some why → Applies centres s call why
  verdict_applies why e = decided_passes (Applies centres s call) (refusals centres s call) (row_applies centres s call) why e

  applies_verdict : (why : Refusal) → Applies centres s call why → DecidedBy (refusal_number why) verdict
  applies_verdict why h = passes_decided 0 (refusal_number why) (refusals centres s call) (rows_rise centres s call) (applies_row centres s call why h)

  -- the refusal that the rows decide on has none above it that applies,
  verdict_first : (why : Refusal) → verdict ≡ Some why → Decides centres s call why
  verdict_first why e =
      record {
        applies = verdict_applies why e;
        first = λ other lt h.
            let d = applies_verdict other h in
            let same : d.0 ≡ why = cc in
            omega (arith, ap refusal_number same, d.2);
      }

  -- and such a refusal is the one that they decide on
  first_verdict : (why : Refusal) → Decides centres s call why → verdict ≡ Some why
  first_verdict why h =
      let d = applies_verdict why h.applies in
      let not_above : refusal_number d.0 < refusal_number why → ⊥ = λ lt. h.first d.0 lt (verdict_applies d.0 d.1) in
      d.1 ∙ ap Some (same_number d.0 why (omega (arith, d.2)))

pub refused_by_table : (centres : ℕ) (s : State) (call : AnyCall) → RefusedByTable centres (meet centres s call)
refused_by_table centres s call why =
    let exactly = refused_exactly centres s call why in
    record { only = λ e. verdict_first centres s call why (exactly.only e); if = λ h. exactly.if (first_verdict centres s call why h) }

pub accepted_by_table : (centres : ℕ) (s : State) (call : AnyCall) → AcceptedByTable centres (meet centres s call)
accepted_by_table centres s call =
    let exactly = refused_exactly centres s call in
    record {
      only = λ not_refused why h. let d = applies_verdict centres s call why h in not_refused d.0 ((exactly d.0).if d.1);
      if = λ none why e. none why (verdict_applies centres s call why ((exactly why).only e));
    }
