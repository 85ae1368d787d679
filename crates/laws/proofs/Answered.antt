-- Every accepted call is answered in its own way
use Rattle.std.proofs.Common.{◌≡◌, ℕ, ◌-◌, not, ◌&&◌, eqb, None, refl, ap, arith}
use Rattle.std.proofs.lemmas.Bool.{and_parts, eqb-true, ltb-false, not-false}
use Rattle.std.proofs.lemmas.Bool.Decides.{nat_tests}
use Rattle.terms.specs.declared.calls.Call.TheVariants.{Enter, Cancel, Retail, Draw, Return, Move, Approve, Withdraw, Quotes}
use Rattle.rules.specs.Lists.{any, read}
use Rattle.rules.proofs.Finds.{found_passes}
use Rattle.laws.specs.Book.{State, trade_now, is_order, is_waiting, is_drawn}
use Rattle.laws.specs.Book.Answer.{Cancelled, Drawn}
use Rattle.laws.specs.Rows.{AnyCall, refusals, decided}
use Rattle.laws.specs.Steps.{accepts, meet}
use Rattle.laws.specs.Law.{AnsweredAs, Answered}
use Rattle.laws.proofs.Soundness.{refused_or, all_passed}
use Rattle.laws.proofs.Trades.{met}

accepts_answers : (centres : ℕ) (s : State) (call : AnyCall) → decided (refusals centres s call) ≡ None → AnsweredAs s.book call (accepts centres s call).0
accepts_answers centres s (Enter o) p = refl
accepts_answers centres s (Cancel member number) p =
    let one = is_order member number in
    let rows = all_passed (refusals centres s (Cancel member number)) p in
    let t = found_passes one s.book.resting (not-false (any one s.book.resting) rows.1.0) in
    let parts = and_parts (eqb t.0.number number) (eqb t.0.member member) t.2 in
    (t.0, t.1, eqb-true t.0.number number parts.0, eqb-true t.0.member member parts.1, ap (λ o. Cancelled number (read (λ o. o.shares) 0 o)) t.3)
accepts_answers centres s (Retail r lent) p = (trade_now centres s r, refl, refl)
accepts_answers centres s (Draw number) p =
    let one = is_waiting number in
    let rows = all_passed (refusals centres s (Draw number)) p in
    let t = found_passes one s.book.slips (not-false (any one s.book.slips) rows.0) in
    let parts = and_parts (eqb t.0.number number) (not t.0.drawn) t.2 in
    (t.0, t.1, eqb-true t.0.number number parts.0, grind (arith, nat_tests), ap (λ slip. Drawn number (read (λ slip. slip.shares) 0 slip)) t.3)
accepts_answers centres s (Return number shares away) p =
    let one = is_drawn number shares in
    let rows = all_passed (refusals centres s (Return number shares away)) p in
    let t = found_passes one s.book.slips (not-false (any one s.book.slips) rows.0) in
    let parts = and_parts (eqb t.0.number number) (t.0.drawn && eqb t.0.shares shares) t.2 in
    let marks = and_parts t.0.drawn (eqb t.0.shares shares) parts.1 in
    let same : t.0.shares ≡ shares = eqb-true t.0.shares shares marks.1 in
    (t.0, t.1, eqb-true t.0.number number parts.0, marks.0, shares - away, omega (arith, same, ltb-false shares away rows.1.0), refl)
accepts_answers centres s (Move event) p = refl
accepts_answers centres s (Approve member) p = refl
accepts_answers centres s (Withdraw member) p = refl
accepts_answers centres s (Quotes q) p = refl

pub answered : (centres : ℕ) (s : State) (call : AnyCall) → Answered (meet centres s call)
answered centres s call =
    refused_or (λ x. Answered (met s call x)) (decided (refusals centres s call)) s (accepts centres s call)
    (λ why ne. absurd (ne why refl))
    (λ p _. accepts_answers centres s call p)
