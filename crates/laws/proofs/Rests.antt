-- Every resting order keeps the terms that it came with
use Rattle.std.proofs.Common.{ℕ, ◌≤◌, not, refl, arith}
use Rattle.std.specs.List.{ContainsAt as Has, AllByRecursion as Each}
use Rattle.std.proofs.ByRecursion.{All-weaker, All-push, all_kept_by, all_has_itself}
use Rattle.terms.specs.declared.orders.RestingOrder.{RestingOrder}
use Rattle.terms.specs.declared.calls.Call.TheVariants.{Enter, Cancel, Retail, Draw, Return, Move, Approve, Withdraw, Quotes}
use Rattle.rules.specs.Rules.{with_shares}
use Rattle.laws.specs.Book.{State, Answer, next_number, rests_as, is_order, trade_now}
use Rattle.laws.specs.Rows.{AnyCall, refusals, decided}
use Rattle.laws.specs.Steps.{accepts, meet}
use Rattle.laws.specs.Law.{Still, RestsAfter, TermsKept}
use Rattle.laws.specs.Law.RestsAfter.{stayed, came}
use Rattle.laws.proofs.Soundness.{refused_or, all_after}
use Rattle.laws.proofs.Trades.{met}

-- with fewer shares an order is still the same
fewer : (o : RestingOrder) (n : ℕ) → n ≤ o.shares → Still o (with_shares o n)
fewer o n le = record { number = refl; member = refl; side = refl; kind = refl; limit = refl; offset = refl; shares = le }

untouched : (o : RestingOrder) → Still o o
untouched o = record { number = refl; member = refl; side = refl; kind = refl; limit = refl; offset = refl; shares = omega arith }

-- what rested before and is untouched
all_stayed : (s : State) (call : AnyCall) (x : Answer × State) → Each (RestsAfter (met s call x)) s.book.resting
all_stayed s call x =
    All-weaker (Has s.book.resting) (RestsAfter (met s call x)) (λ o here. stayed o here (untouched o)) s.book.resting (all_has_itself s.book.resting)

accepts_rest : (centres : ℕ) (s : State) (call : AnyCall) → TermsKept (met s call (accepts centres s call))
accepts_rest centres s (Enter new) =
    let call = Enter new in
    let x = accepts centres s call in
    All-push (RestsAfter (met s call x)) s.book.resting (rests_as (next_number s.book) new) (all_stayed s call x)
    (came new refl refl (record { member = refl; side = refl; kind = refl; limit = refl; offset = refl; shares = refl }))
accepts_rest centres s (Cancel member number) =
    let call = Cancel member number in
    let x = accepts centres s call in
    all_kept_by (λ o. not (is_order member number o)) (RestsAfter (met s call x)) s.book.resting (all_stayed s call x)
accepts_rest centres s (Retail r lent) =
    let call = Retail r lent in
    let x = accepts centres s call in
    all_after (Has s.book.resting) (RestsAfter (met s call x)) (λ o n le _ here. stayed o here (fewer o n le)) (trade_now centres s r).fills s.book.resting (all_has_itself s.book.resting)
accepts_rest centres s (Draw number) = all_stayed s (Draw number) (accepts centres s (Draw number))
accepts_rest centres s (Return number shares away) = all_stayed s (Return number shares away) (accepts centres s (Return number shares away))
accepts_rest centres s (Move event) = all_stayed s (Move event) (accepts centres s (Move event))
accepts_rest centres s (Approve member) = all_stayed s (Approve member) (accepts centres s (Approve member))
accepts_rest centres s (Withdraw member) = all_stayed s (Withdraw member) (accepts centres s (Withdraw member))
accepts_rest centres s (Quotes q) = all_stayed s (Quotes q) (accepts centres s (Quotes q))

pub terms_kept : (centres : ℕ) (s : State) (call : AnyCall) → TermsKept (meet centres s call)
terms_kept centres s call =
    refused_or (λ x. TermsKept (met s call x)) (decided (refusals centres s call)) s (accepts centres s call)
    (λ why. all_stayed s call _)
    (λ _. accepts_rest centres s call)
