-- Every protected price is 1 or more, and is told as it is
use Rattle.std.proofs.Common.{◌≡◌, ℕ, ◌≤◌, Bool, true, false, cond, not, ◌&&◌, ltb, eqb, List, [], ◌∷◌, Some, None, Option, unwrap_or, refl, subst, arith}
use Rattle.std.proofs.lemmas.Bool.Decides.{nat_tests}
use Rattle.terms.specs.declared.market.Side.{Side}
use Rattle.terms.specs.declared.market.Side.TheVariants.{Buy, Sell}
use Rattle.terms.specs.declared.market.Quote.{Quote}
use Rattle.terms.specs.declared.market.QuoteUpdate.{QuoteUpdate}
use Rattle.terms.specs.declared.market.QuoteCall.{QuoteCall}
use Rattle.terms.specs.declared.market.QuoteCall.TheVariants.{Tell, Declare, Lift}
use Rattle.terms.specs.Words.{keep_if, same_side}
use Rattle.quotes.specs.Quotes.{Quotes, shown, excepted, as_large_as, protected, best_pair, tell_in_range, told_quote, accepted, after_accepted, after_tell, after_call}
use Rattle.quotes.proofs.Shown.{only_if_some, one_asked}
use Rattle.stacks.specs.Venue.{opening_quotes}
use Rattle.plain_calls.specs.Plain.{plain_best}
use Rattle.plain_calls.specs.PlainLaws.{EachWith, TellsPrice, TellsBest}
use Rattle.plain_calls.specs.Protecting.{best_after, pairs_after}

-- No quote that stands has the price 0.
abbrev pub Priced : Quotes → Type 0
Priced q = (centre : ℕ) (side : Side) (quote : Quote) → q.table centre side ≡ Some quote → 1 ≤ quote.price

pub priced_opening : Priced opening_quotes
priced_opening centre side quote e = absurd cc

told_priced : (centre price size : ℕ) (quote : Quote) → tell_in_range 32 centre price size ≡ true → told_quote price size ≡ Some quote → 1 ≤ quote.price
told_priced centre price size quote ok e = grind (arith, nat_tests)

tell_priced : (q : Quotes) (u : QuoteUpdate) → tell_in_range 32 u.centre u.price u.size ≡ true → Priced q → Priced (after_tell q u)
tell_priced q u ok h centre side quote e = go (eqb centre u.centre && same_side side u.side) e
  where
    go : (b : Bool) → cond b (told_quote u.price u.size) (q.table centre side) ≡ Some quote → 1 ≤ quote.price
    go true e = told_priced u.centre u.price u.size quote ok e
    go false e = h centre side quote e

accepted_priced : (q : Quotes) (call : QuoteCall) → accepted 32 call ≡ true → Priced q → Priced (after_accepted q call)
accepted_priced q (Tell u) ok h = tell_priced q u ok h
accepted_priced q (Declare centre) ok h = h
accepted_priced q (Lift centre) ok h = h

call_priced : (q : Quotes) (call : QuoteCall) → Priced q → Priced (after_call 32 q call)
call_priced q call h = go (accepted 32 call) refl
  where
    go : (b : Bool) → accepted 32 call ≡ b → Priced (cond b (after_accepted q call) q)
    go true ok = accepted_priced q call ok h
    go false ok = h

kept : (p : Quote → Bool) (o : Option Quote) (quote : Quote) → keep_if p o ≡ Some quote → o ≡ Some quote
kept p None quote e = absurd cc
kept p (Some x) quote e = (only_if_some (p x) (Some x) quote e).1

protected_priced : (q : Quotes) (side : Side) (price : ℕ) → Priced q → protected 32 q side ≡ Some price → 1 ≤ price
protected_priced q side price h e =
    let by = one_asked 32 q side price e in
    let counted = only_if_some (ltb by.0 32) (shown q by.0 side) by.1 by.2 in
    let honoured = only_if_some (not (excepted q by.0)) (keep_if (as_large_as q.lot) (q.table by.0 side)) by.1 counted.1 in
    let told = kept (as_large_as q.lot) (q.table by.0 side) by.1 honoured.1 in
    subst (λ n. 1 ≤ n) by.3 (h by.0 side by.1 told)

tells_price : (o : Option ℕ) → ((price : ℕ) → o ≡ Some price → 1 ≤ price) → TellsPrice o (unwrap_or o 0)
tells_price None h = refl
tells_price (Some price) h = (refl, h price refl)

tells_best : (q : Quotes) → Priced q → TellsBest (best_pair 32 q) (plain_best (best_pair 32 q))
tells_best q h =
    (tells_price (protected 32 q Buy) (λ price e. protected_priced q Buy price h e), tells_price (protected 32 q Sell) (λ price e. protected_priced q Sell price h e))

pub bests_told : (q : Quotes) (calls : List QuoteCall) → Priced q → EachWith TellsBest (pairs_after q calls) (best_after q calls)
bests_told q [] h = tt
bests_told q (c ∷ cs) h = let next = call_priced q c h in (tells_best (after_call 32 q c) next, bests_told (after_call 32 q c) cs next)
