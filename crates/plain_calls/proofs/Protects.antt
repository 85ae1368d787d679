-- One quote call of a list more
use Rattle.std.proofs.Common.{◌≡◌, ℕ, ◌+◌, ◌<◌, ◌≤◌, List, [], ◌∷◌, ◌++◌, length, get_or, take, drop, set, Some, None, Option, sym, refl, ap, subst, ◌∙◌, arith}
use Rattle.std.proofs.lemmas.List.{take_more, take_at, length-append, length-take-le}
use Rattle.terms.specs.declared.market.QuoteCall.{QuoteCall}
use Rattle.terms.specs.declared.calls.Call.TheVariants.{Enter, Cancel, Retail, Draw, Return, Move, Approve, Withdraw, Quotes as OfQuotes}
use Rattle.quotes.specs.Quotes.{Quotes, after_call, best_pair}
use Rattle.rules.specs.Lists.{picked, and_then}
use Rattle.rules.proofs.Perms.{picked_append}
use Rattle.laws.specs.Rows.{AnyCall}
use Rattle.plain_calls.specs.declared.answers.PlainBest.{PlainBest}
use Rattle.plain_calls.specs.declared.calls.PlainCall.{PlainCall}
use Rattle.plain_calls.specs.Meant.{meant}
use Rattle.plain_calls.specs.MeantLaws.{Says}
use Rattle.plain_calls.specs.Plain.{over, plain_best}
use Rattle.plain_calls.specs.PlainLaws.{EachWith, TellsBest}
use Rattle.plain_calls.specs.Protecting.{best_after, pairs_after, quote_call, quote_meant, quotes_after, quotes_meant}
use Rattle.plain_calls.proofs.Fronts.{over_put}
use Rattle.plain_calls.proofs.Meanings.{meant_says}
use Rattle.plain_calls.proofs.Prices.{Priced, bests_told}
use Rattle.plain_calls.proofs.Tellings.{picked_with}

best_more : (q : Quotes) (calls : List QuoteCall) (c : QuoteCall) → best_after q (calls ++ c ∷ []) ≡ best_after q calls ++ plain_best (best_pair 32 (after_call 32 (quotes_after q calls) c)) ∷ []
best_more q [] c = refl
best_more q (x ∷ xs) c = ap (λ l. plain_best (best_pair 32 (after_call 32 q x)) ∷ l) (best_more (after_call 32 q x) xs c)

quotes_more : (q : Quotes) (calls : List QuoteCall) (c : QuoteCall) → quotes_after q (calls ++ c ∷ []) ≡ after_call 32 (quotes_after q calls) c
quotes_more q [] c = refl
quotes_more q (x ∷ xs) c = quotes_more (after_call 32 q x) xs c

length_best : (q : Quotes) (calls : List QuoteCall) → length (best_after q calls) ≡ length calls
length_best q [] = refl
length_best q (c ∷ cs) = omega (arith, length_best (after_call 32 q c) cs)

meant_more : (calls : List PlainCall) (n : ℕ) (c : PlainCall) (call : QuoteCall) → n < length calls → quote_meant (get_or calls n c) ≡ Some call → quotes_meant (n + 1) calls ≡ quotes_meant n calls ++ call ∷ []
meant_more calls n c call lt means =
    ap (picked quote_meant) (take_more calls n c lt)
    ∙ (picked_append quote_meant (take n calls) (get_or calls n c ∷ []) ∙ ap (λ m. quotes_meant n calls ++ and_then m []) means)

-- what a plain call says, if it means a call of the quotes
quote_back : (o : Option AnyCall) (q : QuoteCall) → quote_call o ≡ Some q → o ≡ Some (OfQuotes q)
quote_back None q e = absurd cc
quote_back (Some (Enter o)) q e = absurd cc
quote_back (Some (Cancel member number)) q e = absurd cc
quote_back (Some (Retail order places)) q e = absurd cc
quote_back (Some (Draw number)) q e = absurd cc
quote_back (Some (Return number shares away)) q e = absurd cc
quote_back (Some (Move event)) q e = absurd cc
quote_back (Some (Approve member)) q e = absurd cc
quote_back (Some (Withdraw member)) q e = absurd cc
quote_back (Some (OfQuotes call)) q e = let same : call ≡ q = cc in ap (λ (c : QuoteCall). Some (OfQuotes c)) same

quotes_said : (calls : List PlainCall) (n : ℕ) → n ≤ length calls → length (quotes_meant n calls) ≡ n → EachWith (λ c q. Says c (OfQuotes q)) (take n calls) (quotes_meant n calls)
quotes_said calls n within all = picked_with (λ c q. Says c (OfQuotes q)) quote_meant (λ c q e. meant_says c (OfQuotes q) (quote_back (meant c) q e)) (take n calls) (all ∙ sym (length-take-le n calls within))

-- and how the protected quotes after it are told
quotes_told : (q : Quotes) (calls : List PlainCall) (best best' : List PlainBest) (n : ℕ) → Priced q → length (quotes_meant n calls) ≡ n → best' ≡ over (best_after q (quotes_meant n calls)) best
    → EachWith TellsBest (pairs_after q (quotes_meant n calls)) (take n best')
quotes_told q calls best best' n priced all shown =
    let front = best_after q (quotes_meant n calls) in
    let many : length front ≡ n = length_best q (quotes_meant n calls) ∙ all in
    let are : take n best' ≡ front = ap (take n) shown ∙ take_at front (drop (length front) best) n many in
    subst (EachWith TellsBest (pairs_after q (quotes_meant n calls))) (sym are) (bests_told q (quotes_meant n calls) priced)

-- The protected quotes after the first n calls of a list are written, and these stand.
pub record Shown (q : Quotes) (calls : List PlainCall) (best best' : List PlainBest) (now : Quotes) (n : ℕ) : Type 0 where
  pub within : n ≤ length calls
  pub all_mean : length (quotes_meant n calls) ≡ n
  pub shown : best' ≡ over (best_after q (quotes_meant n calls)) best
  pub said : EachWith (λ c x. Says c (OfQuotes x)) (take n calls) (quotes_meant n calls)
  pub told : EachWith TellsBest (pairs_after q (quotes_meant n calls)) (take n best')
  pub stands : now ≡ quotes_after q (quotes_meant n calls)

module _ (q : Quotes) (calls : List PlainCall) (best best' best'' : List PlainBest) (now next : Quotes) (n : ℕ) (c : PlainCall) (call : QuoteCall) where
  pub shown_more : Priced q → Shown q calls best best' now n → n < length calls → quote_meant (get_or calls n c) ≡ Some call → n < length best → next ≡ after_call 32 now call
      → best'' ≡ set best' n (plain_best (best_pair 32 next)) → Shown q calls best best'' next (n + 1)
  shown_more priced s lt means room after is =
      let before = quotes_meant n calls in
      let more : quotes_meant (n + 1) calls ≡ before ++ call ∷ [] = meant_more calls n c call lt means in
      let many : length (best_after q before) ≡ n = length_best q before ∙ s.all_mean in
      let then : next ≡ after_call 32 (quotes_after q before) call = after ∙ ap (λ q. after_call 32 q call) s.stands in
      let within : n + 1 ≤ length calls = omega arith in
      let all : length (quotes_meant (n + 1) calls) ≡ n + 1 = omega (arith, ap length more, length-append before (call ∷ []), s.all_mean) in
      let shown : best'' ≡ over (best_after q (quotes_meant (n + 1) calls)) best =
      is ∙ (ap (λ l. set l n (plain_best (best_pair 32 next))) s.shown
      ∙ (over_put (best_after q before) best n (plain_best (best_pair 32 next)) many room
      ∙ ap (λ l. over l best) (ap (λ x. best_after q before ++ plain_best (best_pair 32 x) ∷ []) then ∙ sym (ap (best_after q) more ∙ best_more q before call)))) in
      record {
        within = within;
        all_mean = all;
        shown = shown;
        said = quotes_said calls (n + 1) within all;
        told = quotes_told q calls best best'' (n + 1) priced all shown;
        stands = then ∙ sym (ap (quotes_after q) more ∙ quotes_more q before call);
      }
