-- What a Retail Order answers and leaves, by the step of the definitions
use Rattle.std.proofs.Common.{◌≡◌, ℕ, ◌<◌, ◌≤◌, min, Bool, true, false, ◌&&◌, leb, List, ◌++◌, length, take, drop, Some, None, sym, ap, ◌∙◌, subst, arith}
use lib.Seq.{take-append_seam}
use Rattle.std.proofs.lemmas.Bool.{leb-false, ltb-false}
use Rattle.terms.specs.declared.orders.Fill.{Fill}
use Rattle.terms.specs.declared.orders.RetailOrder.{RetailOrder}
use Rattle.terms.specs.declared.refusals.Refusal.{Refusal}
use Rattle.terms.specs.declared.calls.Call.TheVariants.{Retail}
use Rattle.quotes.specs.Quotes.{Quotes}
use Rattle.rules.specs.Lists.{Distinct}
use Rattle.rules.specs.Rules.{filled, routable, sequence}
use Rattle.rules.proofs.Greedy.{filled_along}
use Rattle.laws.specs.Book.{Book, State, Trade, Answer, fills_now, trade_now, after_trade, written}
use Rattle.laws.specs.Book.Answer.{Refused, Traded}
use Rattle.laws.specs.Law.{TradeLaw, met_orders}
use Rattle.laws.specs.Rows.{refusals, decided}
use Rattle.laws.specs.Steps.{accepts, unless}
use Rattle.laws.proofs.Soundness.{all_passed}
use Rattle.laws.proofs.Trades.{trade_law}
use Rattle.matching.specs.declared.walk.Matched.{Matched}
use Rattle.matching.specs.Walks.{Written}
use Rattle.book.specs.BookState.{state_of, RetailSteps}

-- the fills stand at the front of the list
pub front : (fs before after : List Fill) (m : Matched) → Written fs before after m → take m.fills after ≡ fs
front fs before after m w =
    ap (take m.fills) w.places ∙ (ap (λ n. take n (fs ++ drop (length fs) before)) w.count ∙ take-append_seam fs (drop (length fs) before))

same_after : (quotes : Quotes) (t t' : Trade) (b b' : Book) (list list' : List Fill) → t ≡ t' → b ≡ b' → list ≡ list'
    → ◌≡◌ {A = Answer × State} (Traded t, state_of b quotes list) (Traded t', state_of b' quotes list')
same_after quotes t t' b b' list list' i j k = rw (i, j, k)

few_slips : (k : Bool) (n : ℕ) → k && leb 32 n ≡ false → k ≡ true → n < 32
few_slips true n h e = leb-false 32 n h
few_slips false n h e = absurd cc

module _ (centres : ℕ) (quotes : Quotes) (b : Book) (lent : List Fill) (r : RetailOrder) where
  abbrev now : State
  now = state_of b quotes lent

  -- no more is filled than was asked for
  pub filled_within : filled (fills_now centres now r) ≤ r.shares
  filled_within = omega (arith, filled_along (sequence r.side (met_orders centres now r)) r.shares)

  pub refused : (why : Refusal) → Some why ≡ decided (refusals centres now (Retail r (length lent))) → RetailSteps centres quotes b lent r (Refused why) b lent
  refused why h = ap (λ d. unless d now (accepts centres now (Retail r (length lent)))) (sym h)

  module _ (passed : None ≡ decided (refusals centres now (Retail r (length lent)))) where
    pub places_left : 256 ≤ length lent
    places_left =
        let rows = all_passed (refusals centres now (Retail r (length lent))) (sym passed) in
        omega (arith, ltb-false (min (length lent) (length lent)) 256 rows.1.1.1.0)

    pub number_left : b.last < 500000
    number_left = let rows = all_passed (refusals centres now (Retail r (length lent))) (sym passed) in leb-false 500_000 b.last rows.1.1.1.1.0

    pub slip_left : routable r.kind ≡ true → length b.slips < 32
    slip_left = let rows = all_passed (refusals centres now (Retail r (length lent))) (sym passed) in few_slips (routable r.kind) (length b.slips) rows.1.1.1.1.1.0

    -- it is accepted: an answer and a list that tell of its fills, and the book after them
    pub traded : (t : Trade) (after : Book) (list : List Fill) → t ≡ trade_now centres now r → after ≡ after_trade b (trade_now centres now r) → list ≡ written (fills_now centres now r) lent
        → RetailSteps centres quotes b lent r (Traded t) after list
    traded t after list i j k =
        ap (λ d. unless d now (accepts centres now (Retail r (length lent)))) (sym passed)
        ∙ sym (same_after quotes t (trade_now centres now r) after (after_trade b (trade_now centres now r)) list (written (fills_now centres now r) lent) i j k)

  -- what its customer is owed
  pub owed : Distinct (λ o. o.number) b.resting → (t u : Trade) → t ≡ trade_now centres now r → Traded t ≡ Traded u → TradeLaw centres now r u
  owed d t u i e = let same : t ≡ u = cc in subst (TradeLaw centres now r) (sym i ∙ same) (trade_law centres now r d)
