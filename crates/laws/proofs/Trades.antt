-- What holds of one call: its fills, its fill list, and what it leaves if it is refused
use Rattle.std.proofs.Common.{◌≡◌, ℕ, ◌+◌, ◌≤◌, min, Bool, true, false, cond, ◌&&◌, eqb, leb, List, length, drop, Some, None, Option, sym, refl, ap, ◌∙◌, subst, arith, length-append, length-drop}
use mathlib.Core.Bool.{false≢true}
use lib.Seq.{take-append_seam, drop-append_seam}
use Rattle.std.proofs.ByRecursion.{All-weaker}
use Rattle.std.proofs.lemmas.Bool.{leb-true, and_parts, ltb-false, not-false, eq-eqb, ne_eqb}
use Rattle.terms.specs.declared.market.Side.{Side}
use Rattle.terms.specs.declared.market.Side.TheVariants.{Buy, Sell}
use Rattle.terms.specs.declared.orders.OrderKind.{OrderKind}
use Rattle.terms.specs.declared.orders.OrderKind.TheVariants.{Rpi}
use Rattle.terms.specs.declared.orders.RestingOrder.{RestingOrder}
use Rattle.terms.specs.declared.orders.RetailOrder.{RetailOrder}
use Rattle.terms.specs.declared.orders.Fill.{Fill}
use Rattle.terms.specs.declared.orders.Phase.{Phase}
use Rattle.terms.specs.declared.refusals.Refusal.{Refusal}
use Rattle.terms.specs.declared.calls.Call.TheVariants.{Enter, Cancel, Retail, Draw, Return, Move, Approve, Withdraw, Quotes}
use Rattle.quotes.specs.Quotes.{best_pair}
use Rattle.quotes.specs.Quotes.{Quotes as QuoteState}
use Rattle.quotes.specs.QuoteLaws.{NoBetter}
use Rattle.quotes.proofs.Shown.{asked_behind, one_asked}
use Rattle.rules.specs.Lists.{Distinct, present}
use Rattle.rules.specs.Rules.{own_side, better_by, improves, least_improvement, lowest_rpi_price, quote_allows, no_worse, opposite, eligible_at, filled}
use Rattle.terms.specs.Words.{same_side}
use Rattle.rules.proofs.Best.{fills_have_most, fills_cost_best}
use Rattle.rules.proofs.Priority.{fills_keep_priority}
use Rattle.rules.proofs.Relations.{rules_hold}
use Rattle.rules.proofs.Members.{same_key}
use Rattle.laws.specs.Book.{State, Trade, Answer, trade_now, fills_now, phase_after, or_phase, written}
use Rattle.laws.specs.Book.Answer.{Refused, Traded}
use Rattle.laws.specs.Rows.{AnyCall, refusals, decided}
use Rattle.laws.specs.Sound.{Sound}
use Rattle.laws.specs.Steps.{Met, accepts, meet}
use Rattle.laws.specs.Law.{OfTrades, met_orders, TradeHasMost, TradeCostsBest, Priority, Remainder, Betters, BettersQuotes, Improves, Improvement, TradeLaw, Changes, Changed, Registers, Writes, FillList, FillListKept, Unchanged}
use Rattle.laws.proofs.Eligible.{From, fill_from, eligible_distinct}
use Rattle.laws.proofs.Room.{fills_fit}
use Rattle.laws.proofs.Savings.{own_quote, savings}
use Rattle.laws.proofs.Soundness.{refused_or, all_passed}

-- a call with what it answered and left
abbrev pub met : State → AnyCall → Answer × State → Met
met s call r = record { before = s; call = call; answer = r.0; after = r.1 }

never : ◌≡◌ {A = ℕ} 0 1 → ⊥
never e = omega arith

-- REFUSALS

-- an accepted call answers no refusal
unrefused : (centres : ℕ) (s : State) (call : AnyCall) (why : Refusal) → (accepts centres s call).0 ≡ Refused why → ◌≡◌ {A = ℕ} 0 1
unrefused centres s (Enter o) why e = cc
unrefused centres s (Cancel member number) why e = cc
unrefused centres s (Retail r lent) why e = cc
unrefused centres s (Draw number) why e = cc
unrefused centres s (Return number shares away) why e = cc
unrefused centres s (Move event) why e = cc
unrefused centres s (Approve member) why e = cc
unrefused centres s (Withdraw member) why e = cc
unrefused centres s (Quotes q) why e = cc

pub unchanged : (centres : ℕ) (s : State) (call : AnyCall) → Unchanged (meet centres s call)
unchanged centres s call =
    refused_or (λ r. Unchanged (met s call r)) (decided (refusals centres s call)) s (accepts centres s call)
    (λ why why' e. refl)
    (λ _ why e. absurd (never (unrefused centres s call why e)))

-- TRADES

refused_trades : (why : Refusal) (t : Trade) → Refused why ≡ Traded t → ⊥
refused_trades why t e = never cc

-- only a Retail Order trades, and its trade is the one that the rules give
retail_only : (centres : ℕ) (s : State) (call : AnyCall) (t : Trade) → (accepts centres s call).0 ≡ Traded t
    → (r : RetailOrder) × (lent : ℕ) × (call ≡ Retail r lent) × (trade_now centres s r ≡ t)
retail_only centres s (Enter o) t e = absurd (never cc)
retail_only centres s (Cancel member number) t e = absurd (never cc)
retail_only centres s (Retail r lent) t e = (r, lent, refl, cc)
retail_only centres s (Draw number) t e = absurd (never cc)
retail_only centres s (Return number shares away) t e = absurd (never cc)
retail_only centres s (Move event) t e = absurd (never cc)
retail_only centres s (Approve member) t e = absurd (never cc)
retail_only centres s (Withdraw member) t e = absurd (never cc)
retail_only centres s (Quotes q) t e = absurd (never cc)

same_order : (r r' : RetailOrder) (n n' : ℕ) → ◌≡◌ {A = AnyCall} (Retail r n) (Retail r' n') → r ≡ r'
same_order r r' n n' e = cc

-- what holds of the trade that the rules give holds of every accepted Retail Order
pub of_trades : (P : State → RetailOrder → Trade → Type 0) (centres : ℕ) (s : State) (call : AnyCall)
    → ((r : RetailOrder) → P s r (trade_now centres s r)) → OfTrades P (meet centres s call)
of_trades P centres s call f =
    refused_or (λ x. OfTrades P (met s call x)) (decided (refusals centres s call)) s (accepts centres s call)
    (λ why r lent t c a. absurd (refused_trades why t a))
    (λ _ r lent t c a.
    let only = retail_only centres s call t a in
    let same : only.0 ≡ r = same_order only.0 r only.1 lent (sym only.2 ∙ c) in
    subst (λ r. P s r t) same (subst (P s only.0) only.3 (f only.0)))

module _ (centres : ℕ) (s : State) (r : RetailOrder) (h : Distinct (λ o. o.number) s.book.resting) where
  apart : Distinct (λ e. e.number) (met_orders centres s r)
  apart = eligible_distinct (best_pair centres s.quotes) r s.book.resting h

  pub most_shares : TradeHasMost centres s r (trade_now centres s r)
  most_shares = (fills_have_most r.side (met_orders centres s r) r.shares apart, refl)

  pub best_cost : TradeCostsBest centres s r (trade_now centres s r)
  best_cost = fills_cost_best r.side (met_orders centres s r) r.shares apart

  pub priority : Priority centres s r (trade_now centres s r)
  priority = fills_keep_priority r.side (met_orders centres s r) r.shares apart

  pub remainder : Remainder s r (trade_now centres s r)
  remainder =
      let most = most_shares.0 in
      (rules_hold (best_pair centres s.quotes) s.book.resting).remains r.kind r.shares (filled (fills_now centres s r)) (omega (arith, most.whole, most.allots.within))

-- IMPROVEMENT

improving : (customer : Side) (p : ℕ) (quote : Option ℕ) → improves least_improvement customer p quote ≡ true
    → (x : ℕ) × (quote ≡ Some x) × (better_by least_improvement customer p x ≡ true)
improving customer p None h = absurd (false≢true h)
improving customer p (Some x) h = (x, refl, h)

-- what is no better than the protected quote is bettered by a price that betters that
beyond : (side customer : Side) (p x price : ℕ) → same_side side (opposite customer) ≡ true → better_by least_improvement customer p x ≡ true → NoBetter side price x → Betters side p price
beyond Buy Buy p x price s b h = absurd (false≢true s)
beyond Buy Sell p x price s b h = omega (arith, leb-true (x + 1) p b)
beyond Sell Buy p x price s b h = omega (arith, leb-true (p + 1) x b)
beyond Sell Sell p x price s b h = absurd (false≢true s)

rpi_allows : (k : OrderKind) (r : RetailOrder) (p : ℕ) (quote : Option ℕ) → k ≡ Rpi → quote_allows k r.kind r.side p quote ≡ true → improves least_improvement r.side p quote ≡ true
rpi_allows k r p quote e h =
    (and_parts (improves least_improvement r.side p quote) (leb lowest_rpi_price p) (subst (λ v. quote_allows v r.kind r.side p quote ≡ true) e h)).0

-- an eligible RPI Order betters every quote shown on its own side, and one is shown
rpi_betters : (centres : ℕ) (q : QuoteState) (r : RetailOrder) (o : RestingOrder) (p : ℕ)
    → eligible_at (best_pair centres q) r o p ≡ true → o.kind ≡ Rpi → BettersQuotes centres q o.side p
rpi_betters centres q r o p h k =
    let own = own_side (best_pair centres q) o.side in
    let allows = quote_allows o.kind r.kind r.side p own in
    let parts = and_parts (same_side o.side (opposite r.side)) (allows && no_worse r.side p r.limit) h in
    let within = and_parts allows (no_worse r.side p r.limit) parts.1 in
    let found = improving r.side p own (rpi_allows o.kind r p own k within.0) in
    let at = sym (own_quote centres q o.side) ∙ found.1 in
    record {
      every = λ centre quote a. beyond o.side r.side p found.0 quote.price parts.0 found.2 (asked_behind centres q o.side centre quote found.0 a at);
      some = let t = one_asked centres q o.side found.0 at in (t.0, t.1, t.2);
    }

pub improvement : (centres : ℕ) (s : State) (r : RetailOrder) → Distinct (λ o. o.number) s.book.resting → Improvement centres s r (trade_now centres s r)
improvement centres s r h =
    let q = best_pair centres s.quotes in
    let os = s.book.resting in
    All-weaker
    (From q r os)
    (Improves centres s)
    (λ f from.
    record {
      from = (from.0, from.1, from.2);
      betters = λ o has e k.
          let same : from.0 ≡ o = same_key (λ o. o.number) os h from.0 o from.1 has (from.2 ∙ sym e) in
          rpi_betters centres s.quotes r o f.price (subst (λ o. eligible_at q r o f.price ≡ true) same from.3) k;
    })
    (fills_now centres s r)
    (fill_from q r os h)

-- all of it
pub trade_law : (centres : ℕ) (s : State) (r : RetailOrder) → Distinct (λ o. o.number) s.book.resting → TradeLaw centres s r (trade_now centres s r)
trade_law centres s r h =
    record {
      most_shares = most_shares centres s r h;
      best_cost = best_cost centres s r h;
      priority = priority centres s r h;
      remainder = remainder centres s r h;
      improvement = improvement centres s r h;
      savings = savings centres s r h;
    }

-- THE FILL LIST

writes : (fs old : List Fill) → length fs ≤ length old → Writes old (written fs old) fs
writes fs old le =
    record {
      front = take-append_seam fs (drop (length fs) old);
      behind = drop-append_seam fs (drop (length fs) old);
      long = simp (length-append, length-drop) (omega arith);
    }

-- the places that are lent suffice
room : (centres : ℕ) (s : State) (r : RetailOrder) (lent : ℕ) → Sound s.book → decided (refusals centres s (Retail r lent)) ≡ None → length (fills_now centres s r) ≤ length s.fill_list
room centres s r lent h p =
    let rows = all_passed (refusals centres s (Retail r lent)) p in
    omega (arith, fills_fit centres s r h, ltb-false (min lent (length s.fill_list)) 256 rows.1.1.1.0)

traded_writes : (centres : ℕ) (s : State) (call : AnyCall) → Sound s.book → decided (refusals centres s call) ≡ None
    → (t : Trade) → (accepts centres s call).0 ≡ Traded t → Writes s.fill_list (accepts centres s call).1.fill_list t.fills
traded_writes centres s (Enter o) h p t e = absurd (never cc)
traded_writes centres s (Cancel member number) h p t e = absurd (never cc)
traded_writes centres s (Retail r lent) h p t e =
    let same : trade_now centres s r ≡ t = cc in
    subst (λ t. Writes s.fill_list (written (fills_now centres s r) s.fill_list) t.fills) same (writes (fills_now centres s r) s.fill_list (room centres s r lent h p))
traded_writes centres s (Draw number) h p t e = absurd (never cc)
traded_writes centres s (Return number shares away) h p t e = absurd (never cc)
traded_writes centres s (Move event) h p t e = absurd (never cc)
traded_writes centres s (Approve member) h p t e = absurd (never cc)
traded_writes centres s (Withdraw member) h p t e = absurd (never cc)
traded_writes centres s (Quotes q) h p t e = absurd (never cc)

pub fill_list : (centres : ℕ) (s : State) (call : AnyCall) → Sound s.book → FillList (meet centres s call)
fill_list centres s call h =
    refused_or (λ x. FillList (met s call x)) (decided (refusals centres s call)) s (accepts centres s call)
    (λ why t a. absurd (refused_trades why t a))
    (traded_writes centres s call h)

kept_otherwise : (centres : ℕ) (s : State) (call : AnyCall) → ((t : Trade) → (accepts centres s call).0 ≡ Traded t → ⊥) → (accepts centres s call).1.fill_list ≡ s.fill_list
kept_otherwise centres s (Enter o) ne = refl
kept_otherwise centres s (Cancel member number) ne = refl
kept_otherwise centres s (Retail r lent) ne = absurd (ne (trade_now centres s r) refl)
kept_otherwise centres s (Draw number) ne = refl
kept_otherwise centres s (Return number shares away) ne = refl
kept_otherwise centres s (Move event) ne = refl
kept_otherwise centres s (Approve member) ne = refl
kept_otherwise centres s (Withdraw member) ne = refl
kept_otherwise centres s (Quotes q) ne = refl

pub fill_list_kept : (centres : ℕ) (s : State) (call : AnyCall) → FillListKept (meet centres s call)
fill_list_kept centres s call =
    refused_or (λ x. FillListKept (met s call x)) (decided (refusals centres s call)) s (accepts centres s call)
    (λ why ne. refl)
    (λ _ ne. kept_otherwise centres s call ne)

-- WHAT AN ACCEPTED CALL CHANGES BESIDES ORDERS AND SLIPS

reached : (next : Option Phase) (phase : Phase) → present next ≡ true → next ≡ Some (or_phase next phase)
reached None phase h = absurd (false≢true h)
reached (Some x) phase h = refl

registers : (before : ℕ → Bool) (member : ℕ) (mark : Bool) → Registers before (λ m. cond (eqb m member) mark (before m)) member mark
registers before member mark =
    (ap (λ b. cond b mark (before member)) (eq-eqb member member refl), (λ other ne. ap (λ b. cond b mark (before other)) (ne_eqb other member ne)))

accepts_changes : (centres : ℕ) (s : State) (call : AnyCall) → decided (refusals centres s call) ≡ None → Changes call s (accepts centres s call).1
accepts_changes centres s (Enter o) p = record { phase = refl; register = refl; numbers = refl; quotes = refl }
accepts_changes centres s (Cancel member number) p = record { phase = refl; register = refl; numbers = refl; quotes = refl }
accepts_changes centres s (Retail r lent) p = record { phase = refl; register = refl; numbers = refl; quotes = refl }
accepts_changes centres s (Draw number) p = record { phase = refl; register = refl; numbers = refl; quotes = refl }
accepts_changes centres s (Return number shares away) p = record { phase = refl; register = refl; numbers = refl; quotes = refl }
accepts_changes centres s (Move event) p =
    let next = phase_after s.book.phase event in
    record { phase = reached next s.book.phase (not-false (present next) (all_passed (refusals centres s (Move event)) p).0); register = refl; numbers = refl; quotes = refl }
accepts_changes centres s (Approve member) p = record { phase = refl; register = registers s.book.approved member true; numbers = refl; quotes = refl }
accepts_changes centres s (Withdraw member) p = record { phase = refl; register = registers s.book.approved member false; numbers = refl; quotes = refl }
accepts_changes centres s (Quotes q) p = record { phase = refl; register = refl; numbers = refl; quotes = refl }

pub changed : (centres : ℕ) (s : State) (call : AnyCall) → Changed (meet centres s call)
changed centres s call =
    refused_or (λ x. Changed (met s call x)) (decided (refusals centres s call)) s (accepts centres s call)
    (λ why ne. absurd (ne why refl))
    (λ p _. accepts_changes centres s call p)
