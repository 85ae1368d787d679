-- Conservation of one call: what it enters and what the book held is what its answer names and what the book holds then
use Rattle.std.proofs.Common.{◌≡◌, ℕ, ◌+◌, ◌-◌, ◌≤◌, Bool, true, false, cond, not, ◌&&◌, eqb, ◌⊎◌, List, [], ◌∷◌, ◌++◌, map, None, filter, sym, refl, ap, ◌∙◌, subst, inl, inr, ⊎_elim, arith}
use Rattle.std.specs.List.{ContainsAt as Has, AllByRecursion as Each}
use Rattle.std.proofs.ByRecursion.{All-weaker, All-push, all_kept_by}
use Rattle.std.proofs.lemmas.Bool.{cond_both, cond-true, cond-false, cases_Bool, eqb-true, eqb-false, eq-eqb, ne_eqb, ltb-false, not-false, true≢false}
use Rattle.terms.specs.declared.orders.NewOrder.{NewOrder}
use Rattle.terms.specs.declared.orders.RestingOrder.{RestingOrder}
use Rattle.terms.specs.declared.orders.RetailOrder.{RetailOrder}
use Rattle.terms.specs.declared.orders.Ranked.{Ranked}
use Rattle.terms.specs.declared.orders.Fill.{Fill}
use Rattle.terms.specs.declared.orders.Slip.{Slip}
use Rattle.terms.specs.declared.refusals.Refusal.TheVariants.{OutOfRange, NoSuchOrder, NoWaitingSlip}
use Rattle.terms.specs.declared.calls.Call.TheVariants.{Enter, Cancel, Retail, Draw, Return, Move, Approve, Withdraw, Quotes}
use Rattle.terms.specs.Limits.{is_member}
use Rattle.quotes.specs.Quotes.{best_pair}
use Rattle.rules.specs.Lists.{Distinct, found, any, read}
use Rattle.rules.specs.Rules.{BestPair, candidate, eligible, sequence, ahead, fills, filled, filled_to}
use Rattle.rules.proofs.Members.{sum_push, all_both, all_in, all_picked, same_key}
use Rattle.rules.proofs.Sorting.{all_sort}
use Rattle.rules.proofs.Greedy.{filled_to_none}
use Rattle.rules.proofs.Relations.{rules_hold}
use Rattle.laws.specs.Book.{Book, State, Trade, Answer, next_number, rests_as, is_order, order_shares, trade_now, after_fills, with_slip, is_waiting, is_drawn, slip_shares, drawn_if}
use Rattle.laws.specs.Rows.{AnyCall, refusals, decided}
use Rattle.laws.specs.Steps.{accepts, unless, step}
use Rattle.laws.specs.Law.{if_its, gives, asking, named, in_hand, cancel_would, draw_would}
use Rattle.laws.specs.Sound.{InRange, Sound}
use Rattle.laws.proofs.Eligible.{Of, of_number, of_shares, candidate_number, eligible_from, most_now}
use Rattle.laws.proofs.Soundness.{refused_or, all_passed, all_after, distinct, slips_distinct}
use Rattle.laws.proofs.Counts.{rests, waits, outs, is_out, if_its_parts, cond_none, cancel_sum, after_sum, taken_sum, rests_found, rests_none, waits_found, draw_sum, draw_other, draw_own, return_waits, return_outs, return_own, not_found}

-- what the book holds of a number
abbrev pub holds : ℕ → Book → ℕ
holds n b = rests n b.resting + (waits n b.slips + outs n b.slips)

-- its orders of that number are that member's
abbrev pub Owned : (n member : ℕ) → Book → Type 0
Owned n member b = Each (λ o. o.number ≡ n → o.member ≡ member) b.resting

-- what one call enters, names and leaves of a number
pub record Kept (n member : ℕ) (b : Book) (call : AnyCall) (r : Answer × State) : Type 0 where
  pub balance : cond (gives n r.0) (asking call).shares 0 + holds n b ≡ (named n r.0).filled + (named n r.0).cancelled + (named n r.0).away + holds n r.1.book
  pub hand : outs n r.1.book.slips ≡ in_hand n (outs n b.slips) r.0
  pub owned : Owned n member b → Owned n (cond (gives n r.0) (asking call).member member) r.1.book

-- A FILL LIST AND THE BOOK

module _ (q : BestPair) (r : RetailOrder) (os : List RestingOrder) (d : Distinct (λ o. o.number) os) where
  abbrev es : List Ranked
  es = eligible q r os

  abbrev fs : List Fill
  fs = fills r.side es r.shares

  -- no fill names a number that is not eligible
  unnamed : (n : ℕ) → Each (λ e. e.number ≡ n → ⊥) es → filled_to fs n ≡ 0
  unnamed n h = filled_to_none (sequence r.side es) r.shares n (all_sort (ahead r.side) (λ e. e.number ≡ n → ⊥) es h)

  pub not_resting : (n : ℕ) → Each (λ o. o.number ≡ n → ⊥) os → filled_to fs n ≡ 0
  not_resting n h =
      unnamed n (all_picked (candidate q r) (λ o. o.number ≡ n → ⊥) (λ e. e.number ≡ n → ⊥) (λ o e ne c i. ne (sym (candidate_number q r o e c) ∙ i)) os h)

  -- a number is none of the eligible, or one is it
  named_or_not : (k : ℕ) (xs : List Ranked) (P : Ranked → Type 0) → Each P xs → Each (λ e. e.number ≡ k → ⊥) xs ⊎ ((e : Ranked) × P e × (e.number ≡ k))
  named_or_not k [] P h = inl tt
  named_or_not k (x ∷ xs) P h =
      ⊎_elim
      (λ t. inr (x, h.0, eqb-true x.number k t))
      (λ f. ⊎_elim (λ none. inl (eqb-false x.number k f, none)) (λ one. inr one) (named_or_not k xs P h.1))
      (cases_Bool (eqb x.number k))

  -- no order gives more than it has
  pub no_more : Each (λ o. filled_to fs o.number ≤ o.shares) os
  no_more =
      all_in (λ o. filled_to fs o.number ≤ o.shares) os
      (λ o ho.
      ⊎_elim
      (λ none. omega (arith, unnamed o.number none))
      (λ one.
      let e = one.0 in
      let back = one.1.1 in
      let same : back.0 ≡ o = same_key (λ o. o.number) os d back.0 o back.1 ho (sym (of_number q r back.0 e back.2) ∙ one.2) in
      let le : filled_to fs o.number ≤ e.shares = subst (λ k. filled_to fs k ≤ e.shares) one.2 one.1.0 in
      omega (arith, of_shares q r back.0 e back.2, ap (λ o. o.shares) same))
      (named_or_not o.number es (λ e. (filled_to fs e.number ≤ e.shares) × ((o : RestingOrder) × Has os o × Of q r o e))
      (all_both (λ e. filled_to fs e.number ≤ e.shares) (λ e. (o : RestingOrder) × Has os o × Of q r o e) (λ e. (filled_to fs e.number ≤ e.shares) × ((o : RestingOrder) × Has os o × Of q r o e))
      (λ e a b. (a, b)) es (most_now q r os d).allots.each (eligible_from q r os))))

  pub rests_less : (n : ℕ) → rests n os ≡ filled_to fs n + rests n (after_fills fs os)
  rests_less n = omega (arith, after_sum n fs os no_more, taken_sum n fs os d (not_resting n))

  pub filled_within : filled fs ≤ r.shares
  filled_within = let b = most_now q r os d in omega arith

-- EACH CALL

next_not : (last n k : ℕ) → k ≤ last → k ≡ n → eqb (last + 1) n ≡ false
next_not last n k le e = ne_eqb (last + 1) n (λ x. omega arith)

kept_entered : (n member centres : ℕ) (s : State) (o : NewOrder) → Sound s.book
    → Kept n member s.book (Enter o) (accepts centres s (Enter o))
kept_entered n member centres s o h =
    let b = s.book in
    record {
      balance = omega (arith, sum_push (λ o. if_its n o.number o.shares) b.resting (rests_as (next_number b) o));
      hand = refl;
      owned = λ own. All-push (λ x. x.number ≡ n → x.member ≡ cond (eqb (next_number b) n) o.member member) b.resting (rests_as (next_number b) o)
          (all_both (λ x. x.number ≤ b.last) (λ x. x.number ≡ n → x.member ≡ member) (λ x. x.number ≡ n → x.member ≡ cond (eqb (next_number b) n) o.member member)
          (λ x le own e. own e ∙ sym (cond-false (eqb (next_number b) n) o.member member (next_not b.last n x.number le e))) b.resting h.given own)
          (λ e. sym (cond-true (eqb (next_number b) n) o.member member (eq-eqb (next_number b) n e)));
    }

kept_cancelled : (n member centres : ℕ) (s : State) (who number : ℕ) → Sound s.book → Kept n member s.book (Cancel who number) (accepts centres s (Cancel who number))
kept_cancelled n member centres s who number h =
    let b = s.book in
    record {
      balance = omega (arith, cancel_sum n who number b.resting (distinct b h));
      hand = refl;
      owned = λ own. all_kept_by (λ o. not (is_order who number o)) (λ o. o.number ≡ n → o.member ≡ member) b.resting own;
    }

-- the slip of a remainder
slip_waits : (n : ℕ) (slips : List Slip) (t : Trade) → waits n (with_slip slips t) ≡ waits n slips + if_its n t.number t.waiting
slip_waits n slips t =
    let new : Slip = record { number = t.number; shares = t.waiting; drawn = false } in
    cond_both (eqb t.waiting 0) slips (slips ++ new ∷ []) (λ l. waits n l ≡ waits n slips + if_its n t.number t.waiting)
    (λ e. omega (arith, ap (λ v. if_its n t.number v) (eqb-true t.waiting 0 e) ∙ cond_none (eqb t.number n)))
    (λ _. omega (arith, sum_push (λ x. cond (is_waiting n x) x.shares 0) slips new, also (eqb t.number n) t.waiting))
  where
    also : (b : Bool) (x : ℕ) → cond (b && true) x 0 ≡ cond b x 0
    also true x = refl
    also false x = refl

slip_outs : (n : ℕ) (slips : List Slip) (t : Trade) → outs n (with_slip slips t) ≡ outs n slips
slip_outs n slips t =
    let new : Slip = record { number = t.number; shares = t.waiting; drawn = false } in
    cond_both (eqb t.waiting 0) slips (slips ++ new ∷ []) (λ l. outs n l ≡ outs n slips)
    (λ _. refl)
    (λ _. omega (arith, sum_push (λ x. cond (is_out n x) x.shares 0) slips new, none (eqb t.number n) t.waiting))
  where
    none : (b : Bool) (x : ℕ) → cond (b && false) x 0 ≡ 0
    none true x = refl
    none false x = refl

kept_traded : (n member centres : ℕ) (s : State) (r : RetailOrder) (lent : ℕ) → Sound s.book
    → Kept n member s.book (Retail r lent) (accepts centres s (Retail r lent))
kept_traded n member centres s r lent h =
    let b = s.book in
    let q = best_pair centres s.quotes in
    let t = trade_now centres s r in
    let fs = t.fills in
    let le = filled_within q r b.resting (distinct b h) in
    let parts = if_its_parts (eqb (next_number b) n) r.shares t.filled t.cancelled t.waiting ((rules_hold q b.resting).remains r.kind r.shares (filled fs) le).all in
    record {
      balance = omega (arith, rests_less q r b.resting (distinct b h) n, slip_waits n b.slips t, slip_outs n b.slips t);
      hand = slip_outs n b.slips t;
      owned = λ own.
          all_after (λ x. x.number ≡ n → x.member ≡ cond (eqb (next_number b) n) r.member member) (λ x. x.number ≡ n → x.member ≡ cond (eqb (next_number b) n) r.member member)
          (λ o k _ _ f. f) fs b.resting
          (all_both (λ x. x.number ≤ b.last) (λ x. x.number ≡ n → x.member ≡ member) (λ x. x.number ≡ n → x.member ≡ cond (eqb (next_number b) n) r.member member)
          (λ x le own e. own e ∙ sym (cond-false (eqb (next_number b) n) r.member member (next_not b.last n x.number le e))) b.resting h.given own);
    }

kept_drawn : (n member centres : ℕ) (s : State) (number : ℕ) → Sound s.book → any (is_waiting number) s.book.slips ≡ true
    → Kept n member s.book (Draw number) (accepts centres s (Draw number))
kept_drawn n member centres s number h there =
    let b = s.book in
    let shares = slip_shares b number in
    record {
      balance = omega (arith, draw_sum n number b.slips);
      hand = ⊎_elim
          (λ t.
          let same : number ≡ n = eqb-true number n t in
          subst (λ k. outs k (map (drawn_if number) b.slips) ≡ shares) same (draw_own number b.slips (slips_distinct b h) there)
          ∙ sym (cond-true (eqb number n) shares (outs n b.slips) t))
          (λ f. draw_other n number b.slips (eqb-false number n f) ∙ sym (cond-false (eqb number n) shares (outs n b.slips) f))
          (cases_Bool (eqb number n));
      owned = λ own. own;
    }

two_named : (b : Bool) (shares away : ℕ) → away ≤ shares → cond b shares 0 ≡ cond b (shares - away) 0 + cond b away 0
two_named true shares away h = omega arith
two_named false shares away h = omega arith

kept_returned : (n member centres : ℕ) (s : State) (number shares away : ℕ) → Sound s.book → any (is_drawn number shares) s.book.slips ≡ true → away ≤ shares
    → Kept n member s.book (Return number shares away) (accepts centres s (Return number shares away))
kept_returned n member centres s number shares away h there le =
    let b = s.book in
    let stay = filter (λ slip. not (is_drawn number shares slip)) b.slips in
    let lost = return_outs number shares n b.slips (slips_distinct b h) there in
    record {
      balance = omega (arith, return_waits number shares n b.slips, two_named (eqb number n) shares away le);
      hand = ⊎_elim
          (λ t. subst (λ k. outs k stay ≡ 0) (eqb-true number n t) (return_own number shares b.slips (slips_distinct b h) there) ∙ sym (cond-true (eqb number n) 0 (outs n b.slips) t))
          (λ f. omega (arith, cond-false (eqb number n) shares 0 f, cond-false (eqb number n) 0 (outs n b.slips) f))
          (cases_Bool (eqb number n));
      owned = λ own. own;
    }

kept_accepted : (n member centres : ℕ) (s : State) (call : AnyCall) → Sound s.book → decided (refusals centres s call) ≡ None
    → Kept n member s.book call (accepts centres s call)
kept_accepted n member centres s (Enter o) h p = kept_entered n member centres s o h
kept_accepted n member centres s (Cancel who number) h p = kept_cancelled n member centres s who number h
kept_accepted n member centres s (Retail r lent) h p = kept_traded n member centres s r lent h
kept_accepted n member centres s (Draw number) h p =
    kept_drawn n member centres s number h (not-false (any (is_waiting number) s.book.slips) (all_passed (refusals centres s (Draw number)) p).0)
kept_accepted n member centres s (Return number shares away) h p =
    let rows = all_passed (refusals centres s (Return number shares away)) p in
    kept_returned n member centres s number shares away h (not-false (any (is_drawn number shares) s.book.slips) rows.0) (ltb-false shares away rows.1.0)
kept_accepted n member centres s (Move event) h p = record { balance = omega arith; hand = refl; owned = λ own. own }
kept_accepted n member centres s (Approve who) h p = record { balance = omega arith; hand = refl; owned = λ own. own }
kept_accepted n member centres s (Withdraw who) h p = record { balance = omega arith; hand = refl; owned = λ own. own }
kept_accepted n member centres s (Quotes q) h p = record { balance = omega arith; hand = refl; owned = λ own. own }

pub kept_step : (n member centres : ℕ) (s : State) (call : AnyCall) → Sound s.book → Kept n member s.book call (step centres s call)
kept_step n member centres s call h =
    refused_or (Kept n member s.book call) (decided (refusals centres s call)) s (accepts centres s call)
    (λ why. record { balance = omega arith; hand = refl; owned = λ own. own })
    (kept_accepted n member centres s call h)

-- WHAT A CANCEL AND A DRAW WOULD ANSWER

pub cancel_tells : (centres : ℕ) (s : State) (member n : ℕ) → Sound s.book → Owned n member s.book → cancel_would centres s member n ≡ rests n s.book.resting
cancel_tells centres s member n h own = go (is_member member) refl (any (is_order member n) os) refl
  where
    os : List RestingOrder
    os = s.book.resting

    there : rests n os ≡ read (λ o. o.shares) 0 (found (is_order member n) os)
    there = rests_found n member os (distinct s.book h) own

    answer : Bool → Bool → ℕ
    answer a b = (named n (unless (decided ((not a, OutOfRange) ∷ (not b, NoSuchOrder) ∷ [])) s (accepts centres s (Cancel member n))).0).cancelled

    strange : is_member member ≡ false → rests n os ≡ 0
    strange e =
        rests_none n os
        (all_both (λ o. is_member o.member ≡ true) (λ o. o.number ≡ n → o.member ≡ member) (λ o. o.number ≡ n → ⊥)
        (λ o ok own k. true≢false (sym ok ∙ (ap is_member (own k) ∙ e))) os (All-weaker InRange (λ o. is_member o.member ≡ true) (λ o k. k.member_good) os h.in_range) own)

    go : (a : Bool) → is_member member ≡ a → (b : Bool) → any (is_order member n) os ≡ b → answer a b ≡ rests n os
    go true e true f = cond-true (eqb n n) (order_shares s.book member n) 0 (eq-eqb n n refl) ∙ sym there
    go true e false f = sym (there ∙ ap (read (λ o. o.shares) 0) (not_found (is_order member n) os f))
    go false e b f = sym (strange e)

pub draw_tells : (centres : ℕ) (s : State) (n : ℕ) → Sound s.book → draw_would centres s n ≡ waits n s.book.slips
draw_tells centres s n h = go (any (is_waiting n) slips) refl
  where
    slips : List Slip
    slips = s.book.slips

    there : waits n slips ≡ read (λ x. x.shares) 0 (found (is_waiting n) slips)
    there = waits_found n slips (slips_distinct s.book h)

    answer : Bool → ℕ
    answer b = in_hand n 0 (unless (decided ((not b, NoWaitingSlip) ∷ [])) s (accepts centres s (Draw n))).0

    go : (b : Bool) → any (is_waiting n) slips ≡ b → answer b ≡ waits n slips
    go true f = cond-true (eqb n n) (slip_shares s.book n) 0 (eq-eqb n n refl) ∙ sym there
    go false f = sym (there ∙ ap (read (λ x. x.shares) 0) (not_found (is_waiting n) slips f))
