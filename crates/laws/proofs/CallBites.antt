-- What the law refuses of every call
use Rattle.std.proofs.Common.{◌≡◌, ℕ, ◌<◌, zero, suc, ◌==◌, true, false, None, List, [], ◌∷◌, length, sym, refl, ap, subst, inl, inr, ⊎_elim, arith}
use Rattle.std.specs.List.{ContainsAt as Has, AllByRecursion as Each}
use Rattle.std.proofs.ByRecursion.{all-has, all_has_itself}
use Rattle.terms.specs.declared.orders.NewOrder.{NewOrder}
use Rattle.terms.specs.declared.orders.RestingOrder.{RestingOrder}
use Rattle.terms.specs.declared.orders.Slip.{Slip}
use Rattle.terms.specs.declared.orders.OrderKind.TheVariants.{Rpi}
use Rattle.terms.specs.declared.market.Side.TheVariants.{Buy}
use Rattle.terms.specs.declared.refusals.Refusal.{Refusal}
use Rattle.terms.specs.declared.refusals.Refusal.TheVariants.{OutOfRange, NoSuchOrder}
use Rattle.terms.specs.declared.calls.Call.TheVariants.{Cancel, Approve}
use Rattle.terms.specs.Refusals.{refusal_number}
use Rattle.quotes.specs.Quotes.{Quotes}
use Rattle.laws.specs.Book.{State}
use Rattle.laws.specs.Rows.{AnyCall, Applies, Decides}
use Rattle.laws.specs.Rows.Applies.{out_of_range, wrong_phase, numbers_exhausted}
use Rattle.laws.specs.Routed.{drawn_notes, out_so_far}
use Rattle.laws.specs.Steps.{Met, run, trace}
use Rattle.rules.proofs.Perms.{all_perm}
use Rattle.laws.specs.Law.{Law, RestsAfter, Still, Sent}
use Rattle.laws.specs.Law.RestsAfter.{stayed, came}
use Rattle.laws.specs.CallBites.{halted, first_buy, second_buy, stays_as, rests_as_sent, CallsBite, Said}
use Rattle.laws.proofs.Bites.{one_of_two}
use Rattle.laws.proofs.Out.{length_perm}

said : (centres : ℕ) (s : State) (calls : List AnyCall) (m : Met) → Law centres s calls → Has (trace centres s calls) m → Said centres m
said centres s calls m h has =
    let in_all = λ (P : Met → Type 0) (each : Each P (trace centres s calls)). all-has P (trace centres s calls) m each has in
    record {
      most_shares = in_all _ h.most_shares;
      best_cost = in_all _ h.best_cost;
      priority = in_all _ h.priority;
      remainder = in_all _ h.remainder;
      improvement = in_all _ h.improvement;
      savings = in_all _ h.savings;
      fill_list = in_all _ h.fill_list;
      fill_list_kept = in_all _ h.fill_list_kept;
      refused_by_table = in_all _ h.refused_by_table;
      accepted_by_table = in_all _ h.accepted_by_table;
      unchanged = in_all _ h.unchanged;
      answered = in_all _ h.answered;
      changed = in_all _ h.changed;
      terms_kept = in_all _ h.terms_kept;
    }

-- REFUSALS

-- member 65 is out of range, which is the top row, and nothing is said against member 5
top_row : (why : Refusal) → refusal_number why < 1 → ⊥
top_row why lt = grind arith

no_member_65 : Decides 32 halted (Approve 65) OutOfRange
no_member_65 = record { applies = out_of_range (Approve 65) (inr (omega arith)); first = λ other lt a. top_row other lt }

nothing_applies : (why : Refusal) → Applies 32 halted (Approve 5) why → ⊥
nothing_applies _ (out_of_range _ (inl lt)) = omega (arith, lt)
nothing_applies _ (out_of_range _ (inr lt)) = omega (arith, lt)
nothing_applies _ (wrong_phase _ h) = h
nothing_applies _ (numbers_exhausted _ h le) = h

-- THE ONE ORDER THAT RESTS

abbrev order_1 : RestingOrder
order_1 = record { number = 1; member = 1; side = Buy; kind = Rpi; limit = 10_000; offset = None; shares = 100 }

alike : (f : RestingOrder → ℕ) (o : RestingOrder) → Has halted.book.resting o → f o ≡ f order_1
alike f o (zero, lt, e) = sym (ap f (e o))
alike f o (suc k, lt, e) = omega (arith, lt)

-- THE SLIPS: 2 waits and 3 is out, each of 100 shares

abbrev waits : Slip
waits = record { number = 2; shares = 100; drawn = false }

abbrev is_out : Slip
is_out = record { number = 3; shares = 100; drawn = true }

hundred : (slip : Slip) → Has halted.book.slips slip → slip.shares ≡ 100
hundred slip has = ⊎_elim (λ (e : waits ≡ slip). sym (ap (λ (x : Slip). x.shares) e)) (λ (e : is_out ≡ slip). sym (ap (λ (x : Slip). x.shares) e)) (one_of_two _ _ slip has)

drawn_if_3 : (slip : Slip) → Has halted.book.slips slip → slip.drawn ≡ (slip.number == 3)
drawn_if_3 slip has = ⊎_elim (λ (e : waits ≡ slip). subst (λ (x : Slip). x.drawn ≡ (x.number == 3)) e refl) (λ (e : is_out ≡ slip). subst (λ (x : Slip). x.drawn ≡ (x.number == 3)) e refl) (one_of_two _ _ slip has)

-- TERMS

-- What rests is one of the two orders that rested,
still_one : {o : RestingOrder} (was : RestingOrder) → Has (first_buy ∷ second_buy ∷ []) was → Still was o → 1 < o.number → Still second_buy o
still_one {o} was has still lt =
    ⊎_elim
    (λ (e : first_buy ≡ was). absurd (omega (arith, lt, still.number, ap (λ (x : RestingOrder). x.number) e)))
    (λ (e : second_buy ≡ was). subst (λ (w : RestingOrder). Still w o) (sym e) still)
    (one_of_two _ _ was has)

differs : {o : RestingOrder} → RestsAfter (stays_as o) o → 1 < o.number → (Still second_buy o → ⊥) → ⊥
differs (stayed was has still) lt never = never (still_one was has still lt)
differs (came new call answer sent) lt never = cc

-- or the one that was sent.
abbrev sent_buy : NewOrder
sent_buy = record { member = 1; side = Buy; kind = Rpi; limit = 10_020; offset = None; shares = 100 }

misses : {o : RestingOrder} → RestsAfter (rests_as_sent o) o → 1 < o.number → (2 ≡ o.number → Sent sent_buy o → ⊥) → ⊥
misses (stayed was (zero, at, e) still) lt never = omega (arith, lt, still.number, ap (λ (x : RestingOrder). x.number) (e was))
misses (stayed was (suc k, at, e) still) lt never = omega (arith, at)
misses {o} (came new call answer sent) lt never = let e : sent_buy ≡ new = cc in never (cc) (subst (λ (n : NewOrder). Sent n o) (sym e) sent)

pub calls_bite : CallsBite
calls_bite = record {
  each_day = λ h centres quotes fill_list calls. h centres quotes fill_list calls;
  each_call = said;
  each_moment = λ centres s calls k number h. (h.conservation k number, h.slips_out k);
  list_lost = λ h. omega (arith, ap length (h (λ t is. cc)));
  list_lost_refused = λ h. omega (arith, ap length (h (λ t is. cc)));
  taken_anyway = λ h. let e = (h OutOfRange).if no_member_65 in cc;
  refused_for_nothing = λ h. nothing_applies OutOfRange ((h OutOfRange).only refl).applies;
  refused_by_lower = λ h. ((h NoSuchOrder).only refl).first OutOfRange (omega arith) (out_of_range (Cancel 65 7) (inr (omega arith)));
  accepted_anyway = λ h. h.only (λ why is. cc) OutOfRange no_member_65.applies;
  not_accepted = λ h. h.if nothing_applies OutOfRange refl;
  refused_order_gone = λ h. omega (arith, ap (λ (s : State). length s.book.resting) (h _ refl));
  refused_quotes = λ h. omega (arith, ap (λ (s : State). s.quotes.lot) (h _ refl));
  refused_list = λ h. omega (arith, ap (λ (s : State). length s.fill_list) (h _ refl));
  answered_otherwise = (λ h. let e = h (λ why is. cc) in cc, (λ h. let e = (h (λ why is. cc)).2 in cc, (λ h. let e = h (λ why is. cc) in cc, (λ h. let e = (h (λ why is. cc)).4 in cc, (λ h. let e = (h (λ why is. cc)).4 in cc, (λ h. let e = (h (λ why is. cc)).6 in cc, (λ h. let e = h (λ why is. cc) in cc, (λ h. let e = h (λ why is. cc) in cc, (λ h. let e = h (λ why is. cc) in cc, (λ h. let e = h (λ why is. cc) in cc, (λ h. let e = h (λ why is. cc) in cc, tt)))))))))));
  entry_number = λ h. let e = h (λ why is. cc) in cc;
  entry_shares = λ h. let e = h (λ why is. cc) in cc;
  retail_number = λ h. let e = h (λ why is. cc) in cc;
  cancel_shares = λ h. let a = h (λ why is. cc) in let e = a.4 in let n : 9 ≡ a.0.shares = cc in omega (arith, n, alike (λ o. o.shares) a.0 a.1);
  cancel_of_another = λ h. let a = h (λ why is. cc) in omega (arith, a.3, alike (λ o. o.member) a.0 a.1);
  cancel_of_none = λ h. let a = h (λ why is. cc) in omega (arith, a.2, alike (λ o. o.number) a.0 a.1);
  draw_shares = λ h. let a = h (λ why is. cc) in let e = a.4 in let n : 9 ≡ a.0.shares = cc in omega (arith, n, hundred a.0 a.1);
  drawn_twice = λ h. let a = h (λ why is. cc) in let e = drawn_if_3 a.0 a.1 in let n = a.2 in let d = a.3 in cc;
  away_for_rest = λ h. let e = h (λ why is. cc) in cc;
  rest_lost = λ h. let a = h (λ why is. cc) in let e = a.6 in let n : 0 ≡ a.4 = cc in omega (arith, n, a.5, hundred a.0 a.1);
  returned_undrawn = λ h. let a = h (λ why is. cc) in let e = drawn_if_3 a.0 a.1 in let n = a.2 in let d = a.3 in cc;
  phase_changed = (λ h. let e = (h (λ why is. cc)).phase in cc, (λ h. let e = (h (λ why is. cc)).phase in cc, (λ h. let e = (h (λ why is. cc)).phase in cc, (λ h. let e = (h (λ why is. cc)).phase in cc, (λ h. let e = (h (λ why is. cc)).phase in cc, (λ h. let e = (h (λ why is. cc)).phase in cc, (λ h. let e = (h (λ why is. cc)).phase in cc, (λ h. let e = (h (λ why is. cc)).phase in cc, (λ h. let e = (h (λ why is. cc)).phase in cc, (λ h. let e = (h (λ why is. cc)).phase in cc, (λ h. let e = (h (λ why is. cc)).phase in cc, tt)))))))))));
  register_changed = (λ h. let e = ap (λ f. f 1) (h (λ why is. cc)).register in cc, (λ h. let e = ap (λ f. f 1) (h (λ why is. cc)).register in cc, (λ h. let e = ap (λ f. f 1) (h (λ why is. cc)).register in cc, (λ h. let e = ap (λ f. f 1) (h (λ why is. cc)).register in cc, (λ h. let e = ap (λ f. f 1) (h (λ why is. cc)).register in cc, (λ h. let e = ap (λ f. f 1) (h (λ why is. cc)).register in cc, (λ h. let e = (h (λ why is. cc)).register.0 in cc, (λ h. let e = (h (λ why is. cc)).register.1 1 (omega arith) in cc, (λ h. let e = ap (λ f. f 1) (h (λ why is. cc)).register in cc, (λ h. let e = ap (λ f. f 1) (h (λ why is. cc)).register in cc, (λ h. let e = ap (λ f. f 1) (h (λ why is. cc)).register in cc, tt)))))))))));
  numbers_changed = (λ h. omega (arith, (h (λ why is. cc)).numbers), (λ h. omega (arith, (h (λ why is. cc)).numbers), (λ h. omega (arith, (h (λ why is. cc)).numbers), (λ h. omega (arith, (h (λ why is. cc)).numbers), (λ h. omega (arith, (h (λ why is. cc)).numbers), (λ h. omega (arith, (h (λ why is. cc)).numbers), (λ h. omega (arith, (h (λ why is. cc)).numbers), (λ h. omega (arith, (h (λ why is. cc)).numbers), (λ h. omega (arith, (h (λ why is. cc)).numbers), (λ h. omega (arith, (h (λ why is. cc)).numbers), (λ h. omega (arith, (h (λ why is. cc)).numbers), tt)))))))))));
  quotes_changed = (λ h. omega (arith, ap (λ (q : Quotes). q.lot) (h (λ why is. cc)).quotes), (λ h. omega (arith, ap (λ (q : Quotes). q.lot) (h (λ why is. cc)).quotes), (λ h. omega (arith, ap (λ (q : Quotes). q.lot) (h (λ why is. cc)).quotes), (λ h. omega (arith, ap (λ (q : Quotes). q.lot) (h (λ why is. cc)).quotes), (λ h. omega (arith, ap (λ (q : Quotes). q.lot) (h (λ why is. cc)).quotes), (λ h. omega (arith, ap (λ (q : Quotes). q.lot) (h (λ why is. cc)).quotes), (λ h. omega (arith, ap (λ (q : Quotes). q.lot) (h (λ why is. cc)).quotes), (λ h. omega (arith, ap (λ (q : Quotes). q.lot) (h (λ why is. cc)).quotes), (λ h. omega (arith, ap (λ (q : Quotes). q.lot) (h (λ why is. cc)).quotes), (λ h. omega (arith, ap (λ (q : Quotes). q.lot) (h (λ why is. cc)).quotes), (λ h. omega (arith, ap (λ (q : Quotes). q.lot) (h (λ why is. cc)).quotes), tt)))))))))));
  not_opened = λ h. let e = (h (λ why is. cc)).phase in cc;
  entry_not_numbered = λ h. omega (arith, (h (λ why is. cc)).numbers);
  retail_not_numbered = λ h. omega (arith, (h (λ why is. cc)).numbers);
  quote_not_told = λ h. let e = ap (λ (q : Quotes). q.table 1 Buy) (h (λ why is. cc)).quotes in cc;
  not_approved = λ h. let e = (h (λ why is. cc)).register.0 in cc;
  others_withdrawn = λ h. let e = (h (λ why is. cc)).register.1 1 (omega arith) in cc;
  not_withdrawn = λ h. let e = (h (λ why is. cc)).register.0 in cc;
  terms_changed = (λ h. differs h.1.0 (omega arith) (λ s. omega (arith, s.number)), (λ h. differs h.1.0 (omega arith) (λ s. omega (arith, s.member)), (λ h. differs h.1.0 (omega arith) (λ s. let e = s.side in cc), (λ h. differs h.1.0 (omega arith) (λ s. let e = s.kind in cc), (λ h. differs h.1.0 (omega arith) (λ s. omega (arith, s.limit)), (λ h. differs h.1.0 (omega arith) (λ s. let e = s.offset in cc), (λ h. differs h.1.0 (omega arith) (λ s. omega (arith, s.shares)), tt)))))));
  sent_otherwise = (λ h. misses h.1.0 (omega arith) (λ n s. omega (arith, n)), (λ h. misses h.1.0 (omega arith) (λ n s. omega (arith, s.member)), (λ h. misses h.1.0 (omega arith) (λ n s. let e = s.side in cc), (λ h. misses h.1.0 (omega arith) (λ n s. let e = s.kind in cc), (λ h. misses h.1.0 (omega arith) (λ n s. omega (arith, s.limit)), (λ h. misses h.1.0 (omega arith) (λ n s. let e = s.offset in cc), (λ h. misses h.1.0 (omega arith) (λ n s. omega (arith, s.shares)), tt)))))));
  shares_lost = λ e. omega (arith, e);
  shares_gained = λ e. omega (arith, e);
  slip_of_nobody = λ e. omega (arith, e);
  never_drawn = λ p. omega (arith, length_perm p);
  none_forgotten = λ centres s calls note p has. all-has (Has (drawn_notes (run centres s calls).book.slips)) (out_so_far (trace centres s calls)) note (all_perm (Has (drawn_notes (run centres s calls).book.slips)) p (all_has_itself (drawn_notes (run centres s calls).book.slips))) has;
}
