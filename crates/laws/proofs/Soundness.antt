-- The book is sound at all times
use Rattle.std.proofs.Common.{◌≡◌, ℕ, ◌+◌, ◌-◌, ◌<◌, ◌≤◌, Bool, true, false, cond, not, ◌&&◌, eqb, leb, List, [], ◌∷◌, ◌++◌, map, length, Some, None, filter, Option, refl, arith}
use lib.ListN.{length-map}
use Rattle.std.specs.List.{AllByRecursion as Each}
use Rattle.std.proofs.ByRecursion.{All-weaker, All-push, All-map, all_kept_by}
use Rattle.std.proofs.lemmas.List.Filters.{length-filter_both}
use Rattle.std.proofs.lemmas.List.{length_push}
use Rattle.std.proofs.lemmas.Bool.{cond_both, and_parts, not-false, leb-false, true≢false}
use Rattle.std.proofs.lemmas.Bool.Decides.{nat_tests}
use Rattle.terms.specs.declared.orders.NewOrder.{NewOrder}
use Rattle.terms.specs.declared.orders.RestingOrder.{RestingOrder}
use Rattle.terms.specs.declared.orders.RetailOrder.{RetailOrder}
use Rattle.terms.specs.declared.orders.Fill.{Fill}
use Rattle.terms.specs.declared.orders.Slip.{Slip}
use Rattle.terms.specs.declared.orders.Phase.{Phase}
use Rattle.terms.specs.declared.refusals.Refusal.{Refusal}
use Rattle.terms.specs.declared.calls.Call.TheVariants.{Enter, Cancel, Retail, Draw, Return, Move, Approve, Withdraw, Quotes}
use Rattle.terms.specs.Limits.{is_price, is_order_size, is_member}
use Rattle.rules.specs.Lists.{Distinct, present}
use Rattle.rules.specs.Rules.{filled_to, filled, with_shares, routable}
use Rattle.rules.proofs.Members.{all_both}
use Rattle.laws.specs.Book.{Book, State, Answer, phase_after, or_phase, next_number, rests_as, after_entry, is_order, after_cancel, after_fills, trade_now, after_trade, is_drawn, drawn_if, after_draw, after_return, empty_book, start}
use Rattle.laws.specs.Book.Answer.{Refused}
use Rattle.laws.specs.Rows.{AnyCall, offset_in_range, entry_in_range, is_ordinary, broken_cent, refusals, decided}
use Rattle.laws.specs.Steps.{accepts, unless, step, run}
use Rattle.laws.specs.Sound.{Rises, InRange, Sound, StaysSound, AlwaysSound}

none_some : {X : Type 0} (x : X) → ◌≡◌ {A = Option X} (Some x) None → ⊥
none_some x e = let z : ◌≡◌ {A = ℕ} 0 1 = cc in omega arith

-- a call is refused, or accepted
pub refused_or : (P : Answer × State → Type 0) (d : Option Refusal) (s : State) (done : Answer × State)
    → ((why : Refusal) → P (Refused why, s)) → (d ≡ None → P done) → P (unless d s done)
refused_or P None s done f g = g refl
refused_or P (Some why) s done f g = f why

-- no row refused it
row_passed : (b : Bool) (why : Refusal) (rest : Option Refusal) → cond b (Some why) rest ≡ None → (b ≡ false) × (rest ≡ None)
row_passed true why rest h = absurd (none_some why h)
row_passed false why rest h = (refl, h)

pub all_passed : (rows : List (Bool × Refusal)) → decided rows ≡ None → Each (λ row. row.0 ≡ false) rows
all_passed [] h = tt
all_passed (row ∷ rows) h = let p = row_passed row.0 row.1 (decided rows) h in (p.0, all_passed rows p.1)

-- RISING KEYS

module _ {X : Type 0} (key : X → ℕ) where
  pub distinct_rising : (xs : List X) → Rises key xs → Distinct key xs
  distinct_rising [] h = tt
  distinct_rising (x ∷ xs) h = (All-weaker (λ y. key x < key y) (λ y. key y ≡ key x → ⊥) (λ y lt e. omega arith) xs h.0, distinct_rising xs h.1)

  rises_push : (last : ℕ) (xs : List X) (x : X) → Rises key xs → Each (λ y. key y ≤ last) xs → key x ≡ last + 1 → Rises key (xs ++ x ∷ [])
  rises_push last [] x r h e = (tt, tt)
  rises_push last (y ∷ ys) x r h e = (All-push (λ z. key y < key z) ys x r.0 (omega arith), rises_push last ys x r.1 h.1 e)

  rises_kept : (p : X → Bool) (xs : List X) → Rises key xs → Rises key (filter p xs)
  rises_kept p [] r = tt
  rises_kept p (x ∷ xs) r =
      cond_both (p x) (x ∷ filter p xs) (filter p xs) (Rises key)
      (λ _. (all_kept_by p (λ y. key x < key y) xs r.0, rises_kept p xs r.1))
      (λ _. rises_kept p xs r.1)

length_kept : {X : Type 0} (p : X → Bool) (xs : List X) → length (filter p xs) ≤ length xs
length_kept p xs = omega (arith, length-filter_both p (λ x. not (p x)) (λ _. refl) xs)

-- numbers given before are not the next
not_next : {X : Type 0} (key : X → ℕ) (last : ℕ) (xs : List X) → Each (λ x. key x ≤ last) xs → Each (λ x. key x ≡ last + 1 → ⊥) xs
not_next key last xs h = All-weaker (λ x. key x ≤ last) (λ x. key x ≡ last + 1 → ⊥) (λ x le e. omega arith) xs h

later : {X : Type 0} (key : X → ℕ) (last : ℕ) (xs : List X) → Each (λ x. key x ≤ last) xs → Each (λ x. key x ≤ last + 1) xs
later key last xs h = All-weaker (λ x. key x ≤ last) (λ x. key x ≤ last + 1) (λ x le. omega arith) xs h

-- ORDERS AFTER SOME FILLS

-- what holds of an order holds of it with its remaining shares
pub all_after : (P Q : RestingOrder → Type 0) → ((o : RestingOrder) (n : ℕ) → n ≤ o.shares → eqb n 0 ≡ false → P o → Q (with_shares o n))
    → (fs : List Fill) (os : List RestingOrder) → Each P os → Each Q (after_fills fs os)
all_after P Q f fs [] h = tt
all_after P Q f fs (o ∷ os) h =
    let left = o.shares - filled_to fs o.number in
    cond_both (eqb left 0) (after_fills fs os) (with_shares o left ∷ after_fills fs os) (Each Q)
    (λ _. all_after P Q f fs os h.1)
    (λ e. (f o left (omega arith) e h.0, all_after P Q f fs os h.1))

rises_after : (fs : List Fill) (os : List RestingOrder) → Rises (λ o. o.number) os → Rises (λ o. o.number) (after_fills fs os)
rises_after fs [] r = tt
rises_after fs (o ∷ os) r =
    let left = o.shares - filled_to fs o.number in
    cond_both (eqb left 0) (after_fills fs os) (with_shares o left ∷ after_fills fs os) (Rises (λ o. o.number))
    (λ _. rises_after fs os r.1)
    (λ _. (all_after (λ p. o.number < p.number) (λ p. o.number < p.number) (λ p n _ _ h. h) fs os r.0, rises_after fs os r.1))

length_after : (fs : List Fill) (os : List RestingOrder) → length (after_fills fs os) ≤ length os
length_after fs [] = omega arith
length_after fs (o ∷ os) =
    let left = o.shares - filled_to fs o.number in
    cond_both (eqb left 0) (after_fills fs os) (with_shares o left ∷ after_fills fs os) (λ l. length l ≤ length (o ∷ os))
    (λ _. omega (arith, length_after fs os)) (λ _. omega (arith, length_after fs os))

fewer_shares : (o : RestingOrder) (n : ℕ) → n ≤ o.shares → eqb n 0 ≡ false → InRange o → InRange (with_shares o n)
fewer_shares o n le e h =
    record {
      member_good = h.member_good;
      limit_good = h.limit_good;
      offset_good = h.offset_good;
      shares_good = fewer o.shares h.shares_good le;
      whole_cent = h.whole_cent;
      rpi_offset = h.rpi_offset;
    }
  where
    fewer : (most : ℕ) → is_order_size most ≡ true → n ≤ most → is_order_size n ≡ true
    fewer most good le = grind (arith, nat_tests)

-- SLIPS AFTER A DRAW

rises_drawn : (n : ℕ) (slips : List Slip) → Rises (λ slip. slip.number) slips → Rises (λ slip. slip.number) (map (drawn_if n) slips)
rises_drawn n [] r = tt
rises_drawn n (x ∷ xs) r = (All-map (λ y. x.number < y.number) (drawn_if n) xs r.0, rises_drawn n xs r.1)

-- EACH CALL

enters_in_range : (o : NewOrder) (n : ℕ) → entry_in_range o ≡ true → is_ordinary o.kind && broken_cent o.limit ≡ false → is_ordinary o.kind && present o.offset ≡ false
    → InRange (rests_as n o)
enters_in_range o n h c f =
    let p = is_price o.limit in
    let t = offset_in_range o.offset in
    let z = is_order_size o.shares in
    let all = and_parts (is_member o.member) (p && (t && z)) h in
    let three = and_parts p (t && z) all.1 in
    let two = and_parts t z three.1 in
    record { member_good = all.0; limit_good = three.0; offset_good = two.0; shares_good = two.1; whole_cent = c; rpi_offset = f }

sound_entered : (centres : ℕ) (s : State) (o : NewOrder) → Sound s.book → decided (refusals centres s (Enter o)) ≡ None → Sound (after_entry s.book o)
sound_entered centres s o h passed =
    let b = s.book in
    let rows = all_passed (refusals centres s (Enter o)) passed in
    let new = rests_as (next_number b) o in
    record {
      rises = rises_push (λ o. o.number) b.last b.resting new h.rises h.given refl;
      given = All-push (λ o. o.number ≤ b.last + 1) b.resting new (later (λ o. o.number) b.last b.resting h.given) (omega arith);
      in_range = All-push InRange b.resting new h.in_range (enters_in_range o (next_number b) (not-false (entry_in_range o) rows.0) rows.1.0 rows.1.1.0);
      slips_rise = h.slips_rise;
      slips_given = later (λ slip. slip.number) b.last b.slips h.slips_given;
      slips_hold = h.slips_hold;
      apart = All-push (λ o. Each (λ slip. slip.number ≡ o.number → ⊥) b.slips) b.resting new h.apart (not_next (λ slip. slip.number) b.last b.slips h.slips_given);
      orders_fit = omega (arith, length_push b.resting new, leb-false 256 (length b.resting) rows.1.1.1.1.0);
      slips_fit = h.slips_fit;
      numbers_fit = omega (arith, leb-false 500_000 b.last rows.1.1.1.1.1.0);
    }

sound_cancelled : (b : Book) (member number : ℕ) → Sound b → Sound (after_cancel b member number)
sound_cancelled b member number s =
    let stays = λ (o : RestingOrder). not (is_order member number o) in
    record {
      rises = rises_kept (λ o. o.number) stays b.resting s.rises;
      given = all_kept_by stays (λ o. o.number ≤ b.last) b.resting s.given;
      in_range = all_kept_by stays InRange b.resting s.in_range;
      slips_rise = s.slips_rise;
      slips_given = s.slips_given;
      slips_hold = s.slips_hold;
      apart = all_kept_by stays (λ o. Each (λ slip. slip.number ≡ o.number → ⊥) b.slips) b.resting s.apart;
      orders_fit = omega (arith, length_kept stays b.resting);
      slips_fit = s.slips_fit;
      numbers_fit = s.numbers_fit;
    }

-- a remainder waits only where there is room for its slip
room : (k : Bool) (rest n : ℕ) → eqb (cond k rest 0) 0 ≡ false → k && leb 32 n ≡ false → n < 32
room true rest n e h = leb-false 32 n h
room false rest n e h = absurd (true≢false e)

sound_traded : (centres : ℕ) (s : State) (r : RetailOrder) (lent : ℕ) → Sound s.book → decided (refusals centres s (Retail r lent)) ≡ None
    → Sound (after_trade s.book (trade_now centres s r))
sound_traded centres s r lent h passed =
    let b = s.book in
    let rows = all_passed (refusals centres s (Retail r lent)) passed in
    let t = trade_now centres s r in
    let fs = t.fills in
    let new : Slip = record { number = t.number; shares = t.waiting; drawn = false } in
    let older = later (λ (slip : Slip). slip.number) b.last b.slips h.slips_given in
    record {
      rises = rises_after fs b.resting h.rises;
      given = all_after (λ o. o.number ≤ b.last + 1) (λ o. o.number ≤ b.last + 1) (λ o n _ _ k. k) fs b.resting (later (λ o. o.number) b.last b.resting h.given);
      in_range = all_after InRange InRange fewer_shares fs b.resting h.in_range;
      slips_rise = cond_both (eqb t.waiting 0) b.slips (b.slips ++ new ∷ []) (Rises (λ slip. slip.number))
          (λ _. h.slips_rise) (λ _. rises_push (λ slip. slip.number) b.last b.slips new h.slips_rise h.slips_given refl);
      slips_given = cond_both (eqb t.waiting 0) b.slips (b.slips ++ new ∷ []) (Each (λ slip. slip.number ≤ b.last + 1))
          (λ _. older) (λ _. All-push (λ slip. slip.number ≤ b.last + 1) b.slips new older (omega arith));
      slips_hold = cond_both (eqb t.waiting 0) b.slips (b.slips ++ new ∷ []) (Each (λ slip. eqb slip.shares 0 ≡ false))
          (λ _. h.slips_hold) (λ e. All-push (λ slip. eqb slip.shares 0 ≡ false) b.slips new h.slips_hold e);
      apart = cond_both (eqb t.waiting 0) b.slips (b.slips ++ new ∷ []) (λ l. Each (λ o. Each (λ slip. slip.number ≡ o.number → ⊥) l) (after_fills fs b.resting))
          (λ _. all_after (λ o. Each (λ slip. slip.number ≡ o.number → ⊥) b.slips) (λ o. Each (λ slip. slip.number ≡ o.number → ⊥) b.slips) (λ o n _ _ k. k) fs b.resting h.apart)
          (λ _. all_after (λ o. Each (λ slip. slip.number ≡ o.number → ⊥) (b.slips ++ new ∷ [])) (λ o. Each (λ slip. slip.number ≡ o.number → ⊥) (b.slips ++ new ∷ [])) (λ o n _ _ k. k) fs b.resting
          (all_both (λ o. o.number ≤ b.last) (λ o. Each (λ slip. slip.number ≡ o.number → ⊥) b.slips) (λ o. Each (λ slip. slip.number ≡ o.number → ⊥) (b.slips ++ new ∷ []))
          (λ o le k. All-push (λ slip. slip.number ≡ o.number → ⊥) b.slips new k (λ e. omega arith)) b.resting h.given h.apart));
      orders_fit = omega (arith, length_after fs b.resting);
      slips_fit = cond_both (eqb t.waiting 0) b.slips (b.slips ++ new ∷ []) (λ l. length l ≤ 32)
          (λ _. h.slips_fit)
          (λ e. omega (arith, length_push b.slips new, room (routable r.kind) (r.shares - filled fs) (length b.slips) e rows.1.1.1.1.1.0));
      numbers_fit = omega (arith, leb-false 500_000 b.last rows.1.1.1.1.0);
    }

sound_drawn : (b : Book) (number : ℕ) → Sound b → Sound (after_draw b number)
sound_drawn b number s =
    record {
      rises = s.rises;
      given = s.given;
      in_range = s.in_range;
      slips_rise = rises_drawn number b.slips s.slips_rise;
      slips_given = All-map (λ slip. slip.number ≤ b.last) (drawn_if number) b.slips s.slips_given;
      slips_hold = All-map (λ slip. eqb slip.shares 0 ≡ false) (drawn_if number) b.slips s.slips_hold;
      apart = All-weaker (λ o. Each (λ slip. slip.number ≡ o.number → ⊥) b.slips) (λ o. Each (λ slip. slip.number ≡ o.number → ⊥) (map (drawn_if number) b.slips))
          (λ o h. All-map (λ slip. slip.number ≡ o.number → ⊥) (drawn_if number) b.slips h) b.resting s.apart;
      orders_fit = s.orders_fit;
      slips_fit = omega (arith, length-map b.slips (drawn_if number));
      numbers_fit = s.numbers_fit;
    }

sound_returned : (b : Book) (number shares : ℕ) → Sound b → Sound (after_return b number shares)
sound_returned b number shares s =
    let stays = λ (slip : Slip). not (is_drawn number shares slip) in
    record {
      rises = s.rises;
      given = s.given;
      in_range = s.in_range;
      slips_rise = rises_kept (λ slip. slip.number) stays b.slips s.slips_rise;
      slips_given = all_kept_by stays (λ slip. slip.number ≤ b.last) b.slips s.slips_given;
      slips_hold = all_kept_by stays (λ slip. eqb slip.shares 0 ≡ false) b.slips s.slips_hold;
      apart = All-weaker (λ o. Each (λ slip. slip.number ≡ o.number → ⊥) b.slips) (λ o. Each (λ slip. slip.number ≡ o.number → ⊥) (filter stays b.slips))
          (λ o h. all_kept_by stays (λ slip. slip.number ≡ o.number → ⊥) b.slips h) b.resting s.apart;
      orders_fit = s.orders_fit;
      slips_fit = omega (arith, length_kept stays b.slips);
      numbers_fit = s.numbers_fit;
    }

-- a change of the phase or of the register leaves orders and slips
sound_still : (b : Book) (phase : Phase) (approved : ℕ → Bool) → Sound b
    → Sound (record { phase = phase; approved = approved; last = b.last; resting = b.resting; slips = b.slips })
sound_still b phase approved s =
    record {
      rises = s.rises;
      given = s.given;
      in_range = s.in_range;
      slips_rise = s.slips_rise;
      slips_given = s.slips_given;
      slips_hold = s.slips_hold;
      apart = s.apart;
      orders_fit = s.orders_fit;
      slips_fit = s.slips_fit;
      numbers_fit = s.numbers_fit;
    }

sound_accepted : (centres : ℕ) (s : State) (call : AnyCall) → Sound s.book → decided (refusals centres s call) ≡ None → Sound (accepts centres s call).1.book
sound_accepted centres s (Enter o) h p = sound_entered centres s o h p
sound_accepted centres s (Cancel member number) h p = sound_cancelled s.book member number h
sound_accepted centres s (Retail r lent) h p = sound_traded centres s r lent h p
sound_accepted centres s (Draw number) h p = sound_drawn s.book number h
sound_accepted centres s (Return number shares away) h p = sound_returned s.book number shares h
sound_accepted centres s (Move event) h p = sound_still s.book (or_phase (phase_after s.book.phase event) s.book.phase) s.book.approved h
sound_accepted centres s (Approve member) h p = sound_still s.book s.book.phase (λ m. cond (eqb m member) true (s.book.approved m)) h
sound_accepted centres s (Withdraw member) h p = sound_still s.book s.book.phase (λ m. cond (eqb m member) false (s.book.approved m)) h
sound_accepted centres s (Quotes q) h p = h

pub sound_step : StaysSound
sound_step centres s call h =
    refused_or (λ r. Sound r.1.book) (decided (refusals centres s call)) s (accepts centres s call) (λ _. h) (sound_accepted centres s call h)

pub sound_empty : Sound empty_book
sound_empty =
    record {
      rises = tt;
      given = tt;
      in_range = tt;
      slips_rise = tt;
      slips_given = tt;
      slips_hold = tt;
      apart = tt;
      orders_fit = omega arith;
      slips_fit = omega arith;
      numbers_fit = omega arith;
    }

sound_run : (centres : ℕ) (s : State) (calls : List AnyCall) → Sound s.book → Sound (run centres s calls).book
sound_run centres s [] h = h
sound_run centres s (call ∷ calls) h = sound_run centres (step centres s call).1 calls (sound_step centres s call h)

pub always_sound : AlwaysSound
always_sound centres quotes fill_list calls = sound_run centres (start quotes fill_list) calls sound_empty

-- IN SHORT

pub distinct : (b : Book) → Sound b → Distinct (λ o. o.number) b.resting
distinct b s = distinct_rising (λ o. o.number) b.resting s.rises

pub slips_distinct : (b : Book) → Sound b → Distinct (λ slip. slip.number) b.slips
slips_distinct b s = distinct_rising (λ slip. slip.number) b.slips s.slips_rise
