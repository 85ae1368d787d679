-- The slips that are out are those that the book has as drawn
use Rattle.std.proofs.Common.{◌≡◌, ℕ, ◌+◌, ◌≤◌, Bool, true, false, cond, not, ◌&&◌, ◌||◌, eqb, List, [], ◌∷◌, ◌++◌, map, length, Some, None, fold, filter, Option, sym, refl, ap, ◌∙◌, subst, append-nil, arith}
use Rattle.std.specs.List.{AllByRecursion as Each}
use Rattle.std.proofs.ByRecursion.{All-weaker, All-push, All-map, all_kept_by}
use Rattle.std.proofs.lemmas.Bool.{cond_both, and_parts, eqb-true, eq-eqb, ne_eqb, not-false, true≢false}
use Rattle.terms.specs.declared.orders.RetailOrder.{RetailOrder}
use Rattle.terms.specs.declared.orders.Fill.{Fill}
use Rattle.terms.specs.declared.orders.Slip.{Slip}
use Rattle.terms.specs.declared.calls.Call.TheVariants.{Enter, Cancel, Retail, Draw, Return, Move, Approve, Withdraw, Quotes}
use Rattle.quotes.specs.Quotes.{Quotes as QuoteState}
use Rattle.rules.specs.Lists.{Distinct, any, found, and_then, read}
use Rattle.rules.specs.Sorted.{Perm}
use Rattle.rules.specs.Sorted.Perm.{perm_nil, perm_cons, perm_swap, perm_trans}
use Rattle.rules.proofs.Members.{distinct_push, distinct_kept, distinct_picked}
use Rattle.rules.proofs.Picks.{length_picked}
use Rattle.rules.proofs.Perms.{perm_refl, perm_sym, perm_is, perm_middle, distinct_perm, picked_append}
use Rattle.laws.specs.Book.{Book, State, is_waiting, is_drawn, drawn_if, trade_now, empty_book, start}
use Rattle.laws.specs.Rows.{AnyCall, refusals, decided}
use Rattle.laws.specs.Routed.{Note, InStep, is_note, out_after, note_if_drawn, drawn_notes, SlipsOut}
use Rattle.laws.specs.Steps.{accepts, step, run, trace}
use Rattle.laws.proofs.Soundness.{refused_or, all_passed}

-- no slip of this number
abbrev Without : ℕ → List Slip → Type 0
Without n xs = Each (λ x. x.number ≡ n → ⊥) xs

none_some : {X : Type 0} (x : X) → ◌≡◌ {A = Option X} None (Some x) → ⊥
none_some x e = let z : ◌≡◌ {A = ℕ} 0 1 = cc in omega arith

abbrev note : Slip → Note
note slip = record { number = slip.number; shares = slip.shares }

-- A DRAW

drawn_same : (n : ℕ) (x : Slip) → (x.number ≡ n → ⊥) → drawn_if n x ≡ x
drawn_same n x ne = go x.number x.shares x.drawn (ne_eqb x.number n ne)
  where
    go : (number shares : ℕ) (drawn : Bool) → eqb number n ≡ false → ◌≡◌ {A = Slip} (record { number = number; shares = shares; drawn = drawn || eqb number n }) (record { number = number; shares = shares; drawn = drawn })
    go number shares true e = refl
    go number shares false e = rw e

map_same : (n : ℕ) (xs : List Slip) → Without n xs → map (drawn_if n) xs ≡ xs
map_same n [] h = refl
map_same n (x ∷ xs) h = rw (drawn_same n x h.0, map_same n xs h.1)

found_none : (n : ℕ) (xs : List Slip) (w : Slip) → Without n xs → found (is_waiting n) xs ≡ Some w → ⊥
found_none n [] w h e = none_some w e
found_none n (x ∷ xs) w h e =
    found_none n xs w h.1 (sym (ap (λ b. cond (b && not x.drawn) (Some x) (found (is_waiting n) xs)) (ne_eqb x.number n h.0)) ∙ e)

-- the slip that is drawn is one more among those that are out
drawn_more : (n : ℕ) (xs : List Slip) (w : Slip) → Distinct (λ x. x.number) xs → found (is_waiting n) xs ≡ Some w → Perm (drawn_notes (map (drawn_if n) xs)) (note w ∷ drawn_notes xs)
drawn_more n [] w d e = absurd (none_some w e)
drawn_more n (x ∷ xs) w d e = go (drawn_more n xs w d.1) (eqb x.number n) refl x.drawn refl
  where
    first : (b c : Bool) → eqb x.number n ≡ b → x.drawn ≡ c → cond (b && not c) (Some x) (found (is_waiting n) xs) ≡ Some w
    first b c i j = subst (λ v. cond (v && not c) (Some x) (found (is_waiting n) xs) ≡ Some w) i (subst (λ v. cond (eqb x.number n && not v) (Some x) (found (is_waiting n) xs) ≡ Some w) j e)

    lacks : eqb x.number n ≡ true → Without n xs
    lacks i = subst (λ m. Without m xs) (eqb-true x.number n i) d.0

    its : (c b : Bool) → Option Note
    its c b = cond (c || b) (Some (note x)) None

    is : (b c : Bool) → eqb x.number n ≡ b → x.drawn ≡ c → (zs : List Note) → Perm (and_then (its c b) (drawn_notes (map (drawn_if n) xs))) zs → Perm (drawn_notes (map (drawn_if n) (x ∷ xs))) zs
    is b c i j zs p = subst (λ v. Perm (and_then (its v (eqb x.number n)) (drawn_notes (map (drawn_if n) xs))) zs) (sym j) (subst (λ v. Perm (and_then (its c v) (drawn_notes (map (drawn_if n) xs))) zs) (sym i) p)

    old : (c : Bool) → x.drawn ≡ c → (us : List Note) → Perm us (note w ∷ and_then (cond c (Some (note x)) None) (drawn_notes xs)) → Perm us (note w ∷ drawn_notes (x ∷ xs))
    old c j us p = subst (λ v. Perm us (note w ∷ and_then (cond v (Some (note x)) None) (drawn_notes xs))) (sym j) p

    go : (found (is_waiting n) xs ≡ Some w → Perm (drawn_notes (map (drawn_if n) xs)) (note w ∷ drawn_notes xs)) → (b : Bool) → eqb x.number n ≡ b → (c : Bool) → x.drawn ≡ c → Perm (drawn_notes (map (drawn_if n) (x ∷ xs))) (note w ∷ drawn_notes (x ∷ xs))
    go rest true i true j = absurd (found_none n xs w (lacks i) (first true true i j))
    go rest true i false j =
        let s : x ≡ w = let f = first true false i j in cc in
        is true false i j (note w ∷ drawn_notes (x ∷ xs))
        (old false j (note x ∷ drawn_notes (map (drawn_if n) xs))
        (perm_trans (perm_is (ap (λ l. note x ∷ drawn_notes l) (map_same n xs (lacks i)))) (perm_is (ap (λ v. note v ∷ drawn_notes xs) s))))
    go rest false i true j =
        is false true i j (note w ∷ drawn_notes (x ∷ xs))
        (old true j (note x ∷ drawn_notes (map (drawn_if n) xs))
        (perm_trans (perm_cons (rest (first false true i j))) perm_swap))
    go rest false i false j =
        is false false i j (note w ∷ drawn_notes (x ∷ xs))
        (old false j (drawn_notes (map (drawn_if n) xs)) (rest (first false false i j)))

-- A RETURN

lacks_none : (n shares : ℕ) (xs : List Slip) → Without n xs → any (is_drawn n shares) xs ≡ true → ⊥
lacks_none n shares [] h e = true≢false (sym e)
lacks_none n shares (x ∷ xs) h e =
    lacks_none n shares xs h.1 (sym (ap (λ b. cond (b && (x.drawn && eqb x.shares shares)) true (any (is_drawn n shares) xs)) (ne_eqb x.number n h.0)) ∙ e)

-- the drawn slip of a number is the only slip of that number
only_one : (n shares : ℕ) (xs : List Slip) → Distinct (λ x. x.number) xs → any (is_drawn n shares) xs ≡ true → Each (λ x. x.number ≡ n → x.shares ≡ shares) xs
only_one n shares [] d e = tt
only_one n shares (x ∷ xs) d e = go (is_drawn n shares x) refl e (only_one n shares xs d.1)
  where
    go : (b : Bool) → is_drawn n shares x ≡ b → cond b true (any (is_drawn n shares) xs) ≡ true → (any (is_drawn n shares) xs ≡ true → Each (λ x. x.number ≡ n → x.shares ≡ shares) xs)
        → Each (λ x. x.number ≡ n → x.shares ≡ shares) (x ∷ xs)
    go true i j rest =
        let parts = and_parts (eqb x.number n) (x.drawn && eqb x.shares shares) i in
        let more = and_parts x.drawn (eqb x.shares shares) parts.1 in (
          λ _. eqb-true x.shares shares more.1,
          All-weaker (λ y. y.number ≡ x.number → ⊥) (λ y. y.number ≡ n → y.shares ≡ shares) (λ y ne k. absurd (ne (k ∙ sym (eqb-true x.number n parts.0)))) xs d.0,
        )
    go false i j rest = ((λ k. absurd (lacks_none n shares xs (subst (λ m. Without m xs) k d.0) j)), rest j)

-- so taking it back is taking the slip of that number from those that are out
returned_notes : (n shares : ℕ) (xs : List Slip) → Each (λ x. x.number ≡ n → x.shares ≡ shares) xs
    → drawn_notes (filter (λ x. not (is_drawn n shares x)) xs) ≡ filter (λ v. not (eqb v.number n)) (drawn_notes xs)
returned_notes n shares [] h = refl
returned_notes n shares (x ∷ xs) h = go (returned_notes n shares xs h.1) (eqb x.number n) refl x.drawn refl
  where
    rest : List Note
    rest = filter (λ v. not (eqb v.number n)) (drawn_notes xs)

    stays : (b c e : Bool) → List Slip
    stays b c e = cond (not (b && (c && e))) (x ∷ filter (λ x. not (is_drawn n shares x)) xs) (filter (λ x. not (is_drawn n shares x)) xs)

    left : (b c e : Bool) → eqb x.number n ≡ b → x.drawn ≡ c → eqb x.shares shares ≡ e → drawn_notes (stays b c e) ≡ filter (λ v. not (eqb v.number n)) (drawn_notes (x ∷ xs))
        → drawn_notes (filter (λ x. not (is_drawn n shares x)) (x ∷ xs)) ≡ filter (λ v. not (eqb v.number n)) (drawn_notes (x ∷ xs))
    left b c e i j k h = ap drawn_notes (ap (λ v. stays v x.drawn (eqb x.shares shares)) i ∙ (ap (λ v. stays b v (eqb x.shares shares)) j ∙ ap (stays b c) k)) ∙ h

    -- the note of a slip that is drawn, and of one that is not
    right : (c : Bool) → x.drawn ≡ c → filter (λ v. not (eqb v.number n)) (drawn_notes (x ∷ xs)) ≡ filter (λ v. not (eqb v.number n)) (and_then (cond c (Some (note x)) None) (drawn_notes xs))
    right c j = ap (λ v. filter (λ v. not (eqb v.number n)) (and_then (cond v (Some (note x)) None) (drawn_notes xs))) j

    kept_note : (b : Bool) → eqb x.number n ≡ b → filter (λ v. not (eqb v.number n)) (note x ∷ drawn_notes xs) ≡ cond (not b) (note x ∷ rest) rest
    kept_note b i = ap (λ v. cond (not v) (note x ∷ rest) rest) i

    here : (c : Bool) → x.drawn ≡ c → drawn_notes (x ∷ filter (λ x. not (is_drawn n shares x)) xs) ≡ and_then (cond c (Some (note x)) None) (drawn_notes (filter (λ x. not (is_drawn n shares x)) xs))
    here c j = ap (λ v. and_then (cond v (Some (note x)) None) (drawn_notes (filter (λ x. not (is_drawn n shares x)) xs))) j

    go : drawn_notes (filter (λ x. not (is_drawn n shares x)) xs) ≡ rest → (b : Bool) → eqb x.number n ≡ b → (c : Bool) → x.drawn ≡ c
        → drawn_notes (filter (λ x. not (is_drawn n shares x)) (x ∷ xs)) ≡ filter (λ v. not (eqb v.number n)) (drawn_notes (x ∷ xs))
    go ih true i true j =
        let k = eq-eqb x.shares shares (h.0 (eqb-true x.number n i)) in
        left true true true i j k (ih ∙ sym (right true j ∙ kept_note true i))
    go ih b i false j = left b false (eqb x.shares shares) i j refl (un b (here false j ∙ (ih ∙ sym (right false j))))
      where
        un : (b : Bool) → drawn_notes (x ∷ filter (λ x. not (is_drawn n shares x)) xs) ≡ filter (λ v. not (eqb v.number n)) (drawn_notes (x ∷ xs))
            → drawn_notes (stays b false (eqb x.shares shares)) ≡ filter (λ v. not (eqb v.number n)) (drawn_notes (x ∷ xs))
        un true h = h
        un false h = h
    go ih false i true j = left false true (eqb x.shares shares) i j refl (here true j ∙ (ap (λ l. note x ∷ l) ih ∙ sym (right true j ∙ kept_note false i)))

pub perm_kept : {X : Type 0} (p : X → Bool) {xs ys : List X} → Perm xs ys → Perm (filter p xs) (filter p ys)
perm_kept p perm_nil = perm_nil
perm_kept p (perm_cons {x} {xs} {ys} q) = go (p x) (perm_kept p q)
  where
    go : (b : Bool) → Perm (filter p xs) (filter p ys) → Perm (cond b (x ∷ filter p xs) (filter p xs)) (cond b (x ∷ filter p ys) (filter p ys))
    go true r = perm_cons r
    go false r = r
perm_kept p (perm_swap {x} {y} {xs}) = go (p x) (p y)
  where
    go : (b c : Bool) → Perm (cond b (x ∷ cond c (y ∷ filter p xs) (filter p xs)) (cond c (y ∷ filter p xs) (filter p xs))) (cond c (y ∷ cond b (x ∷ filter p xs) (filter p xs)) (cond b (x ∷ filter p xs) (filter p xs)))
    go true true = perm_swap
    go true false = perm_refl (x ∷ filter p xs)
    go false true = perm_refl (y ∷ filter p xs)
    go false false = perm_refl (filter p xs)
perm_kept p (perm_trans q r) = perm_trans (perm_kept p q) (perm_kept p r)

-- EACH CALL

any_found : {X : Type 0} (p : X → Bool) (xs : List X) → any p xs ≡ true → (x : X) × (found p xs ≡ Some x) × (p x ≡ true)
any_found p [] h = absurd (true≢false (sym h))
any_found {X} p (x ∷ xs) h = go (any_found p xs) (p x) refl h
  where
    go : (any p xs ≡ true → (y : X) × (found p xs ≡ Some y) × (p y ≡ true)) → (b : Bool) → p x ≡ b → cond b true (any p xs) ≡ true → (y : X) × (cond b (Some x) (found p xs) ≡ Some y) × (p y ≡ true)
    go rest true i j = (x, refl, i)
    go rest false i j = rest j

given_later : (last : ℕ) (slips : List Slip) → Each (λ slip. slip.number ≤ last) slips → Each (λ slip. slip.number ≤ last + 1) slips
given_later last slips h = All-weaker (λ slip. slip.number ≤ last) (λ slip. slip.number ≤ last + 1) (λ slip le. omega arith) slips h

-- a remainder that waits is not out
traded_notes : (slips : List Slip) (number shares : ℕ) → drawn_notes (slips ++ record { number = number; shares = shares; drawn = false } ∷ []) ≡ drawn_notes slips
traded_notes slips number shares = picked_append note_if_drawn slips (record { number = number; shares = shares; drawn = false } ∷ []) ∙ append-nil (drawn_notes slips)

in_step_traded : (centres : ℕ) (s : State) (r : RetailOrder) (lent : ℕ) (out : List Note) → InStep s.book out → InStep (accepts centres s (Retail r lent)).1.book out
in_step_traded centres s r lent out h =
    let b = s.book in
    let t = trade_now centres s r in
    let new : Slip = record { number = t.number; shares = t.waiting; drawn = false } in
    let older = given_later b.last b.slips h.given in
    let fresh = All-weaker (λ (slip : Slip). slip.number ≤ b.last) (λ slip. slip.number ≡ b.last + 1 → ⊥) (λ slip le e. omega arith) b.slips h.given in
    record {
      given = cond_both (eqb t.waiting 0) b.slips (b.slips ++ new ∷ []) (Each (λ slip. slip.number ≤ b.last + 1)) (λ _. older) (λ _. All-push (λ slip. slip.number ≤ b.last + 1) b.slips new older (omega arith));
      apart = cond_both (eqb t.waiting 0) b.slips (b.slips ++ new ∷ []) (Distinct (λ slip. slip.number)) (λ _. h.apart) (λ _. distinct_push (λ slip. slip.number) b.slips new h.apart fresh);
      same = cond_both (eqb t.waiting 0) b.slips (b.slips ++ new ∷ []) (λ l. Perm (drawn_notes l) out) (λ _. h.same) (λ _. subst (λ l. Perm l out) (sym (traded_notes b.slips t.number t.waiting)) h.same);
    }

in_step_drawn : (b : Book) (n : ℕ) (out : List Note) → InStep b out → any (is_waiting n) b.slips ≡ true
    → InStep (record { phase = b.phase; approved = b.approved; last = b.last; resting = b.resting; slips = map (drawn_if n) b.slips }) (out ++ record { number = n; shares = read (λ slip. slip.shares) 0 (found (is_waiting n) b.slips) } ∷ [])
in_step_drawn b n out h waits =
    let w = any_found (is_waiting n) b.slips waits in
    let its : w.0.number ≡ n = eqb-true w.0.number n (and_parts (eqb w.0.number n) (not w.0.drawn) w.2).0 in
    let told : note w.0 ≡ record { number = n; shares = read (λ slip. slip.shares) 0 (found (is_waiting n) b.slips) } =
    ap (λ m. record { number = m; shares = w.0.shares }) its ∙ ap (λ m. record { number = n; shares = read (λ slip. slip.shares) 0 m }) (sym w.1) in
    record {
      given = All-map (λ slip. slip.number ≤ b.last) (drawn_if n) b.slips h.given;
      apart = distinct_drawn n b.slips h.apart;
      same =
          perm_trans (drawn_more n b.slips w.0 h.apart w.1)
          (perm_trans (perm_cons h.same)
          (perm_trans (perm_is (ap (λ v. v ∷ out) told))
          (perm_trans (perm_cons (perm_is (sym (append-nil out)))) (perm_sym (perm_middle out _ [])))));
    }
  where
    distinct_drawn : (n : ℕ) (xs : List Slip) → Distinct (λ x. x.number) xs → Distinct (λ x. x.number) (map (drawn_if n) xs)
    distinct_drawn n [] d = tt
    distinct_drawn n (x ∷ xs) d = (All-map (λ y. y.number ≡ x.number → ⊥) (drawn_if n) xs d.0, distinct_drawn n xs d.1)

in_step_returned : (b : Book) (n shares : ℕ) (out : List Note) → InStep b out → any (is_drawn n shares) b.slips ≡ true
    → InStep (record { phase = b.phase; approved = b.approved; last = b.last; resting = b.resting; slips = filter (λ slip. not (is_drawn n shares slip)) b.slips }) (filter (λ v. not (eqb v.number n)) out)
in_step_returned b n shares out h drawn =
    let stays = λ (slip : Slip). not (is_drawn n shares slip) in
    record {
      given = all_kept_by stays (λ slip. slip.number ≤ b.last) b.slips h.given;
      apart = distinct_kept (λ slip. slip.number) stays b.slips h.apart;
      same = perm_trans (perm_is (returned_notes n shares b.slips (only_one n shares b.slips h.apart drawn))) (perm_kept (λ v. not (eqb v.number n)) h.same);
    }

in_step_accepted : (centres : ℕ) (s : State) (call : AnyCall) (out : List Note) → decided (refusals centres s call) ≡ None → InStep s.book out
    → InStep (accepts centres s call).1.book (out_after out (accepts centres s call).0)
in_step_accepted centres s (Enter o) out p h = record { given = given_later s.book.last s.book.slips h.given; apart = h.apart; same = h.same }
in_step_accepted centres s (Cancel member number) out p h = record { given = h.given; apart = h.apart; same = h.same }
in_step_accepted centres s (Retail r lent) out p h = in_step_traded centres s r lent out h
in_step_accepted centres s (Draw number) out p h =
    in_step_drawn s.book number out h (not-false (any (is_waiting number) s.book.slips) (all_passed (refusals centres s (Draw number)) p).0)
in_step_accepted centres s (Return number shares away) out p h =
    in_step_returned s.book number shares out h (not-false (any (is_drawn number shares) s.book.slips) (all_passed (refusals centres s (Return number shares away)) p).0)
in_step_accepted centres s (Move event) out p h = record { given = h.given; apart = h.apart; same = h.same }
in_step_accepted centres s (Approve member) out p h = record { given = h.given; apart = h.apart; same = h.same }
in_step_accepted centres s (Withdraw member) out p h = record { given = h.given; apart = h.apart; same = h.same }
in_step_accepted centres s (Quotes q) out p h = h

-- No call parts the slips that are out from those that the book has as drawn.
pub stays_in_step : (centres : ℕ) (s : State) (call : AnyCall) (out : List Note) → InStep s.book out → InStep (step centres s call).1.book (out_after out (step centres s call).0)
stays_in_step centres s call out h =
    refused_or (λ x. InStep x.1.book (out_after out x.0)) (decided (refusals centres s call)) s (accepts centres s call)
    (λ why. h)
    (λ p. in_step_accepted centres s call out p h)

-- WHAT THAT SAYS OF THE SLIPS THAT ARE OUT

pub length_perm : {X : Type 0} {xs ys : List X} → Perm xs ys → length xs ≡ length ys
length_perm perm_nil = refl
length_perm (perm_cons p) = omega (arith, length_perm p)
length_perm perm_swap = refl
length_perm (perm_trans p q) = length_perm p ∙ length_perm q

any_perm : {X : Type 0} (p : X → Bool) {xs ys : List X} → Perm xs ys → any p xs ≡ any p ys
any_perm p perm_nil = refl
any_perm p (perm_cons {x} q) = ap (λ b. cond (p x) true b) (any_perm p q)
any_perm p (perm_swap {x} {y} {xs}) = swap (p x) (p y) (any p xs)
  where
    swap : (a b c : Bool) → cond a true (cond b true c) ≡ cond b true (cond a true c)
    swap true true c = refl
    swap true false c = refl
    swap false b c = refl
any_perm p (perm_trans q r) = any_perm p q ∙ any_perm p r

any_drawn : (n shares : ℕ) (xs : List Slip) → any (is_drawn n shares) xs ≡ any (is_note n shares) (drawn_notes xs)
any_drawn n shares [] = refl
any_drawn n shares (x ∷ xs) = go x.drawn refl (any_drawn n shares xs)
  where
    none : (b e : Bool) → (b && (false && e)) ≡ false
    none true e = refl
    none false e = refl

    go : (c : Bool) → x.drawn ≡ c → any (is_drawn n shares) xs ≡ any (is_note n shares) (drawn_notes xs) → any (is_drawn n shares) (x ∷ xs) ≡ any (is_note n shares) (drawn_notes (x ∷ xs))
    go true j h =
        ap (λ c. cond (eqb x.number n && (c && eqb x.shares shares)) true (any (is_drawn n shares) xs)) j
        ∙ (ap (λ v. cond (is_note n shares (note x)) true v) h
        ∙ sym (ap (λ c. any (is_note n shares) (and_then (cond c (Some (note x)) None) (drawn_notes xs))) j))
    go false j h =
        ap (λ c. cond (eqb x.number n && (c && eqb x.shares shares)) true (any (is_drawn n shares) xs)) j
        ∙ (ap (λ v. cond v true (any (is_drawn n shares) xs)) (none (eqb x.number n) (eqb x.shares shares))
        ∙ (h ∙ sym (ap (λ c. any (is_note n shares) (and_then (cond c (Some (note x)) None) (drawn_notes xs))) j)))

module _ (b : Book) (out : List Note) (h : InStep b out) where
  -- the book has a slip as drawn exactly if it is out
  pub out_has : (n shares : ℕ) → any (is_drawn n shares) b.slips ≡ any (is_note n shares) out
  out_has n shares = any_drawn n shares b.slips ∙ any_perm (is_note n shares) h.same

  -- each is out once
  pub out_apart : Distinct (λ v. v.number) out
  out_apart = distinct_perm (λ v. v.number) h.same (distinct_picked note_if_drawn (λ slip. slip.number) (λ v. v.number) its b.slips h.apart)
    where
      its : (slip : Slip) (v : Note) → note_if_drawn slip ≡ Some v → v.number ≡ slip.number
      its slip v e = go slip.drawn e
        where
          go : (c : Bool) → cond c (Some (note slip)) None ≡ Some v → v.number ≡ slip.number
          go true e = let s : note slip ≡ v = cc in sym (ap (λ v. v.number) s)
          go false e = absurd (none_some v e)

  -- and no more than the book has slips
  pub out_few : length out ≤ length b.slips
  out_few = omega (arith, length_perm h.same, length_picked note_if_drawn b.slips)

-- OVER A RUN

slips_out_from : (centres : ℕ) (s : State) (calls : List AnyCall) (out : List Note) → InStep s.book out
    → InStep (run centres s calls).book (fold (λ out m. out_after out m.answer) out (trace centres s calls))
slips_out_from centres s [] out h = h
slips_out_from centres s (call ∷ calls) out h = slips_out_from centres (step centres s call).1 calls (out_after out (step centres s call).0) (stays_in_step centres s call out h)

pub in_step_empty : InStep empty_book []
in_step_empty = record { given = tt; apart = tt; same = perm_nil }

pub slips_out : (centres : ℕ) (quotes : QuoteState) (fill_list : List Fill) (calls : List AnyCall) → SlipsOut centres (start quotes fill_list) calls
slips_out centres quotes fill_list calls = (slips_out_from centres (start quotes fill_list) calls [] in_step_empty).same
