-- Sums over orders and slips, where each number stands once
use Rattle.std.proofs.Common.{◌≡◌, ℕ, ◌+◌, ◌-◌, ◌≤◌, Bool, true, false, cond, not, ◌&&◌, ◌||◌, eqb, List, [], ◌∷◌, map, Some, None, filter, sym, refl, ap, ◌∙◌, ⊎_elim, arith}
use Rattle.std.specs.List.{AllByRecursion as Each}
use Rattle.std.proofs.ByRecursion.{All-weaker, All-map}
use Rattle.std.proofs.lemmas.Bool.{cond_both, cond-true, cond-false, cases_Bool, eqb-true, eq-eqb, ne_eqb, true≢false, false≢true, and_parts}
use Rattle.terms.specs.declared.orders.RestingOrder.{RestingOrder}
use Rattle.terms.specs.declared.orders.Fill.{Fill}
use Rattle.terms.specs.declared.orders.Slip.{Slip}
use Rattle.rules.specs.Lists.{sum_of, Distinct, found, any, read}
use Rattle.rules.specs.Rules.{filled_to, with_shares}
use Rattle.rules.proofs.Members.{sum_same, all_of, sum_none, none_or_one}
use Rattle.laws.specs.Book.{is_order, is_waiting, is_drawn, after_fills, drawn_if}
use Rattle.laws.specs.Law.{if_its}

module _ {X : Type 0} where
  module _ (p : X → Bool) where
    -- what is taken out and what stays
    pub sum_split : (f : X → ℕ) (xs : List X) → sum_of f xs ≡ sum_of (λ x. cond (p x) (f x) 0) xs + sum_of f (filter (λ x. not (p x)) xs)
    sum_split f [] = omega arith
    sum_split f (x ∷ xs) = go (p x) (sum_split f xs)
      where
        go : (b : Bool) → sum_of f xs ≡ sum_of (λ x. cond (p x) (f x) 0) xs + sum_of f (filter (λ x. not (p x)) xs)
            → f x + sum_of f xs ≡ (cond b (f x) 0 + sum_of (λ x. cond (p x) (f x) 0) xs) + sum_of f (cond (not b) (x ∷ filter (λ x. not (p x)) xs) (filter (λ x. not (p x)) xs))
        go true ih = omega arith
        go false ih = omega arith

    pub not_found : (xs : List X) → any p xs ≡ false → found p xs ≡ None
    not_found [] h = refl
    not_found (x ∷ xs) h = go (p x) h (not_found xs)
      where
        go : (b : Bool) → cond b true (any p xs) ≡ false → (any p xs ≡ false → found p xs ≡ None) → cond b (Some x) (found p xs) ≡ None
        go true h ih = absurd (true≢false h)
        go false h ih = ih h

    module _ (key : X → ℕ) (k : ℕ) (keyed : (x : X) → p x ≡ true → key x ≡ k) where
      -- no element of a list without the key passes
      pub none_pass : (xs : List X) → Each (λ x. key x ≡ k → ⊥) xs → Each (λ x. p x ≡ false) xs
      none_pass xs h = All-weaker (λ x. key x ≡ k → ⊥) (λ x. p x ≡ false) (λ x ne. ⊎_elim (λ t. absurd (ne (keyed x t))) (λ f. f) (cases_Bool (p x))) xs h

      pub any_key : (xs : List X) → any p xs ≡ true → Each (λ x. key x ≡ k → ⊥) xs → ⊥
      any_key [] h ne = false≢true h
      any_key (x ∷ xs) h ne = go (p x) refl h (λ h. any_key xs h ne.1)
        where
          go : (b : Bool) → p x ≡ b → cond b true (any p xs) ≡ true → (any p xs ≡ true → ⊥) → ⊥
          go true e h ih = ne.0 (keyed x e)
          go false e h ih = ih h

      -- the sum over those that pass is that of the one found
      pub sum_found : (f : X → ℕ) (xs : List X) → Distinct key xs → sum_of (λ x. cond (p x) (f x) 0) xs ≡ read f 0 (found p xs)
      sum_found f [] d = refl
      sum_found f (x ∷ xs) d = go (p x) refl (sum_found f xs d.1)
        where
          rest : key x ≡ k → sum_of (λ x. cond (p x) (f x) 0) xs ≡ 0
          rest e =
              sum_none (λ x. cond (p x) (f x) 0) xs
              (All-weaker (λ y. p y ≡ false) (λ y. cond (p y) (f y) 0 ≡ 0) (λ y h. cond-false (p y) (f y) 0 h) xs
              (none_pass xs (All-weaker (λ y. key y ≡ key x → ⊥) (λ y. key y ≡ k → ⊥) (λ y ne q. ne (q ∙ sym e)) xs d.0)))

          go : (b : Bool) → p x ≡ b → sum_of (λ x. cond (p x) (f x) 0) xs ≡ read f 0 (found p xs)
              → cond b (f x) 0 + sum_of (λ x. cond (p x) (f x) 0) xs ≡ read f 0 (cond b (Some x) (found p xs))
          go true e ih = omega (arith, rest (keyed x e))
          go false e ih = omega arith

-- if_its over a sum of three parts, and of nothing
pub if_its_parts : (b : Bool) (x u v w : ℕ) → x ≡ u + v + w → cond b x 0 ≡ cond b u 0 + cond b v 0 + cond b w 0
if_its_parts true x u v w e = e
if_its_parts false x u v w e = omega arith

pub cond_none : (b : Bool) → ◌≡◌ {A = ℕ} (cond b 0 0) 0
cond_none true = refl
cond_none false = refl

-- RESTING ORDERS

-- the shares with which the order of a number rests
abbrev pub rests : ℕ → List RestingOrder → ℕ
rests n os = sum_of (λ o. if_its n o.number o.shares) os

-- an order's part in the sum, taken out by its number
its_part : (b : Bool) (n key k x : ℕ) → (b ≡ true → key ≡ k) → cond b (if_its n key x) 0 ≡ if_its n k (cond b x 0)
its_part true n key k x h = ap (λ v. if_its n v x) (h refl)
its_part false n key k x h = sym (cond_none (eqb k n))

if_its_sum : {X : Type 0} (n k : ℕ) (f : X → ℕ) (xs : List X) → sum_of (λ x. if_its n k (f x)) xs ≡ if_its n k (sum_of f xs)
if_its_sum n k f xs = go (eqb k n) xs
  where
    go : (b : Bool) (xs : List _) → sum_of (λ x. cond b (f x) 0) xs ≡ cond b (sum_of f xs) 0
    go true [] = refl
    go true (x ∷ xs) = ap (λ v. f x + v) (go true xs)
    go false [] = refl
    go false (x ∷ xs) = omega (arith, go false xs)

order_keyed : (member number : ℕ) (o : RestingOrder) → is_order member number o ≡ true → o.number ≡ number
order_keyed member number o h = eqb-true o.number number (and_parts (eqb o.number number) (eqb o.member member) h).0

-- a cancelled order's shares are those that its number loses
pub cancel_sum : (n member number : ℕ) (os : List RestingOrder) → Distinct (λ o. o.number) os
    → rests n os ≡ if_its n number (read (λ o. o.shares) 0 (found (is_order member number) os)) + rests n (filter (λ o. not (is_order member number o)) os)
cancel_sum n member number os d =
    let p = is_order member number in
    let parts = sum_split p (λ o. if_its n o.number o.shares) os in
    let out = sum_same (λ o. cond (p o) (if_its n o.number o.shares) 0) (λ o. if_its n number (cond (p o) o.shares 0)) os
    (all_of (λ o. cond (p o) (if_its n o.number o.shares) 0 ≡ if_its n number (cond (p o) o.shares 0))
    (λ o. its_part (p o) n o.number number o.shares (order_keyed member number o)) os) in
    let whole = if_its_sum n number (λ o. cond (p o) o.shares 0) os in
    let one = ap (if_its n number) (sum_found p (λ o. o.number) number (order_keyed member number) (λ o. o.shares) os d) in
    omega arith

-- fills take from the orders what they name
two_parts : (b : Bool) (x u v : ℕ) → x ≡ u + v → cond b x 0 ≡ cond b u 0 + cond b v 0
two_parts true x u v e = e
two_parts false x u v e = omega arith

pub after_sum : (n : ℕ) (fs : List Fill) (os : List RestingOrder) → Each (λ o. filled_to fs o.number ≤ o.shares) os
    → rests n os ≡ sum_of (λ o. cond (eqb o.number n) (filled_to fs o.number) 0) os + rests n (after_fills fs os)
after_sum n fs [] h = omega arith
after_sum n fs (o ∷ os) h =
    let took : ℕ = filled_to fs o.number in
    let left : ℕ = o.shares - took in
    let taken : ℕ = sum_of (λ o. cond (eqb o.number n) (filled_to fs o.number) 0) os in
    let ih = after_sum n fs os h.1 in
    let parts = two_parts (eqb o.number n) o.shares took left (omega arith) in
    cond_both (eqb left 0) (after_fills fs os) (with_shares o left ∷ after_fills fs os)
    (λ l. if_its n o.number o.shares + rests n os ≡ (cond (eqb o.number n) took 0 + taken) + rests n l)
    (λ e.
    let gone : cond (eqb o.number n) left 0 ≡ 0 = ap (λ v. cond (eqb o.number n) v 0) (eqb-true left 0 e) ∙ cond_none (eqb o.number n) in
    omega arith)
    (λ e. omega arith)

-- all that the fills name of a number is taken from the order of that number
pub taken_sum : (n : ℕ) (fs : List Fill) (os : List RestingOrder) → Distinct (λ o. o.number) os
    → (Each (λ o. o.number ≡ n → ⊥) os → filled_to fs n ≡ 0)
    → sum_of (λ o. cond (eqb o.number n) (filled_to fs o.number) 0) os ≡ filled_to fs n
taken_sum n fs os d none =
    ⊎_elim
    (λ h.
    sum_none (λ o. cond (eqb o.number n) (filled_to fs o.number) 0) os
    (All-weaker (λ o. o.number ≡ n → ⊥) (λ o. cond (eqb o.number n) (filled_to fs o.number) 0 ≡ 0)
    (λ o ne. cond-false (eqb o.number n) (filled_to fs o.number) 0 (ne_eqb o.number n ne)) os h)
    ∙ sym (none h))
    (λ e. e)
    (none_or_one (λ o. o.number) (filled_to fs) n os d)

-- what a member's order rests with is what is found of it
pub rests_found : (n member : ℕ) (os : List RestingOrder) → Distinct (λ o. o.number) os → Each (λ o. o.number ≡ n → o.member ≡ member) os
    → rests n os ≡ read (λ o. o.shares) 0 (found (is_order member n) os)
rests_found n member os d owned =
    sum_same (λ o. if_its n o.number o.shares) (λ o. cond (is_order member n o) o.shares 0) os
    (All-weaker (λ o. o.number ≡ n → o.member ≡ member) (λ o. if_its n o.number o.shares ≡ cond (is_order member n o) o.shares 0)
    (λ o own.
    let e : eqb o.number n ≡ is_order member n o = both (eqb o.number n) (eqb o.member member) (λ t. eq-eqb o.member member (own (eqb-true o.number n t))) in
    ap (λ b. cond b o.shares 0) e) os owned)
    ∙ sum_found (is_order member n) (λ o. o.number) n (order_keyed member n) (λ o. o.shares) os d
  where
    both : (a b : Bool) → (a ≡ true → b ≡ true) → a ≡ a && b
    both true b h = sym (h refl)
    both false b h = refl

pub rests_none : (n : ℕ) (os : List RestingOrder) → Each (λ o. o.number ≡ n → ⊥) os → rests n os ≡ 0
rests_none n os h =
    sum_none (λ o. if_its n o.number o.shares) os
    (All-weaker (λ o. o.number ≡ n → ⊥) (λ o. if_its n o.number o.shares ≡ 0) (λ o ne. cond-false (eqb o.number n) o.shares 0 (ne_eqb o.number n ne)) os h)

-- SLIPS

-- the drawn slip of a number
abbrev pub is_out : (number : ℕ) → Slip → Bool
is_out number slip = eqb slip.number number && slip.drawn

-- the shares of a number on slips that wait, and on slips that are drawn
abbrev pub waits : ℕ → List Slip → ℕ
waits n slips = sum_of (λ x. cond (is_waiting n x) x.shares 0) slips

abbrev pub outs : ℕ → List Slip → ℕ
outs n slips = sum_of (λ x. cond (is_out n x) x.shares 0) slips

pub waiting_keyed : (n : ℕ) (x : Slip) → is_waiting n x ≡ true → x.number ≡ n
waiting_keyed n x h = eqb-true x.number n (and_parts (eqb x.number n) (not x.drawn) h).0

pub out_keyed : (n : ℕ) (x : Slip) → is_out n x ≡ true → x.number ≡ n
out_keyed n x h = eqb-true x.number n (and_parts (eqb x.number n) x.drawn h).0

pub drawn_keyed : (n shares : ℕ) (x : Slip) → is_drawn n shares x ≡ true → x.number ≡ n
drawn_keyed n shares x h = eqb-true x.number n (and_parts (eqb x.number n) (x.drawn && eqb x.shares shares) h).0

pub waits_found : (n : ℕ) (slips : List Slip) → Distinct (λ x. x.number) slips → waits n slips ≡ read (λ x. x.shares) 0 (found (is_waiting n) slips)
waits_found n slips d = sum_found (is_waiting n) (λ x. x.number) n (waiting_keyed n) (λ x. x.shares) slips d

outs_none : (n : ℕ) (slips : List Slip) → Each (λ x. x.number ≡ n → ⊥) slips → outs n slips ≡ 0
outs_none n slips h =
    sum_none (λ x. cond (is_out n x) x.shares 0) slips
    (All-weaker (λ x. is_out n x ≡ false) (λ x. cond (is_out n x) x.shares 0 ≡ 0) (λ x e. cond-false (is_out n x) x.shares 0 e) slips
    (none_pass (is_out n) (λ x. x.number) n (out_keyed n) slips h))

-- a draw moves shares from the slips that wait to those that are drawn
one_drawn : (a b d : Bool) (x : ℕ) → cond (a && not d) x 0 + cond (a && d) x 0 ≡ cond (a && not (d || b)) x 0 + cond (a && (d || b)) x 0
one_drawn true true true x = refl
one_drawn true true false x = omega arith
one_drawn true false true x = refl
one_drawn true false false x = refl
one_drawn false b d x = refl

pub draw_sum : (n number : ℕ) (slips : List Slip) → waits n slips + outs n slips ≡ waits n (map (drawn_if number) slips) + outs n (map (drawn_if number) slips)
draw_sum n number [] = refl
draw_sum n number (x ∷ xs) = omega (arith, draw_sum n number xs, one_drawn (eqb x.number n) (eqb x.number number) x.drawn x.shares)

-- a draw of another number draws nothing of this one
other_drawn : (a b d : Bool) (x : ℕ) → (a ≡ true → b ≡ false) → cond (a && (d || b)) x 0 ≡ cond (a && d) x 0
other_drawn true true d x h = absurd (true≢false (h refl))
other_drawn true false true x h = refl
other_drawn true false false x h = refl
other_drawn false b d x h = refl

pub draw_other : (n number : ℕ) (slips : List Slip) → (number ≡ n → ⊥) → outs n (map (drawn_if number) slips) ≡ outs n slips
draw_other n number [] h = refl
draw_other n number (x ∷ xs) h =
    omega (
      arith,
      draw_other n number xs h,
      other_drawn (eqb x.number n) (eqb x.number number) x.drawn x.shares (λ t. ne_eqb x.number number (λ e. h (sym e ∙ eqb-true x.number n t))),
    )

-- a draw of this number draws what waited
pub draw_own : (n : ℕ) (slips : List Slip) → Distinct (λ x. x.number) slips → any (is_waiting n) slips ≡ true
    → outs n (map (drawn_if n) slips) ≡ read (λ x. x.shares) 0 (found (is_waiting n) slips)
draw_own n [] d h = absurd (false≢true h)
draw_own n (x ∷ xs) d h = go (is_waiting n x) refl h (draw_own n xs d.1)
  where
    rest : x.number ≡ n → outs n (map (drawn_if n) xs) ≡ 0
    rest e = outs_none n (map (drawn_if n) xs) (All-map (λ y. y.number ≡ n → ⊥) (drawn_if n) xs (All-weaker (λ y. y.number ≡ x.number → ⊥) (λ y. y.number ≡ n → ⊥) (λ y ne q. ne (q ∙ sym e)) xs d.0))

    out : (a dr : Bool) → a ≡ true → cond (a && (dr || a)) x.shares 0 ≡ x.shares
    out true true e = refl
    out true false e = refl
    out false dr e = absurd (false≢true e)

    go : (b : Bool) → is_waiting n x ≡ b → cond b true (any (is_waiting n) xs) ≡ true
        → (any (is_waiting n) xs ≡ true → outs n (map (drawn_if n) xs) ≡ read (λ x. x.shares) 0 (found (is_waiting n) xs))
        → cond (eqb x.number n && (x.drawn || eqb x.number n)) x.shares 0 + outs n (map (drawn_if n) xs) ≡ read (λ x. x.shares) 0 (cond b (Some x) (found (is_waiting n) xs))
    go true e h ih =
        let same = waiting_keyed n x e in
        omega (arith, rest same, out (eqb x.number n) x.drawn (eq-eqb x.number n same))
    go false e h ih =
        let ne : x.number ≡ n → ⊥ = λ q. any_key (is_waiting n) (λ x. x.number) n (waiting_keyed n) xs h
        (All-weaker (λ y. y.number ≡ x.number → ⊥) (λ y. y.number ≡ n → ⊥) (λ y w v. w (v ∙ sym q)) xs d.0) in
        let zero : cond (eqb x.number n && (x.drawn || eqb x.number n)) x.shares 0 ≡ 0 =
        ap (λ b. cond (b && (x.drawn || b)) x.shares 0) (ne_eqb x.number n ne) in
        omega (arith, ih h)

-- A RETURN

-- a returned slip waits nowhere
not_waiting : (number shares n : ℕ) (x : Slip) → is_drawn number shares x ≡ true → cond (is_waiting n x) x.shares 0 ≡ 0
not_waiting number shares n x h =
    let out = (and_parts x.drawn (eqb x.shares shares) (and_parts (eqb x.number number) (x.drawn && eqb x.shares shares) h).1).0 in
    go (eqb x.number n) x.drawn out
  where
    go : (a d : Bool) → d ≡ true → cond (a && not d) x.shares 0 ≡ 0
    go true true e = refl
    go true false e = absurd (false≢true e)
    go false d e = refl

stays_sum : {X : Type 0} (p : X → Bool) (f : X → ℕ) → ((x : X) → p x ≡ true → f x ≡ 0) → (xs : List X) → sum_of f (filter (λ x. not (p x)) xs) ≡ sum_of f xs
stays_sum p f h [] = refl
stays_sum p f h (x ∷ xs) = go (p x) refl (stays_sum p f h xs)
  where
    go : (b : Bool) → p x ≡ b → sum_of f (filter (λ x. not (p x)) xs) ≡ sum_of f xs → sum_of f (cond (not b) (x ∷ filter (λ x. not (p x)) xs) (filter (λ x. not (p x)) xs)) ≡ f x + sum_of f xs
    go true e ih = omega (arith, h x e)
    go false e ih = omega arith

pub return_waits : (number shares n : ℕ) (slips : List Slip) → waits n (filter (λ x. not (is_drawn number shares x)) slips) ≡ waits n slips
return_waits number shares n slips = stays_sum (is_drawn number shares) (λ x. cond (is_waiting n x) x.shares 0) (not_waiting number shares n) slips

-- what a returned slip's number loses: those shares, all that was drawn of it
drawn_part : (number shares n : ℕ) (x : Slip) → is_drawn number shares x ≡ true → cond (is_out n x) x.shares 0 ≡ if_its n number shares
drawn_part number shares n x h =
    let one = and_parts (eqb x.number number) (x.drawn && eqb x.shares shares) h in
    let two = and_parts x.drawn (eqb x.shares shares) one.1 in
    go x.drawn two.0 ∙ (ap (λ v. cond (eqb v n) x.shares 0) (eqb-true x.number number one.0) ∙ ap (λ v. cond (eqb number n) v 0) (eqb-true x.shares shares two.1))
  where
    also : (a : Bool) → a && true ≡ a
    also true = refl
    also false = refl

    go : (d : Bool) → d ≡ true → cond (eqb x.number n && d) x.shares 0 ≡ cond (eqb x.number n) x.shares 0
    go true e = ap (λ b. cond b x.shares 0) (also (eqb x.number n))
    go false e = absurd (false≢true e)

kept_all : {X : Type 0} (p : X → Bool) (xs : List X) → Each (λ x. p x ≡ false) xs → filter (λ x. not (p x)) xs ≡ xs
kept_all p [] h = refl
kept_all p (x ∷ xs) h = cond-true (not (p x)) (x ∷ filter (λ x. not (p x)) xs) (filter (λ x. not (p x)) xs) (ap not h.0) ∙ ap (λ l. x ∷ l) (kept_all p xs h.1)

module _ (number shares : ℕ) where
  abbrev p : Slip → Bool
  p = is_drawn number shares

  others : (x : Slip) (xs : List Slip) → x.number ≡ number → Each (λ y. y.number ≡ x.number → ⊥) xs → Each (λ y. y.number ≡ number → ⊥) xs
  others x xs e h = All-weaker (λ y. y.number ≡ x.number → ⊥) (λ y. y.number ≡ number → ⊥) (λ y ne q. ne (q ∙ sym e)) xs h

  pub return_outs : (n : ℕ) (slips : List Slip) → Distinct (λ x. x.number) slips → any (is_drawn number shares) slips ≡ true
      → outs n slips ≡ if_its n number shares + outs n (filter (λ x. not (is_drawn number shares x)) slips)
  return_outs n [] d h = absurd (false≢true h)
  return_outs n (x ∷ xs) d h = go (p x) refl h (return_outs n xs d.1)
    where
      go : (b : Bool) → p x ≡ b → cond b true (any p xs) ≡ true
          → (any p xs ≡ true → outs n xs ≡ if_its n number shares + outs n (filter (λ x. not (p x)) xs))
          → cond (is_out n x) x.shares 0 + outs n xs ≡ if_its n number shares + outs n (cond (not b) (x ∷ filter (λ x. not (p x)) xs) (filter (λ x. not (p x)) xs))
      go true e h ih =
          let all = ap (outs n) (kept_all p xs (none_pass p (λ x. x.number) number (drawn_keyed number shares) xs (others x xs (drawn_keyed number shares x e) d.0))) in
          omega (arith, drawn_part number shares n x e)
      go false e h ih = omega (arith, ih h)

  pub return_own : (slips : List Slip) → Distinct (λ x. x.number) slips → any (is_drawn number shares) slips ≡ true
      → outs number (filter (λ x. not (is_drawn number shares x)) slips) ≡ 0
  return_own [] d h = refl
  return_own (x ∷ xs) d h = go (p x) refl h (return_own xs d.1)
    where
      go : (b : Bool) → p x ≡ b → cond b true (any p xs) ≡ true → (any p xs ≡ true → outs number (filter (λ x. not (p x)) xs) ≡ 0)
          → outs number (cond (not b) (x ∷ filter (λ x. not (p x)) xs) (filter (λ x. not (p x)) xs)) ≡ 0
      go true e h ih =
          let none = others x xs (drawn_keyed number shares x e) d.0 in
          ap (outs number) (kept_all p xs (none_pass p (λ x. x.number) number (drawn_keyed number shares) xs none)) ∙ outs_none number xs none
      go false e h ih =
          let ne : x.number ≡ number → ⊥ = λ q. any_key p (λ x. x.number) number (drawn_keyed number shares) xs h (others x xs q d.0) in
          let zero : cond (is_out number x) x.shares 0 ≡ 0 = ap (λ b. cond (b && x.drawn) x.shares 0) (ne_eqb x.number number ne) in
          omega (arith, ih h)
