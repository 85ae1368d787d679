-- The first of three heads comes first in the sequence of fills
use Rattle.std.proofs.Common.{◌≡◌, ℕ, true, false, List, [], ◌∷◌, ◌++◌, Some, None, Option, sym, refl, ap, ◌∙◌, subst, subst₂, append_assoc, append-nil, arith}
use Rattle.std.specs.Borrow.{Bor}
use Rattle.std.specs.Slice.Iter.{iter_rest}
use Rattle.std.specs.List.{AllByRecursion as Each}
use Rattle.std.proofs.ByRecursion.{All-weaker, All-append}
use Rattle.std.proofs.lemmas.Bool.{true≢false}
use Rattle.terms.specs.declared.market.Side.{Side}
use Rattle.terms.specs.declared.orders.RestingOrder.{RestingOrder}
use Rattle.terms.specs.declared.orders.Ranked.{Ranked}
use Rattle.rules.specs.Lists.{Distinct, and_then, picked, sort}
use Rattle.rules.specs.Rules.{ahead}
use Rattle.rules.specs.Sorted.{Sorted}
use Rattle.rules.proofs.Order.{ahead_strict}
use Rattle.rules.proofs.Perms.{sort_least, perm_sort, distinct_perm}
use Rattle.rules.proofs.Picks.{distinct_right}
use Rattle.matching.specs.declared.lane.Lane.{Lane}
use Rattle.matching.specs.declared.lanes.Lanes.{Lanes}
use Rattle.matching.specs.Lanes.{Gives, Took}
use Rattle.matching.specs.Turns.{Fit, GiveAll, Turn, Turned, leads_by, merged}

some_none : {X : Type 0} {x : X} → Some x ≡ None → ⊥
some_none e = let z : ◌≡◌ {A = ℕ} 0 1 = cc in omega arith

-- a head is ahead of each of a list; no head leaves no list
abbrev Led : Side → Option Ranked → List Ranked → Type 0
Led side None l = l ≡ []
Led side (Some x) l = Each (λ y. ahead side x y ≡ true) l

led_nil : (side : Side) (r : Option Ranked) → Led side r []
led_nil side None = refl
led_nil side (Some x) = tt

led_append : (side : Side) (r : Option Ranked) (xs ys : List Ranked) → Led side r xs → Led side r ys → Led side r (xs ++ ys)
led_append side None xs ys h k = rw (h, k)
led_append side (Some x) xs ys h k = All-append (λ y. ahead side x y ≡ true) xs ys h k

-- a head that leads another leads its whole lane
led_by : (side : Side) (r y : Option Ranked) (t : List Ranked) → (y ≡ None → t ≡ []) → Sorted (ahead side) (and_then y t) → leads_by side r y ≡ true → Led side r (and_then y t)
led_by side None None t n s h = n refl
led_by side None (Some y) t n s h = absurd (true≢false (sym h))
led_by side (Some x) None t n s h = subst (Each (λ y. ahead side x y ≡ true)) (sym (n refl)) tt
led_by side (Some x) (Some y) t n s h =
    (h, All-weaker (λ z. ahead side y z ≡ true) (λ z. ahead side x z ≡ true) (λ z. (ahead_strict side).trans x y z h) t s.0)

-- a head leads the rest of its own lane
led_own : (side : Side) (r : Option Ranked) (t : List Ranked) → (r ≡ None → t ≡ []) → Sorted (ahead side) (and_then r t) → Led side r t
led_own side None t n s = n refl
led_own side (Some x) t n s = s.0

sorted_rest : (side : Side) (r : Option Ranked) (t : List Ranked) → Sorted (ahead side) (and_then r t) → Sorted (ahead side) t
sorted_rest side None t s = s
sorted_rest side (Some x) t s = s.1

take_out : (side : Side) (r : Option Ranked) (pre rest post : List Ranked) → Led side r pre → Led side r rest → Led side r post
    → sort (ahead side) (pre ++ (and_then r rest ++ post)) ≡ and_then r (sort (ahead side) (pre ++ (rest ++ post)))
take_out side None pre rest post h k l = refl
take_out side (Some x) pre rest post h k l =
    sort_least (ahead side) (λ o. o.number) (ahead_strict side) pre x (rest ++ post) h (All-append (λ y. ahead side x y ≡ true) rest post k l)

take_none : (side : Side) (r : Option Ranked) (pre rest post : List Ranked) → Led side r pre → Led side r rest → Led side r post
    → r ≡ None → sort (ahead side) (pre ++ (and_then r rest ++ post)) ≡ []
take_none side None pre rest post h k l e = rw (h, k, l)
take_none side (Some x) pre rest post h k l e = absurd (some_none e)

leads_trans : (side : Side) (x y z : Option Ranked) → leads_by side x y ≡ true → leads_by side y z ≡ true → leads_by side x z ≡ true
leads_trans side x y None h k = refl
leads_trans side x None (Some w) h k = absurd (true≢false (sym k))
leads_trans side None (Some v) (Some w) h k = absurd (true≢false (sym h))
leads_trans side (Some u) (Some v) (Some w) h k = (ahead_strict side).trans u v w h k

-- of two heads with different numbers, one leads
leads_turn : (side : Side) (x y : Option Ranked) (s t : List Ranked) → Distinct (λ o. o.number) (and_then x s ++ and_then y t) → leads_by side x y ≡ false → leads_by side y x ≡ true
leads_turn side x None s t d h = absurd (true≢false h)
leads_turn side None (Some v) s t d h = refl
leads_turn side (Some u) (Some v) s t d h = (ahead_strict side).total u v (among s d.0) h
  where
    among : (l : List Ranked) → Each (λ o. o.number ≡ u.number → ⊥) (l ++ v ∷ t) → v.number ≡ u.number → ⊥
    among [] a = a.0
    among (z ∷ zs) a = among zs a.1

behind_none : (r : Option Ranked) (xs rest : List Ranked) → xs ≡ and_then r rest → (r ≡ None → xs ≡ []) → r ≡ None → rest ≡ []
behind_none None xs rest e n q = sym e ∙ n q
behind_none (Some x) xs rest e n q = absurd (some_none q)

distinct_rest : (r : Option Ranked) (l : List Ranked) → Distinct (λ o. o.number) (and_then r l) → Distinct (λ o. o.number) l
distinct_rest None l h = h
distinct_rest (Some x) l h = h.1

pub all_parts : {X : Type 0} (P : X → Type 0) (us vs : List X) → Each P (us ++ vs) → Each P us × Each P vs
all_parts P [] vs h = (tt, h)
all_parts P (u ∷ us) vs h = let p = all_parts P us vs h.1 in ((h.0, p.0), p.1)

-- the first two of three
distinct_two : (xs ys zs : List Ranked) → Distinct (λ o. o.number) (xs ++ (ys ++ zs)) → Distinct (λ o. o.number) (xs ++ ys)
distinct_two xs ys zs h = front (xs ++ ys) (subst (Distinct (λ o. o.number)) (sym (append_assoc xs ys zs)) h)
  where
    front : (us : List Ranked) → Distinct (λ o. o.number) (us ++ zs) → Distinct (λ o. o.number) us
    front [] h = tt
    front (u ∷ us) h = ((all_parts (λ o. o.number ≡ u.number → ⊥) us zs h.0).0, front us h.1)

-- the first and the last of three
distinct_ends : (xs ys zs : List Ranked) → Distinct (λ o. o.number) (xs ++ (ys ++ zs)) → Distinct (λ o. o.number) (xs ++ zs)
distinct_ends [] ys zs h = distinct_right (λ o. o.number) ys zs h
distinct_ends (x ∷ xs) ys zs h =
    let other = λ (o : Ranked). o.number ≡ x.number → ⊥ in
    let p = all_parts other xs (ys ++ zs) h.0 in
    (All-append other xs zs p.0 (all_parts other ys zs p.1).1, distinct_ends xs ys zs h.1)

-- a list and its head, without which it is empty
record Headed (head : Option Ranked) (orders : List Ranked) : Type 0 where
  pub behind : List Ranked
  pub all : orders ≡ and_then head behind
  pub ready : head ≡ None → behind ≡ []

module _ (side : Side) (hx hy hz : Option Ranked) (xs ys zs : List Ranked) (kx : Headed hx xs) (ky : Headed hy ys) (kz : Headed hz zs) (fit : Fit side xs ys zs) where
  apart_all : Distinct (λ o. o.number) (xs ++ (ys ++ zs))
  apart_all = distinct_perm (λ o. o.number) (perm_sort (ahead side) (xs ++ (ys ++ zs))) fit.apart

  turn : (x y : Option Ranked) (us vs : List Ranked) → Headed x us → Headed y vs → Distinct (λ o. o.number) (us ++ vs) → leads_by side x y ≡ false → leads_by side y x ≡ true
  turn x y us vs k l d = leads_turn side x y k.behind l.behind (subst₂ (λ s t. Distinct (λ o. o.number) (s ++ t)) k.all l.all d)

  turn_xy : leads_by side hx hy ≡ false → leads_by side hy hx ≡ true
  turn_xy = turn hx hy xs ys kx ky (distinct_two xs ys zs apart_all)

  turn_xz : leads_by side hx hz ≡ false → leads_by side hz hx ≡ true
  turn_xz = turn hx hz xs zs kx kz (distinct_ends xs ys zs apart_all)

  turn_yz : leads_by side hy hz ≡ false → leads_by side hz hy ≡ true
  turn_yz = turn hy hz ys zs ky kz (distinct_right (λ o. o.number) xs (ys ++ zs) apart_all)

  lead : (h : Option Ranked) (us : List Ranked) → Headed h us → Sorted (ahead side) us → (r g : Option Ranked) → r ≡ g → leads_by side g h ≡ true → Led side r us
  lead h us k s r g e l =
      subst (Led side r) (sym k.all)
      (led_by side r h k.behind k.ready (subst (Sorted (ahead side)) k.all s) (subst (λ v. leads_by side v h ≡ true) (sym e) l))

  module _ (r : Option Ranked) (rest : List Ranked) where
    took_x : r ≡ hx → xs ≡ and_then r rest → (r ≡ None → xs ≡ []) → leads_by side hx hy ≡ true → leads_by side hx hz ≡ true → Turned side xs ys zs r rest ys zs
    took_x h e n xy xz =
        let sorted = subst (Sorted (ahead side)) e fit.first in
        let mine = led_own side r rest (behind_none r xs rest e n) sorted in
        let post = led_append side r ys zs (lead hy ys ky fit.second r hx h xy) (lead hz zs kz fit.third r hx h xz) in
        let start = ap (λ l. sort (ahead side) (l ++ (ys ++ zs))) e in
        let takes = start ∙ take_out side r [] rest (ys ++ zs) (led_nil side r) mine post in
        record {
          takes = takes;
          ends = λ q. start ∙ take_none side r [] rest (ys ++ zs) (led_nil side r) mine post q;
          fit = record {
            first = sorted_rest side r rest sorted;
            second = fit.second;
            third = fit.third;
            apart = distinct_rest r (merged side rest ys zs) (subst (Distinct (λ o. o.number)) takes fit.apart);
          };
        }

    took_y : r ≡ hy → ys ≡ and_then r rest → (r ≡ None → ys ≡ []) → leads_by side hy hx ≡ true → leads_by side hy hz ≡ true → Turned side xs ys zs r xs rest zs
    took_y h e n yx yz =
        let sorted = subst (Sorted (ahead side)) e fit.second in
        let mine = led_own side r rest (behind_none r ys rest e n) sorted in
        let pre = lead hx xs kx fit.first r hy h yx in
        let post = lead hz zs kz fit.third r hy h yz in
        let start = ap (λ l. sort (ahead side) (xs ++ (l ++ zs))) e in
        let takes = start ∙ take_out side r xs rest zs pre mine post in
        record {
          takes = takes;
          ends = λ q. start ∙ take_none side r xs rest zs pre mine post q;
          fit = record {
            first = fit.first;
            second = sorted_rest side r rest sorted;
            third = fit.third;
            apart = distinct_rest r (merged side xs rest zs) (subst (Distinct (λ o. o.number)) takes fit.apart);
          };
        }

    took_z : r ≡ hz → zs ≡ and_then r rest → (r ≡ None → zs ≡ []) → leads_by side hz hx ≡ true → leads_by side hz hy ≡ true → Turned side xs ys zs r xs ys rest
    took_z h e n zx zy =
        let sorted = subst (Sorted (ahead side)) e fit.third in
        let mine = led_own side r rest (behind_none r zs rest e n) sorted in
        let pre = led_append side r xs ys (lead hx xs kx fit.first r hz h zx) (lead hy ys ky fit.second r hz h zy) in
        let out = λ (l : List Ranked). append_assoc xs ys l in
        let nil = led_nil side r in
        let start = ap (λ l. sort (ahead side) (xs ++ (ys ++ l))) (e ∙ sym (append-nil (and_then r rest))) ∙ ap (sort (ahead side)) (sym (out (and_then r rest ++ []))) in
        let back = ap (λ l. and_then r (sort (ahead side) l)) (out (rest ++ []) ∙ ap (λ l. xs ++ (ys ++ l)) (append-nil rest)) in
        let takes = start ∙ (take_out side r (xs ++ ys) rest [] pre mine nil ∙ back) in
        record {
          takes = takes;
          ends = λ q. start ∙ take_none side r (xs ++ ys) rest [] pre mine nil q;
          fit = record {
            first = fit.first;
            second = fit.second;
            third = sorted_rest side r rest sorted;
            apart = distinct_rest r (merged side xs ys rest) (subst (Distinct (λ o. o.number)) takes fit.apart);
          };
        }

module _ {F G : Type 0} {p : F → Bor RestingOrder → Option Ranked → Type 0} {q : G → Bor RestingOrder → Option Ranked → Type 0} (side : Side) (l : Lanes F G) (xs ys zs : List Ranked) (g : GiveAll p q side l xs ys zs) (r : Option Ranked) where
  headed : {H : Type 0} (k : H → Bor RestingOrder → Option Ranked → Type 0) (m : Lane H) (us : List Ranked) → Gives k m us → Headed m.head us
  headed k m us v = record { behind = picked v.f (iter_rest m.rest); all = v.all; ready = v.ready }

  hx : Headed l.fixed.head xs
  hx = headed p l.fixed xs g.fixed

  hy : Headed l.following.head ys
  hy = headed p l.following ys g.following

  hz : Headed l.by_offset.head zs
  hz = headed q l.by_offset zs g.by_offset

  pub turn_a : (t : Lane F) → r ≡ l.fixed.head → Took p t xs r → leads_by side l.fixed.head l.following.head ≡ true → leads_by side l.fixed.head l.by_offset.head ≡ true → Turn p q side xs ys zs r record l { fixed = t }
  turn_a t e k ab ac =
      let turned = took_x side l.fixed.head l.following.head l.by_offset.head xs ys zs hx hy hz g.fit r k.after e k.takes k.ends ab ac in
      record { xs' = k.after; ys' = ys; zs' = zs; turned = turned; gives = record { fixed = k.gives; following = g.following; by_offset = g.by_offset; fit = turned.fit } }

  pub turn_b : (t : Lane F) → r ≡ l.following.head → Took p t ys r → leads_by side l.fixed.head l.following.head ≡ false → leads_by side l.following.head l.by_offset.head ≡ true → Turn p q side xs ys zs r record l { following = t }
  turn_b t e k ab bc =
      let turned = took_y side l.fixed.head l.following.head l.by_offset.head xs ys zs hx hy hz g.fit r k.after e k.takes k.ends (turn_xy side l.fixed.head l.following.head l.by_offset.head xs ys zs hx hy hz g.fit ab) bc in
      record { xs' = xs; ys' = k.after; zs' = zs; turned = turned; gives = record { fixed = g.fixed; following = k.gives; by_offset = g.by_offset; fit = turned.fit } }

  turn_c : (t : Lane G) → r ≡ l.by_offset.head → Took q t zs r → leads_by side l.by_offset.head l.fixed.head ≡ true → leads_by side l.by_offset.head l.following.head ≡ true → Turn p q side xs ys zs r record l { by_offset = t }
  turn_c t e k ca cb =
      let turned = took_z side l.fixed.head l.following.head l.by_offset.head xs ys zs hx hy hz g.fit r k.after e k.takes k.ends ca cb in
      record { xs' = xs; ys' = ys; zs' = k.after; turned = turned; gives = record { fixed = g.fixed; following = g.following; by_offset = k.gives; fit = turned.fit } }

  pub turn_c_a : (t : Lane G) → r ≡ l.by_offset.head → Took q t zs r → leads_by side l.fixed.head l.following.head ≡ true → leads_by side l.fixed.head l.by_offset.head ≡ false → Turn p q side xs ys zs r record l { by_offset = t }
  turn_c_a t e k ab ac =
      let ca = turn_xz side l.fixed.head l.following.head l.by_offset.head xs ys zs hx hy hz g.fit ac in
      turn_c t e k ca (leads_trans side l.by_offset.head l.fixed.head l.following.head ca ab)

  pub turn_c_b : (t : Lane G) → r ≡ l.by_offset.head → Took q t zs r → leads_by side l.fixed.head l.following.head ≡ false → leads_by side l.following.head l.by_offset.head ≡ false → Turn p q side xs ys zs r record l { by_offset = t }
  turn_c_b t e k ab bc =
      let ba = turn_xy side l.fixed.head l.following.head l.by_offset.head xs ys zs hx hy hz g.fit ab in
      let cb = turn_yz side l.fixed.head l.following.head l.by_offset.head xs ys zs hx hy hz g.fit bc in
      turn_c t e k (leads_trans side l.by_offset.head l.following.head l.fixed.head cb ba) cb
