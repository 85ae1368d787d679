-- The walk: what is written, and what is yet to come
use Rattle.std.proofs.Common.{◌≡◌, ℕ, suc, ◌+◌, ◌-◌, ◌<◌, ◌≤◌, min, eqb, List, [], ◌∷◌, ◌++◌, length, get_or, drop, set, Some, Option, sym, refl, ap, ◌∙◌, subst, subst₂, append_assoc, append-nil, arith}
use Rattle.std.specs.Borrow.{Bor}
use Rattle.std.specs.List.{AllByRecursion as Each}
use Rattle.std.proofs.lemmas.List.{at_drop_more, nil_from_length, set_at, length-append, length_push}
use Rattle.std.proofs.lemmas.Bool.{cond_both, cond-false, ne_eqb}
use Rattle.terms.specs.declared.market.Side.{Side}
use Rattle.terms.specs.declared.orders.RestingOrder.{RestingOrder}
use Rattle.terms.specs.declared.orders.RetailOrder.{RetailOrder}
use Rattle.terms.specs.declared.orders.Ranked.{Ranked}
use Rattle.terms.specs.declared.orders.Fill.{Fill}
use Rattle.rules.specs.Lists.{Distinct, picked, sort}
use Rattle.rules.specs.Rules.{BestPair, candidate, eligible, ahead, fill_of, along, fills, filled}
use Rattle.rules.proofs.Members.{sum_push}
use Rattle.rules.proofs.Perms.{perm_sort}
use Rattle.rules.proofs.Sorting.{all_sort, distinct_sort}
use Rattle.queues.specs.Queues.{Lined, first_by_offset}
use Rattle.queues.proofs.Enters.{length_same}
use Rattle.rules.proofs.Picks.{length_picked}
use Rattle.queues.proofs.Strictness.{sorted_again}
use Rattle.matching.specs.declared.lane.Lane.{Lane}
use Rattle.matching.specs.declared.lanes.Lanes.{Lanes}
use Rattle.matching.specs.declared.walk.Matched.{Matched}
use Rattle.matching.specs.Lanes.{Gives, at_limit, counted, off_limit}
use Rattle.matching.specs.Turns.{Fit, GiveAll, Turn, Turned, merged}
use Rattle.matching.specs.Walks.{Written}
use Rattle.matching.proofs.Heads.{all_parts}
use Rattle.matching.specs.Reach.{Reaches, within_limit, within_offset}
use Rattle.matching.proofs.Reaching.{limit_front, offset_front}
use Rattle.matching.proofs.Counts.{three_queues, at_sorted, off_sorted, distinct_eligible}

-- Some fills are written, and some orders give the rest of all the fills fs of n shares.
pub record Going (side : Side) (fs : List Fill) (n : ℕ) (xs ys zs : List Ranked) (before out : List Fill) (count left : ℕ) : Type 0 where
  pub done : List Fill
  pub counts : length done ≡ count
  pub shares : filled done + left ≡ n
  pub places : out ≡ done ++ drop count before
  pub goes : done ++ along (merged side xs ys zs) left ≡ fs
  pub short : length fs ≤ length before

length_along : (q : List Ranked) (n : ℕ) → length (along q n) ≤ length q
length_along [] n = omega arith
length_along (o ∷ os) n =
    cond_both (eqb n 0) [] (fill_of o (min n o.shares) ∷ along os (n - o.shares)) (λ l. length l ≤ suc (length os))
    (λ _. omega arith) (λ _. omega (arith, length_along os (n - o.shares)))

-- there are no more fills than orders
pub length_fills : (best : BestPair) (r : RetailOrder) (os : List RestingOrder) (n : ℕ) → length (fills r.side (eligible best r os) n) ≤ length os
length_fills best r os n =
    let es = eligible best r os in
    omega (arith, length_along (sort (ahead r.side) es) n, length_same (perm_sort (ahead r.side) es), length_picked (candidate best r) os)

along_more : (e : Ranked) (q : List Ranked) (n : ℕ) → 0 < n → along (e ∷ q) n ≡ fill_of e (min n e.shares) ∷ along q (n - min n e.shares)
along_more e q n h =
    cond-false (eqb n 0) [] (fill_of e (min n e.shares) ∷ along q (n - e.shares)) (ne_eqb n 0 (λ z. omega arith))
    ∙ (let s : n - e.shares ≡ n - min n e.shares = omega arith in ap (λ v. fill_of e (min n e.shares) ∷ along q v) s)

module _ (side : Side) (fs : List Fill) (n : ℕ) (xs ys zs : List Ranked) (before out : List Fill) (count left : ℕ) (g : Going side fs n xs ys zs before out count left) where
  module _ (e : Ranked) (xs' ys' zs' : List Ranked) (t : Turned side xs ys zs (Some e) xs' ys' zs') (some : 0 < left) where
    next : along (merged side xs ys zs) left ≡ fill_of e (min left e.shares) ∷ along (merged side xs' ys' zs') (left - min left e.shares)
    next = ap (λ q. along q left) t.takes ∙ along_more e (merged side xs' ys' zs') left some

    pub going_room : count < length before
    going_room =
        let i = ap length g.goes in
        let j = ap length next in
        omega (arith, length-append g.done (along (merged side xs ys zs) left), g.counts, g.short)

    pub going_more : Going side fs n xs' ys' zs' before (set out count (fill_of e (min left e.shares))) (count + 1) (left - min left e.shares)
    going_more =
        let f = fill_of e (min left e.shares) in
        let rest = along (merged side xs' ys' zs') (left - min left e.shares) in
        record {
          done = g.done ++ f ∷ [];
          counts = length_push g.done f ∙ ap (λ n. n + 1) g.counts;
          shares = omega (arith, sum_push (λ f. f.shares) g.done f, g.shares);
          places =
              ap (λ l. set l count f) g.places
              ∙ (at_drop_more (λ l. set (g.done ++ l) count f) before count f going_room
              ∙ (set_at g.done (get_or before count f) (drop (count + 1) before) f count g.counts
              ∙ sym (append_assoc g.done (f ∷ []) (drop (count + 1) before))));
          goes = append_assoc g.done (f ∷ []) rest ∙ (ap (λ l. g.done ++ l) (sym next) ∙ g.goes);
          short = g.short;
        }

  -- nothing is left to write
  ended : along (merged side xs ys zs) left ≡ [] → (m : Matched) → m.fills ≡ count → m.shares ≡ n - left → Written fs before out m
  ended e m i j =
      let same : g.done ≡ fs = sym (append-nil g.done) ∙ (ap (λ l. g.done ++ l) (sym e) ∙ g.goes) in
      let long : length fs ≡ count = ap length (sym same) ∙ g.counts in
      let sum : filled g.done ≡ filled fs = ap filled same in
      record {
        count = i ∙ sym long;
        shares = j ∙ omega (arith, g.shares, sum);
        places = g.places ∙ (ap (λ l. l ++ drop count before) same ∙ ap (λ k. fs ++ drop k before) (sym long));
        within = g.short;
      }

  -- all shares are filled
  pub going_all : left ≤ 0 → (m : Matched) → m.fills ≡ count → m.shares ≡ n - left → Written fs before out m
  going_all h = ended (let z : left ≡ 0 = omega arith in ap (along (merged side xs ys zs)) z ∙ none (merged side xs ys zs))
    where
      none : (q : List Ranked) → along q 0 ≡ []
      none [] = refl
      none (x ∷ xs) = refl

  -- no order is left
  pub going_out : merged side xs ys zs ≡ [] → (m : Matched) → m.fills ≡ count → m.shares ≡ n - left → Written fs before out m
  going_out h = ended (ap (λ q. along q left) h)

  -- no place is left
  pub going_full : length before ≤ count → (m : Matched) → m.fills ≡ count → m.shares ≡ n - left → Written fs before out m
  going_full h =
      let rest = along (merged side xs ys zs) left in
      let i = ap length g.goes in
      ended (nil_from_length rest (omega (arith, length-append g.done rest, g.counts, g.short)))

module _ {F G : Type 0} (p : F → Bor RestingOrder → Option Ranked → Type 0) (q : G → Bor RestingOrder → Option Ranked → Type 0) where
  -- some fills are written, and three lanes give the rest
  pub record Walking (side : Side) (fs : List Fill) (n : ℕ) (l : Lanes F G) (before out : List Fill) (count left : ℕ) : Type 0 where
    pub xs : List Ranked
    pub ys : List Ranked
    pub zs : List Ranked
    pub gives : GiveAll p q side l xs ys zs
    pub going : Going side fs n xs ys zs before out count left

  module _ {side : Side} {fs : List Fill} {n : ℕ} {l : Lanes F G} {before out : List Fill} {count left : ℕ} (w : Walking side fs n l before out count left) where
    pub walking_more : (e : Ranked) (l' : Lanes F G) → ((xs ys zs : List Ranked) → GiveAll p q side l xs ys zs → Turn p q side xs ys zs (Some e) l') → 0 < left
        → (given place : ℕ) → given ≡ min left e.shares → count ≡ place → Walking side fs n l' before (set out place (fill_of e given)) (count + 1) (left - given)
    walking_more e l' turn some given place is at =
        let t = turn w.xs w.ys w.zs w.gives in
        let more = going_more side fs n w.xs w.ys w.zs before out count left w.going e t.xs' t.ys' t.zs' t.turned some in
        record {
          xs = t.xs';
          ys = t.ys';
          zs = t.zs';
          gives = t.gives;
          going = subst₂ (λ m i. Going side fs n t.xs' t.ys' t.zs' before (set out i (fill_of e m)) (count + 1) (left - m)) (sym is) at more;
        }

    pub walked_out : ((xs ys zs : List Ranked) → GiveAll p q side l xs ys zs → merged side xs ys zs ≡ []) → (m : Matched) → m.fills ≡ count → m.shares ≡ n - left → Written fs before out m
    walked_out ends = going_out side fs n w.xs w.ys w.zs before out count left w.going (ends w.xs w.ys w.zs w.gives)

    pub walked_all : left ≤ 0 → (m : Matched) → m.fills ≡ count → m.shares ≡ n - left → Written fs before out m
    walked_all = going_all side fs n w.xs w.ys w.zs before out count left w.going

    pub walked_full : length before ≤ count → (m : Matched) → m.fills ≡ count → m.shares ≡ n - left → Written fs before out m
    walked_full = going_full side fs n w.xs w.ys w.zs before out count left w.going

-- what the three lanes of a side give at the start
pub queues_fit : (best : BestPair) (r : RetailOrder) (side : Side) (fixed following again : List RestingOrder) → Lined side fixed following again
    → Fit r.side (picked (counted at_limit best r) fixed) (picked (counted at_limit best r) following) (picked (counted off_limit best r) again)
queues_fit best r side fixed following again l =
    record {
      first = at_sorted best r side fixed of_side.0 l.first;
      second = at_sorted best r side following of_side.1 l.second;
      third = off_sorted best r side again third (sorted_again side fixed following again l);
      apart = subst (Distinct (λ e. e.number)) (three_queues best r side fixed following again l) (distinct_sort (ahead r.side) (λ e. e.number) (eligible best r (fixed ++ following)) (distinct_eligible best r (fixed ++ following) l.apart));
    }
  where
    of_side : Each (λ o. o.side ≡ side) fixed × Each (λ o. o.side ≡ side) following
    of_side = all_parts (λ o. o.side ≡ side) fixed following l.of_side

    third : Each (λ o. o.side ≡ side) again
    third = subst (Each (λ o. o.side ≡ side)) (sym l.third) (all_sort first_by_offset (λ o. o.side ≡ side) following of_side.1)

pub gives_from : {F : Type 0} {p : F → Bor RestingOrder → Option Ranked → Type 0} {l : Lane F} {es fs : List Ranked} → es ≡ fs → Gives p l es → Gives p l fs
gives_from {p = p} {l = l} e g = subst (λ v. Gives p l v) e g

-- what counts of the parts that a Retail Order goes down is what counts of the three queues
pub record Fronts (best : BestPair) (r : RetailOrder) (fixed following again front second third : List RestingOrder) : Type 0 where
  pub fixed_front : picked (counted at_limit best r) front ≡ picked (counted at_limit best r) fixed
  pub following_front : picked (counted at_limit best r) second ≡ picked (counted at_limit best r) following
  pub again_front : picked (counted off_limit best r) third ≡ picked (counted off_limit best r) again

pub fronts_count : (best : BestPair) (r : RetailOrder) (side : Side) (fixed following again front second third : List RestingOrder) → Lined side fixed following again
    → Reaches (within_limit best r) fixed front → Reaches (within_limit best r) following second → Reaches (within_offset best r) again third
    → Fronts best r fixed following again front second third
fronts_count best r side fixed following again front second third l i j k =
    let of_side = all_parts (λ o. o.side ≡ side) fixed following l.of_side in
    record {
      fixed_front = limit_front best r side fixed front of_side.0 l.first i;
      following_front = limit_front best r side following second of_side.1 l.second j;
      again_front = offset_front best r again third (sorted_again side fixed following again l) k;
    }

-- what three lanes give that go down the three queues of a side are the fills
pub fills_given : (best : BestPair) (r : RetailOrder) (side : Side) (fixed following again : List RestingOrder) → Lined side fixed following again → (n : ℕ)
    → along (merged r.side (picked (counted at_limit best r) fixed) (picked (counted at_limit best r) following) (picked (counted off_limit best r) again)) n ≡ fills r.side (eligible best r (fixed ++ following)) n
fills_given best r side fixed following again l n = ap (λ q. along q n) (sym (three_queues best r side fixed following again l))
