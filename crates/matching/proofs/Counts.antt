-- The orders that count stand along each queue in the sequence of fills
use Rattle.std.proofs.Common.{◌≡◌, ℕ, ◌+◌, ◌-◌, min, max, Bool, true, false, not, ◌&&◌, ◌||◌, eqb, List, [], ◌∷◌, ◌++◌, Some, None, Option, sym, refl, ap, ◌∙◌, subst, subst₂, append-nil, arith}
use Rattle.std.specs.List.{AllByRecursion as Each}
use Rattle.std.proofs.ByRecursion.{All-weaker}
use Rattle.std.proofs.lemmas.Bool.{eq-eqb, eqb-true, and_parts, true≢false}
use Rattle.std.proofs.lemmas.Bool.Decides.{nat_tests}
use Rattle.terms.specs.declared.market.Side.{Side}
use Rattle.terms.specs.declared.market.Side.TheVariants.{Buy, Sell}
use Rattle.terms.specs.declared.orders.OrderKind.{OrderKind}
use Rattle.terms.specs.declared.orders.OrderKind.TheVariants.{Rpi, Hidden, Displayed}
use Rattle.terms.specs.declared.orders.RestingOrder.{RestingOrder}
use Rattle.terms.specs.declared.orders.RetailOrder.{RetailOrder}
use Rattle.terms.specs.declared.orders.Ranked.{Ranked}
use Rattle.terms.specs.Words.{only_if, keep_if, same_side}
use Rattle.rules.specs.Lists.{Distinct, picked, and_then, read, sort}
use Rattle.rules.specs.Rules.{BestPair, own_side, priced, ranked_price, opposite, better, eligible_at, quote_allows, no_worse, at_price, candidate, eligible, earlier, is_displayed, ahead}
use Rattle.rules.specs.Sorted.{Sorted, Perm}
use Rattle.rules.specs.Sorted.Perm.{perm_cons, perm_trans}
use Rattle.rules.proofs.Members.{distinct_picked}
use Rattle.rules.proofs.Order.{ahead_strict}
use Rattle.rules.proofs.Perms.{perm_refl, perm_sym, perm_is, perm_left, perm_both, perm_middle, perm_sort, sort_perm, perm_picked, picked_append}
use Rattle.rules.proofs.Relations.{found_eligible}
use Rattle.queues.specs.Queues.{Lined, first_by_limit, first_by_offset, offset_of}
use Rattle.rules.proofs.Picks.{sorted_picked}
use Rattle.queues.proofs.Testing.{side_from}
use Rattle.matching.specs.Lanes.{at_limit, counted, off_limit}

none_some : {X : Type 0} (x : X) → ◌≡◌ {A = Option X} None (Some x) → ⊥
none_some x e = let z : ◌≡◌ {A = ℕ} 0 1 = cc in omega arith

-- WHAT COUNTS

-- What counts is the eligible order at its ranked price, and it counts there.
pub record Counted (counts : ℕ → ℕ → Bool) (best : BestPair) (r : RetailOrder) (o : RestingOrder) (e : Ranked) : Type 0 where
  pub ranks : ranked_price best o ≡ Some e.price
  pub meets : eligible_at best r o e.price ≡ true
  pub is : e ≡ at_price o e.price
  pub there : counts e.price o.limit ≡ true

kept : (p : Ranked → Bool) (m : Option Ranked) (e : Ranked) → keep_if p m ≡ Some e → (m ≡ Some e) × (p e ≡ true)
kept p None e h = absurd (none_some e h)
kept p (Some x) e h = go (p x) refl h
  where
    go : (b : Bool) → p x ≡ b → only_if b (Some x) ≡ Some e → (◌≡◌ {A = Option Ranked} (Some x) (Some e)) × (p e ≡ true)
    go true i j = (j, let s : x ≡ e = cc in subst (λ v. p v ≡ true) s i)
    go false i j = absurd (none_some e j)

pub counted_is : (counts : ℕ → ℕ → Bool) (best : BestPair) (r : RetailOrder) (o : RestingOrder) (e : Ranked) → counted counts best r o ≡ Some e → Counted counts best r o e
counted_is counts best r o e h =
    let k = kept (λ e. counts e.price o.limit) (candidate best r o) e h in
    let found = found_eligible best r o e (ranked_price best o) k.0 in
    record { ranks = found.0; meets = found.1; is = found.2; there = k.1 }

-- A price off the limit is the protected quote and the offset.
abbrev pub Far : Side → Option ℕ → (offset price : ℕ) → Type 0
Far side None offset p = ⊥
Far Buy (Some bid) offset p = p ≡ bid + offset
Far Sell (Some offer) offset p = p + offset ≡ offer

far : (kind : OrderKind) (offset : Option ℕ) (side : Side) (limit : ℕ) (quote : Option ℕ) (p : ℕ) → priced kind offset side limit quote ≡ Some p → (p ≡ limit → ⊥) → Far side quote (read (λ d. d) 0 offset) p
far Rpi None side limit quote p e n = let z : limit ≡ p = cc in absurd (n (sym z))
far Rpi (Some d) side limit None p e n = absurd (none_some p e)
far Rpi (Some d) Buy limit (Some q) p e n = let z : min limit (q + d) ≡ p = cc in omega arith
far Rpi (Some d) Sell limit (Some q) p e n = let z : max limit (q - d) ≡ p = cc in omega arith
far Hidden offset side limit quote p e n = let z : limit ≡ p = cc in absurd (n (sym z))
far Displayed offset side limit quote p e n = let z : limit ≡ p = cc in absurd (n (sym z))

-- so the larger offset is the better price for the customer
far_ahead : (side : Side) (quote : Option ℕ) (a b p m : ℕ) (e : Bool) → Far side quote a p → Far side quote b m
    → (better Sell a b || (eqb a b && e)) ≡ true → (better (opposite side) p m || (eqb p m && e)) ≡ true
far_ahead side None a b p m e h k t = absurd h
far_ahead Buy (Some q) a b p m e h k t = grind (arith, nat_tests)
far_ahead Sell (Some q) a b p m e h k t = grind (arith, nat_tests)

-- SIDES

-- a Retail Order meets orders of the other side only
pub met_side : (side customer : Side) → same_side side (opposite customer) ≡ true → opposite side ≡ customer
met_side Buy Sell h = refl
met_side Sell Buy h = refl
met_side Buy Buy h = absurd (true≢false (sym h))
met_side Sell Sell h = absurd (true≢false (sym h))

same_sides : (side : Side) → same_side side side ≡ true
same_sides Buy = refl
same_sides Sell = refl

pub picked_none : {X Y : Type 0} (f : X → Option Y) (xs : List X) → Each (λ x. f x ≡ None) xs → picked f xs ≡ []
picked_none f [] h = refl
picked_none f (x ∷ xs) h = rw h.0 (picked_none f xs h.1)

module _ (best : BestPair) (r : RetailOrder) where
  -- what counts is of the side that the Retail Order meets
  pub met : (counts : ℕ → ℕ → Bool) (o : RestingOrder) (e : Ranked) → Counted counts best r o e → o.side ≡ opposite r.side
  met counts o e c =
      side_from o.side (opposite r.side)
      (and_parts (same_side o.side (opposite r.side)) (quote_allows o.kind r.kind r.side e.price (own_side best o.side) && no_worse r.side e.price r.limit) c.meets).0

  -- where it meets no order of a side, none counts
  pub unmet : (counts : ℕ → ℕ → Bool) (side : Side) → same_side side (opposite r.side) ≡ false → (o : RestingOrder) → o.side ≡ side → counted counts best r o ≡ None
  unmet counts side n o e = go (counted counts best r o) refl
    where
      go : (m : Option Ranked) → counted counts best r o ≡ m → m ≡ None
      go None h = refl
      go (Some k) h =
          let same = sym e ∙ met counts o k (counted_is counts best r o k h) in
          absurd (true≢false (sym (same_sides side) ∙ (ap (same_side side) same ∙ n)))

  -- SEQUENCE

  -- What counts of a queue stands in the sequence of fills, if that follows from how the queue is ordered.
  in_sequence : (counts : ℕ → ℕ → Bool) (side : Side) (lt : RestingOrder → RestingOrder → Bool)
      → (opposite side ≡ r.side → (o p : RestingOrder) (e f : Ranked) → Counted counts best r o e → Counted counts best r p f → lt o p ≡ true → ahead r.side e f ≡ true)
      → (xs : List RestingOrder) → Each (λ o. o.side ≡ side) xs → Sorted lt xs → Sorted (ahead r.side) (picked (counted counts best r) xs)
  in_sequence counts side lt same xs of_side sorted = go (same_side side (opposite r.side)) refl
    where
      go : (b : Bool) → same_side side (opposite r.side) ≡ b → Sorted (ahead r.side) (picked (counted counts best r) xs)
      go true i =
          let customer = met_side side r.side i in
          sorted_picked (counted counts best r) lt (ahead r.side) (λ o p e f h k l. same customer o p e f (counted_is counts best r o e h) (counted_is counts best r p f k) l) xs sorted
      go false i =
          subst (Sorted (ahead r.side)) (sym (picked_none (counted counts best r) xs (All-weaker (λ o. o.side ≡ side) (λ o. counted counts best r o ≡ None) (unmet counts side i) xs of_side))) tt

  -- in the first two queues
  pub at_sorted : (side : Side) (xs : List RestingOrder) → Each (λ o. o.side ≡ side) xs → Sorted (first_by_limit side) xs → Sorted (ahead r.side) (picked (counted at_limit best r) xs)
  at_sorted side = in_sequence at_limit side (first_by_limit side) same
    where
      at : (o : RestingOrder) (e : Ranked) → Counted at_limit best r o e → at_price o o.limit ≡ e
      at o e c = sym (c.is ∙ ap (at_price o) (eqb-true e.price o.limit c.there))

      same : opposite side ≡ r.side → (o p : RestingOrder) (e f : Ranked) → Counted at_limit best r o e → Counted at_limit best r p f → first_by_limit side o p ≡ true → ahead r.side e f ≡ true
      same customer o p e f c d l = subst (λ s. ahead s e f ≡ true) customer (subst₂ (λ v w. ahead (opposite side) v w ≡ true) (at o e c) (at p f d) l)

  -- In the third queue the price of an order is the quote on the side that is met, and the order's offset.
  pub off_far : (o : RestingOrder) (e : Ranked) → Counted off_limit best r o e → Far (opposite r.side) (own_side best (opposite r.side)) (offset_of o) e.price
  off_far o e c =
      subst (λ s. Far s (own_side best s) (offset_of o) e.price) (met off_limit o e c)
      (far o.kind o.offset o.side o.limit (own_side best o.side) e.price c.ranks (λ i. true≢false (sym c.there ∙ ap not (eq-eqb e.price o.limit i))))

  opposite_back : (s : Side) → opposite (opposite s) ≡ s
  opposite_back Buy = refl
  opposite_back Sell = refl

  -- in the third
  pub off_sorted : (side : Side) (xs : List RestingOrder) → Each (λ o. o.side ≡ side) xs → Sorted first_by_offset xs → Sorted (ahead r.side) (picked (counted off_limit best r) xs)
  off_sorted side = in_sequence off_limit side first_by_offset (λ _. same)
    where
      same : (o p : RestingOrder) (e f : Ranked) → Counted off_limit best r o e → Counted off_limit best r p f → first_by_offset o p ≡ true → ahead r.side e f ≡ true
      same o p e f c d l =
          let first = earlier (is_displayed o.kind) (is_displayed p.kind) o.number p.number in
          let s = opposite r.side in
          subst₂ (λ v w. ahead r.side v w ≡ true) (sym c.is) (sym d.is)
          (subst (λ t. (better t e.price f.price || (eqb e.price f.price && first)) ≡ true) (opposite_back r.side)
          (far_ahead s (own_side best s) (offset_of o) (offset_of p) e.price f.price first (off_far o e c) (off_far p f d) l))

  -- THREE QUEUES

  -- each order that is eligible counts once
  split : (xs : List RestingOrder) → Perm (picked (candidate best r) xs) (picked (counted at_limit best r) xs ++ picked (counted off_limit best r) xs)
  split [] = perm_refl []
  split (o ∷ os) = one (candidate best r o) (picked (candidate best r) os) (picked (counted at_limit best r) os) (picked (counted off_limit best r) os) (split os)
    where
      bool : (b : Bool) (e : Ranked) (es us vs : List Ranked) → Perm es (us ++ vs) → Perm (e ∷ es) (and_then (only_if b (Some e)) us ++ and_then (only_if (not b) (Some e)) vs)
      bool true e es us vs p = perm_cons p
      bool false e es us vs p = perm_trans (perm_cons p) (perm_sym (perm_middle us e vs))

      one : (m : Option Ranked) (es us vs : List Ranked) → Perm es (us ++ vs)
          → Perm (and_then m es) (and_then (keep_if (λ e. eqb e.price o.limit) m) us ++ and_then (keep_if (λ e. not (eqb e.price o.limit)) m) vs)
      one None es us vs p = p
      one (Some e) es us vs p = bool (eqb e.price o.limit) e es us vs p

  -- an order without an offset counts at its limit only
  fixed_none : (o : RestingOrder) → o.offset ≡ None → counted off_limit best r o ≡ None
  fixed_none o e = go (counted off_limit best r o) refl
    where
      limit_only : (kind : OrderKind) (side : Side) (limit : ℕ) (quote : Option ℕ) (p : ℕ) → priced kind None side limit quote ≡ Some p → p ≡ limit
      limit_only Rpi side limit quote p h = let z : limit ≡ p = cc in sym z
      limit_only Hidden side limit quote p h = let z : limit ≡ p = cc in sym z
      limit_only Displayed side limit quote p h = let z : limit ≡ p = cc in sym z

      go : (m : Option Ranked) → counted off_limit best r o ≡ m → m ≡ None
      go None h = refl
      go (Some k) h =
          let c = counted_is off_limit best r o k h in
          let at = limit_only o.kind o.side o.limit (own_side best o.side) k.price (subst (λ d. priced o.kind d o.side o.limit (own_side best o.side) ≡ Some k.price) e c.ranks) in
          absurd (true≢false (sym c.there ∙ ap not (eq-eqb k.price o.limit at)))

  pub distinct_eligible : (os : List RestingOrder) → Distinct (λ o. o.number) os → Distinct (λ e. e.number) (eligible best r os)
  distinct_eligible os h =
      distinct_picked (candidate best r) (λ o. o.number) (λ e. e.number) (λ o e k. ap (λ v. v.number) (found_eligible best r o e (ranked_price best o) k).2) os h

  -- The eligible orders in the sequence of fills are those that count, from the three queues.
  pub three_queues : (side : Side) (fixed following again : List RestingOrder) → Lined side fixed following again
      → sort (ahead r.side) (eligible best r (fixed ++ following))
      ≡ sort (ahead r.side) (picked (counted at_limit best r) fixed ++ (picked (counted at_limit best r) following ++ picked (counted off_limit best r) again))
  three_queues side fixed following again l =
      let none = picked_none (counted off_limit best r) fixed (All-weaker (λ o. o.offset ≡ None) (λ o. counted off_limit best r o ≡ None) fixed_none fixed l.no_offsets) in
      let third = perm_sym (perm_trans (perm_is l.third) (perm_sort first_by_offset following)) in
      sort_perm (ahead r.side) (λ e. e.number) (ahead_strict r.side)
      (distinct_eligible (fixed ++ following) l.apart)
      (perm_trans (perm_is (picked_append (candidate best r) fixed following))
      (perm_both
      (perm_trans (split fixed) (perm_is (ap (λ v. picked (counted at_limit best r) fixed ++ v) none ∙ append-nil (picked (counted at_limit best r) fixed))))
      (perm_trans (split following) (perm_left (picked (counted at_limit best r) following) (perm_picked (counted off_limit best r) third)))))
