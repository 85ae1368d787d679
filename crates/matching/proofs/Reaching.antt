-- No order after the part of a queue that is reached counts
use Rattle.std.proofs.Common.{◌≡◌, ℕ, zero, suc, ◌<◌, ◌≤◌, zero-le, Bool, true, false, not, ◌&&◌, ◌||◌, nat_le, List, [], ◌∷◌, ◌++◌, length, get_or, take, drop, Some, None, Option, cond, eqb, sym, refl, ap, ◌∙◌, subst, arith, length-take-le, append-nil}
use Rattle.std.specs.List.{AllByRecursion as Each, AllWithin}
use Rattle.std.specs.List.Sorted.{IsPartitionedBy, IsPartitionPoint}
use Rattle.std.proofs.ByRecursion.{All-weaker}
use Rattle.std.proofs.lemmas.List.{take-append-drop}
use Rattle.std.proofs.lemmas.Bool.{eqb-true, and_parts, true≢false}
use Rattle.std.proofs.lemmas.Bool.Decides.{nat_tests}
use Rattle.terms.specs.declared.market.Side.{Side}
use Rattle.terms.specs.declared.market.Side.TheVariants.{Buy, Sell}
use Rattle.terms.specs.declared.orders.OrderKind.{OrderKind}
use Rattle.terms.specs.declared.orders.OrderKind.TheVariants.{Rpi, Hidden, Displayed}
use Rattle.terms.specs.declared.orders.RetailType.{RetailType}
use Rattle.terms.specs.declared.orders.RetailType.TheVariants.{One, Two, TwoRoutable}
use Rattle.terms.specs.declared.orders.RestingOrder.{RestingOrder}
use Rattle.terms.specs.declared.orders.RetailOrder.{RetailOrder}
use Rattle.terms.specs.declared.orders.Ranked.{Ranked}
use Rattle.rules.specs.Sorted.{Sorted}
use Rattle.terms.specs.Words.{same_side}
use Rattle.rules.specs.Lists.{picked}
use Rattle.rules.specs.Rules.{BestPair, ahead, at_price, better, improves, least_improvement, lowest_rpi_price, matches, no_worse, opposite, ordinary_eligible, own_side, quote_allows}
use Rattle.rules.proofs.Parts.{each_behind, each_drop, parted}
use Rattle.rules.proofs.Perms.{picked_append}
use Rattle.queues.specs.Queues.{first_by_limit, first_by_offset, offset_of}
use Rattle.matching.specs.Lanes.{at_limit, counted, off_limit}
use Rattle.matching.specs.Reach.{Reaches, off_price, off_within, within_limit, within_offset, worse_of, worst_price}
use Rattle.matching.proofs.Counts.{Far, counted_is, met, met_side, off_far, picked_none, unmet}

-- a point of partition is how far a queue is reached
pub reached : (p : RestingOrder → Bool) (queue : List RestingOrder) (i : ℕ) → i ≤ length queue → (IsPartitionedBy p queue → IsPartitionPoint (λ o. p o ≡ true) (λ o. p o ≡ false) queue i) → Reaches p queue (take i queue)
reached p queue i within point =
    let long = length-take-le i queue within in
    record {
      here = ap (λ n. take n queue) (sym long);
      behind = λ parted. subst (λ n. Each (λ o. p o ≡ false) (drop n queue)) (sym long) (each_drop (λ o. p o ≡ false) queue i (point parted).1);
    }

-- WHAT COUNTS IS REACHED

-- what is worse than another is worse than what this is worse than
worse_on : (customer : Side) (w a b : ℕ) (e : Bool) → (better customer a b || (eqb a b && e)) ≡ true → not (better customer w a) ≡ false → not (better customer w b) ≡ false
worse_on Buy w a b e h k = grind (arith, nat_tests)
worse_on Sell w a b e h k = grind (arith, nat_tests)

-- the larger offset is the better price
off_worse : (met : Side) (q a b limit : ℕ) (e : Bool) → (better Sell a b || (eqb a b && e)) ≡ true
    → not (better (opposite met) limit (off_price met q a)) ≡ false → not (better (opposite met) limit (off_price met q b)) ≡ false
off_worse Buy q a b limit e h k = grind (arith, nat_tests)
off_worse Sell q a b limit e h k = grind (arith, nat_tests)

-- Every eligible price is no worse than the protected quote, if there is one.
improves_matches : (mills : ℕ) (customer : Side) (p : ℕ) (quote : Option ℕ) → improves mills customer p quote ≡ true → matches customer p quote ≡ true
improves_matches mills customer p None h = refl
improves_matches mills Buy p (Some q) h = grind (arith, nat_tests)
improves_matches mills Sell p (Some q) h = grind (arith, nat_tests)

ordinary_matches : (type : RetailType) (customer : Side) (p : ℕ) (quote : Option ℕ) → ordinary_eligible type customer p quote ≡ true → matches customer p quote ≡ true
ordinary_matches One customer p quote h = improves_matches 1 customer p quote h
ordinary_matches Two customer p quote h = h
ordinary_matches TwoRoutable customer p quote h = h

allowed_matches : (kind : OrderKind) (type : RetailType) (customer : Side) (p : ℕ) (quote : Option ℕ) → quote_allows kind type customer p quote ≡ true → matches customer p quote ≡ true
allowed_matches Rpi type customer p quote h = improves_matches least_improvement customer p quote (and_parts (improves least_improvement customer p quote) (nat_le lowest_rpi_price p) h).0
allowed_matches Hidden type customer p quote h = ordinary_matches type customer p quote h
allowed_matches Displayed type customer p quote h = ordinary_matches type customer p quote h

no_worse_than : (customer : Side) (limit p : ℕ) (quote : Option ℕ) → no_worse customer p limit ≡ true → matches customer p quote ≡ true → not (better customer (worse_of customer limit quote) p) ≡ true
no_worse_than Buy limit p None h k = grind (arith, nat_tests)
no_worse_than Sell limit p None h k = grind (arith, nat_tests)
no_worse_than Buy limit p (Some q) h k = go (better Buy q limit)
  where
    go : (b : Bool) → not (better Buy (cond b q limit) p) ≡ true
    go true = grind (arith, nat_tests)
    go false = grind (arith, nat_tests)
no_worse_than Sell limit p (Some q) h k = go (better Sell q limit)
  where
    go : (b : Bool) → not (better Sell (cond b q limit) p) ≡ true
    go true = grind (arith, nat_tests)
    go false = grind (arith, nat_tests)

opposite_back : (s : Side) → opposite (opposite s) ≡ s
opposite_back Buy = refl
opposite_back Sell = refl

-- A price that is the quote and an offset is reached, if it is no worse than the limit,
off_price_within : (met : Side) (quote : Option ℕ) (offset p limit : ℕ) → Far met quote offset p → no_worse (opposite met) p limit ≡ true → (q : ℕ) → quote ≡ Some q → not (better (opposite met) limit (off_price met q offset)) ≡ true
off_price_within met None offset p limit f h q e = absurd f
off_price_within Buy (Some x) offset p limit f h q e = let s : x ≡ q = cc in grind (arith, nat_tests)
off_price_within Sell (Some x) offset p limit f h q e = let s : x ≡ q = cc in grind (arith, nat_tests)

off_reached : (r : RetailOrder) (o : RestingOrder) (quote : Option ℕ) (p : ℕ) → Far (opposite r.side) quote (offset_of o) p → no_worse r.side p r.limit ≡ true → off_within quote r o ≡ true
off_reached r o None p f h = absurd f
off_reached r o (Some q) p f h =
    let back = opposite_back r.side in
    subst (λ s. not (better s r.limit (off_price (opposite r.side) q (offset_of o))) ≡ true) back
    (off_price_within (opposite r.side) (Some q) (offset_of o) p r.limit f (subst (λ s. no_worse s p r.limit ≡ true) (sym back) h) q refl)

-- and an order after one that is not reached is not reached.
off_down : (r : RetailOrder) (a b : RestingOrder) (quote : Option ℕ) → first_by_offset a b ≡ true → off_within quote r a ≡ false → off_within quote r b ≡ false
off_down r a b None l out = refl
off_down r a b (Some q) l out =
    let back = opposite_back r.side in
    subst (λ s. not (better s r.limit (off_price (opposite r.side) q (offset_of b))) ≡ false) back
    (off_worse (opposite r.side) q (offset_of a) (offset_of b) r.limit _ l (subst (λ s. not (better s r.limit (off_price (opposite r.side) q (offset_of a))) ≡ false) (sym back) out))

-- what is counted in the front is what is counted in the whole, if none of those after it counts
front_counts : (f : RestingOrder → Option Ranked) (queue front : List RestingOrder) → front ≡ take (length front) queue → Each (λ o. f o ≡ None) (drop (length front) queue) → picked f front ≡ picked f queue
front_counts f queue front here none =
    let n = length front in
    let behind : picked f (drop n queue) ≡ [] = picked_none f (drop n queue) none in
    ap (picked f) here
    ∙ sym (ap (picked f) (sym (take-append-drop n queue))
    ∙ (picked_append f (take n queue) (drop n queue) ∙ (ap (λ l. picked f (take n queue) ++ l) behind ∙ append-nil (picked f (take n queue)))))

module _ (best : BestPair) (r : RetailOrder) where
  at_within : (o : RestingOrder) → within_limit best r o ≡ false → counted at_limit best r o ≡ None
  at_within o out = go (counted at_limit best r o) refl
    where
      go : (m : Option Ranked) → counted at_limit best r o ≡ m → m ≡ None
      go None h = refl
      go (Some e) h =
          let c = counted_is at_limit best r o e h in
          let here = met best r at_limit o e c in
          let parts = and_parts (same_side o.side (opposite r.side)) (quote_allows o.kind r.kind r.side e.price (own_side best o.side) && no_worse r.side e.price r.limit) c.meets in
          let allowed = and_parts (quote_allows o.kind r.kind r.side e.price (own_side best o.side)) (no_worse r.side e.price r.limit) parts.1 in
          let matched = subst (λ s. matches r.side e.price (own_side best s) ≡ true) here (allowed_matches o.kind r.kind r.side e.price (own_side best o.side) allowed.0) in
          let inside = no_worse_than r.side r.limit e.price (own_side best (opposite r.side)) allowed.1 matched in
          let at = eqb-true e.price o.limit c.there in
          absurd (true≢false (sym (subst (λ p. not (better r.side (worst_price best r) p) ≡ true) at inside) ∙ out))

  off_within_none : (o : RestingOrder) → within_offset best r o ≡ false → counted off_limit best r o ≡ None
  off_within_none o out = go (counted off_limit best r o) refl
    where
      go : (m : Option Ranked) → counted off_limit best r o ≡ m → m ≡ None
      go None h = refl
      go (Some e) h =
          let c = counted_is off_limit best r o e h in
          let parts = and_parts (same_side o.side (opposite r.side)) (quote_allows o.kind r.kind r.side e.price (own_side best o.side) && no_worse r.side e.price r.limit) c.meets in
          let allowed = and_parts (quote_allows o.kind r.kind r.side e.price (own_side best o.side)) (no_worse r.side e.price r.limit) parts.1 in
          absurd (true≢false (sym (off_reached r o (own_side best (opposite r.side)) e.price (off_far best r o e c) allowed.1) ∙ out))

  -- in the first two queues
  pub limit_front : (side : Side) (queue front : List RestingOrder) → Each (λ o. o.side ≡ side) queue → Sorted (first_by_limit side) queue → Reaches (within_limit best r) queue front
      → picked (counted at_limit best r) front ≡ picked (counted at_limit best r) queue
  limit_front side queue front of_side sorted k = go (same_side side (opposite r.side)) refl
    where
      f : RestingOrder → Option Ranked
      f = counted at_limit best r

      go : (b : Bool) → same_side side (opposite r.side) ≡ b → picked f front ≡ picked f queue
      go true i =
          let customer = met_side side r.side i in
          let down : (a b : RestingOrder) → first_by_limit side a b ≡ true → within_limit best r a ≡ false → within_limit best r b ≡ false =
          λ a b l out. worse_on r.side (worst_price best r) a.limit b.limit _ (subst (λ s. ahead s (at_price a a.limit) (at_price b b.limit) ≡ true) customer l) out in
          front_counts f queue front k.here (All-weaker (λ o. within_limit best r o ≡ false) (λ o. f o ≡ None) at_within (drop (length front) queue) (k.behind (parted (first_by_limit side) (within_limit best r) down queue sorted)))
      go false i =
          let none = All-weaker (λ o. o.side ≡ side) (λ o. f o ≡ None) (unmet best r at_limit side i) queue of_side in
          front_counts f queue front k.here (each_behind (λ o. f o ≡ None) (length front) queue none)

  -- in the third
  pub offset_front : (queue front : List RestingOrder) → Sorted first_by_offset queue → Reaches (within_offset best r) queue front
      → picked (counted off_limit best r) front ≡ picked (counted off_limit best r) queue
  offset_front queue front sorted k =
      front_counts (counted off_limit best r) queue front k.here (All-weaker (λ o. within_offset best r o ≡ false) (λ o. counted off_limit best r o ≡ None) off_within_none (drop (length front) queue)
      (k.behind (parted first_by_offset (within_offset best r) (λ a b l out. off_down r a b (own_side best (opposite r.side)) l out) queue sorted)))
