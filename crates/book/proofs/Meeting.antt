-- A Retail Order is filled from the side that it meets as from the whole book
use Rattle.std.proofs.Common.{◌≡◌, ℕ, true, cond, ◌&&◌, eqb, List, [], ◌∷◌, ◌++◌, Some, None, Option, sym, refl, ap, ◌∙◌, subst}
use Rattle.std.specs.List.{AllByRecursion as Each}
use Rattle.std.proofs.ByRecursion.{All-weaker, all-has}
use Rattle.std.proofs.lemmas.Bool.{and_parts, cond-false, ne_eqb, true≢false}
use Rattle.terms.specs.declared.market.Side.{Side}
use Rattle.terms.specs.declared.market.Side.TheVariants.{Buy, Sell}
use Rattle.terms.specs.declared.orders.Fill.{Fill}
use Rattle.terms.specs.declared.orders.RestingOrder.{RestingOrder}
use Rattle.terms.specs.declared.orders.RetailOrder.{RetailOrder}
use Rattle.terms.specs.declared.orders.Ranked.{Ranked}
use Rattle.terms.specs.Words.{same_side}
use Rattle.rules.specs.Lists.{Distinct}
use Rattle.rules.specs.Rules.{BestPair, own_side, ranked_price, opposite, quote_allows, no_worse, candidate, eligible, ahead, along, fills, filled_to}
use Rattle.rules.specs.Sorted.{Perm}
use Rattle.rules.specs.Sorted.Perm.{perm_trans}
use Rattle.rules.proofs.Members.{sum_none}
use Rattle.rules.proofs.Order.{ahead_strict}
use Rattle.rules.proofs.Perms.{perm_is, perm_sym, perm_sort, perm_picked, picked_append, sort_perm, distinct_perm}
use Rattle.rules.proofs.Picks.{distinct_right}
use Rattle.rules.proofs.Relations.{found_eligible}
use Rattle.laws.proofs.Eligible.{From, eligible_distinct, fill_from}
use Rattle.matching.proofs.Counts.{picked_none}
use Rattle.queues.specs.declared.side.SideQueues.{SideQueues}
use Rattle.book.specs.BookState.{by_number, resting_of}
use Rattle.queues.specs.Sides.{orders_of}
use Rattle.book.proofs.Entering.{of_back, one_each}
use Rattle.book.proofs.Leaving.{all_on}
use Rattle.book.proofs.Numbers.{perm_around}
use Rattle.book.specs.Numbered.{is_numbered}

-- no two resting orders have one number
pub resting_apart : (last : ℕ) (buys sells : List RestingOrder) → is_numbered last (buys ++ sells) ≡ true → Distinct (λ o. o.number) (resting_of buys sells)
resting_apart last buys sells h = distinct_perm (λ o. o.number) (perm_sym (perm_sort by_number (buys ++ sells))) (one_each last (buys ++ sells) h)

not_opposite : (side : Side) → same_side side (opposite side) ≡ true → ⊥
not_opposite Buy h = true≢false (sym h)
not_opposite Sell h = true≢false (sym h)

-- Orders of two lists have different numbers
apart_each : (xs ys : List RestingOrder) → Distinct (λ o. o.number) (xs ++ ys) → Each (λ x. Each (λ y. y.number ≡ x.number → ⊥) ys) xs
apart_each [] ys d = tt
apart_each (x ∷ xs) ys d = (of_back (λ y. y.number ≡ x.number → ⊥) xs ys d.0, apart_each xs ys d.1)

module _ (best : BestPair) (r : RetailOrder) where
  -- the fills from some orders are to none whose number these have not
  spared : (met : List RestingOrder) → Distinct (λ o. o.number) met → (n : ℕ) → Each (λ y. y.number ≡ n → ⊥) met → filled_to (fills r.side (eligible best r met) r.shares) n ≡ 0
  spared met d n other =
      let fs = fills r.side (eligible best r met) r.shares in
      let own = λ (f : Fill). cond (eqb f.number n) f.shares 0 in
      sum_none own fs
      (All-weaker (From best r met) (λ f. own f ≡ 0)
      (λ f from. cond-false (eqb f.number n) f.shares 0 (ne_eqb f.number n (λ e. all-has (λ y. y.number ≡ n → ⊥) met from.0 other from.1 (from.2 ∙ e))))
      fs (fill_from best r met d))

  spared_each : (others met : List RestingOrder) → Distinct (λ o. o.number) (others ++ met)
      → Each (λ o. filled_to (fills r.side (eligible best r met) r.shares) o.number ≡ 0) others
  spared_each others met d =
      All-weaker (λ x. Each (λ y. y.number ≡ x.number → ⊥) met) (λ o. filled_to (fills r.side (eligible best r met) r.shares) o.number ≡ 0)
      (λ o. spared met (distinct_right (λ x. x.number) others met d) o.number) others (apart_each others met d)

  -- an order of the customer's own side is not met
  unmet : (o : RestingOrder) → o.side ≡ r.side → candidate best r o ≡ None
  unmet o own = go (candidate best r o) refl
    where
      go : (m : Option Ranked) → candidate best r o ≡ m → m ≡ None
      go None h = refl
      go (Some e) h =
          let meets = (found_eligible best r o e (ranked_price best o) h).1 in
          let side = (and_parts (same_side o.side (opposite r.side)) (quote_allows o.kind r.kind r.side e.price (own_side best o.side) && no_worse r.side e.price r.limit) meets).0 in
          absurd (not_opposite r.side (subst (λ s. same_side s (opposite r.side) ≡ true) own side))

  -- so only the other side's orders matter
  one_side : (all others met : List RestingOrder) → Perm all (others ++ met) → Distinct (λ o. o.number) all → Each (λ o. o.side ≡ r.side) others
      → (n : ℕ) → fills r.side (eligible best r met) n ≡ fills r.side (eligible best r all) n
  one_side all others met p d own n =
      let none = picked_none (candidate best r) others (All-weaker (λ o. o.side ≡ r.side) (λ o. candidate best r o ≡ None) unmet others own) in
      let split = picked_append (candidate best r) others met ∙ ap (λ l. l ++ eligible best r met) none in
      ap (λ q. along q n)
      (sym (sort_perm (ahead r.side) (λ e. e.number) (ahead_strict r.side) (eligible_distinct best r all d) (perm_trans (perm_picked (candidate best r) p) (perm_is split))))

  module _ (buys sells : SideQueues) (buying : same_side buys.side Buy ≡ true) (selling : same_side sells.side Sell ≡ true)
      (last : ℕ) (numbered : is_numbered last (orders_of buys ++ orders_of sells) ≡ true) where
    pub from_sells : r.side ≡ Buy → (n : ℕ) → fills r.side (eligible best r (orders_of sells)) n ≡ fills r.side (eligible best r (resting_of (orders_of buys) (orders_of sells))) n
    from_sells buy =
        one_side (resting_of (orders_of buys) (orders_of sells)) (orders_of buys) (orders_of sells) (perm_sort by_number (orders_of buys ++ orders_of sells)) (resting_apart last (orders_of buys) (orders_of sells) numbered)
        (All-weaker (λ o. o.side ≡ Buy) (λ o. o.side ≡ r.side) (λ o e. e ∙ sym buy) (orders_of buys) (all_on buys Buy buying))

    pub from_buys : r.side ≡ Sell → (n : ℕ) → fills r.side (eligible best r (orders_of buys)) n ≡ fills r.side (eligible best r (resting_of (orders_of buys) (orders_of sells))) n
    from_buys sell =
        one_side (resting_of (orders_of buys) (orders_of sells)) (orders_of sells) (orders_of buys)
        (perm_trans (perm_sort by_number (orders_of buys ++ orders_of sells)) (perm_around (orders_of buys) (orders_of sells))) (resting_apart last (orders_of buys) (orders_of sells) numbered)
        (All-weaker (λ o. o.side ≡ Sell) (λ o. o.side ≡ r.side) (λ o e. e ∙ sym sell) (orders_of sells) (all_on sells Sell selling))

    -- and no fill is to an order of the customer's own side
    pub spares_buys : r.side ≡ Buy → Each (λ o. filled_to (fills r.side (eligible best r (resting_of (orders_of buys) (orders_of sells))) r.shares) o.number ≡ 0) (orders_of buys)
    spares_buys buy =
        subst (λ fs. Each (λ o. filled_to fs o.number ≡ 0) (orders_of buys)) (from_sells buy r.shares)
        (spared_each (orders_of buys) (orders_of sells) (one_each last (orders_of buys ++ orders_of sells) numbered))

    pub spares_sells : r.side ≡ Sell → Each (λ o. filled_to (fills r.side (eligible best r (resting_of (orders_of buys) (orders_of sells))) r.shares) o.number ≡ 0) (orders_of sells)
    spares_sells sell =
        subst (λ fs. Each (λ o. filled_to fs o.number ≡ 0) (orders_of sells)) (from_buys sell r.shares)
        (spared_each (orders_of sells) (orders_of buys)
        (distinct_perm (λ o. o.number) (perm_around (orders_of buys) (orders_of sells)) (one_each last (orders_of buys ++ orders_of sells) numbered)))
