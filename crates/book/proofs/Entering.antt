-- What an entry asks of the queues, and what it leaves of the book
use Rattle.std.proofs.Common.{◌≡◌, ℕ, ◌+◌, ◌<◌, ◌≤◌, true, false, cond, ◌&&◌, leb, List, [], ◌∷◌, ◌++◌, length, Ok, vec_items, sym, ap, ◌∙◌, arith}
use Rattle.std.specs.List.{AllByRecursion as Each}
use Rattle.std.proofs.ByRecursion.{All-weaker}
use Rattle.std.proofs.lemmas.List.{length-append}
use Rattle.std.proofs.lemmas.Bool.{and_parts, and_from, leb-true, le-leb, leb-false, not-false}
use Rattle.terms.specs.declared.market.Side.{Side}
use Rattle.terms.specs.declared.orders.NewOrder.{NewOrder}
use Rattle.terms.specs.declared.orders.RestingOrder.{RestingOrder}
use Rattle.terms.specs.declared.calls.Call.TheVariants.{Enter}
use Rattle.terms.specs.Limits.{is_member, is_price}
use Rattle.terms.specs.Words.{same_side}
use Rattle.quotes.specs.Quotes.{no_quotes}
use Rattle.rules.specs.Lists.{Distinct, insert, present}
use Rattle.rules.specs.Sorted.{Perm}
use Rattle.rules.specs.Sorted.Perm.{perm_trans}
use Rattle.rules.proofs.Perms.{perm_sym, perm_left, perm_right, perm_middle, perm_insert, all_perm, distinct_perm}
use Rattle.laws.specs.Book.{rests_as}
use Rattle.laws.specs.Book.Answer.{Entered}
use Rattle.laws.specs.Rows.{entry_in_range, offset_in_range, refusals}
use Rattle.laws.proofs.Soundness.{all_passed}
use Rattle.queues.specs.declared.side.SideQueues.{SideQueues}
use Rattle.queues.specs.Queues.{first_by_limit, every, is_distinct}
use Rattle.queues.proofs.Enters.{length_same}
use Rattle.queues.proofs.Testing.{every_from, every_test, distinct_from, distinct_test, side_from}
use Rattle.book.specs.declared.ledger.Book.{Book as Ledger}
use Rattle.book.specs.BookState.{Decided, Steps, book_of, resting_of, state_of}
use Rattle.queues.specs.Sides.{orders_of}
use Rattle.book.specs.Means.{state}
use Rattle.book.specs.Numbered.{is_numbered}
use Rattle.book.proofs.Numbers.{resting_length, resting_push}
use Rattle.book.proofs.Stepping.{entered_steps}

-- NUMBERS

module _ (last : ℕ) (orders : List RestingOrder) (h : is_numbered last orders ≡ true) where
  parts : (every (λ o. leb o.number last) orders ≡ true) × (is_distinct (λ o. o.number) orders ≡ true)
  parts = and_parts (every (λ o. leb o.number last) orders) (is_distinct (λ o. o.number) orders) h

  pub given : Each (λ o. o.number ≤ last) orders
  given = every_from (λ o. leb o.number last) (λ o. o.number ≤ last) (λ o. leb-true o.number last) orders parts.0

  pub one_each : Distinct (λ o. o.number) orders
  one_each = distinct_from (λ o. o.number) orders parts.1

  -- the next number is nobody's
  pub below_next : Each (λ o. o.number < last + 1) orders
  below_next = All-weaker (λ o. o.number ≤ last) (λ o. o.number < last + 1) (λ o le. omega arith) orders given

  pub not_next : Each (λ o. o.number ≡ last + 1 → ⊥) orders
  not_next = All-weaker (λ o. o.number ≤ last) (λ o. o.number ≡ last + 1 → ⊥) (λ o le e. omega arith) orders given

pub numbered_from : (last : ℕ) (orders : List RestingOrder) → Each (λ o. o.number ≤ last) orders → Distinct (λ o. o.number) orders → is_numbered last orders ≡ true
numbered_from last orders low apart =
    and_from (every (λ o. leb o.number last) orders) (is_distinct (λ o. o.number) orders)
    (every_test (λ o. leb o.number last) (λ o. o.number ≤ last) (λ o. le-leb o.number last) orders low)
    (distinct_test (λ o. o.number) orders apart)

-- PLACES

-- what holds of all orders holds of those of each side
pub of_front : (P : RestingOrder → Type 0) (xs ys : List RestingOrder) → Each P (xs ++ ys) → Each P xs
of_front P [] ys h = tt
of_front P (x ∷ xs) ys h = (h.0, of_front P xs ys h.1)

pub of_back : (P : RestingOrder → Type 0) (xs ys : List RestingOrder) → Each P (xs ++ ys) → Each P ys
of_back P [] ys h = h
of_back P (x ∷ xs) ys h = of_back P xs ys h.1

-- the queues of a side have one order more
pub record Placed (o : RestingOrder) (before after : SideQueues) : Type 0 where
  pub fixed : vec_items after.fixed ≡ cond (present o.offset) (vec_items before.fixed) (insert (first_by_limit before.side) o (vec_items before.fixed))
  pub following : vec_items after.following ≡ cond (present o.offset) (insert (first_by_limit before.side) o (vec_items before.following)) (vec_items before.following)

placed : (o : RestingOrder) (before after : SideQueues) → Placed o before after → Perm (o ∷ orders_of before) (orders_of after)
placed o before after h =
    let p = vec_items before.fixed in
    let q = vec_items before.following in
    let lt = first_by_limit before.side in
    rw (h.fixed, h.following)
    (elim (present o.offset) as (λ b. Perm (o ∷ (p ++ q)) (cond b p (insert lt o p) ++ cond b (insert lt o q) q)) [
      | true ↦ perm_sym (perm_trans (perm_left p (perm_insert lt o q)) (perm_middle p o q))
      | false ↦ perm_sym (perm_right q (perm_insert lt o p))
    ])

-- WHAT AN ENTRY THAT IS NOT REFUSED FINDS AND LEAVES

module _ (b : Ledger) (order : NewOrder) (h : Decided (state b) (Enter order) (Ok tt)) (o : RestingOrder) (made : o ≡ rests_as (b.last + 1) order) where
  rows : Each (λ row. row.0 ≡ false) (refusals 0 (state_of (state b) no_quotes []) (Enter order))
  rows = all_passed (refusals 0 (state_of (state b) no_quotes []) (Enter order)) (sym (h 0 no_quotes []))

  pub number_left : b.last < 500000
  number_left = leb-false 500000 b.last rows.1.1.1.1.1.0

  pub room_left : length (orders_of b.buys ++ orders_of b.sells) < 256
  room_left =
      omega (arith, leb-false 256 (length (state b).resting) rows.1.1.1.1.0, resting_length (orders_of b.buys) (orders_of b.sells), length-append (orders_of b.buys) (orders_of b.sells))

  -- it has a share or more
  pub some_shares : 1 ≤ o.shares
  some_shares =
      let size = leb 1 order.shares && leb order.shares 1_000_000 in
      let offset = offset_in_range order.offset in
      let price = is_price order.limit in
      let all = and_parts (is_member order.member) (price && (offset && size)) (not-false (entry_in_range order) rows.0) in
      let its = and_parts offset size (and_parts price (offset && size) all.1).1 in
      let least = leb-true 1 order.shares (and_parts (leb 1 order.shares) (leb order.shares 1_000_000) its.1).0 in
      omega (arith, least, ap (λ x. x.shares) made)

  -- nobody has its number
  fresh : Each (λ x. x.number ≡ o.number → ⊥) (orders_of b.buys ++ orders_of b.sells)
  fresh = rw made (not_next b.last (orders_of b.buys ++ orders_of b.sells) b.numbered)

  pub fresh_buys : Each (λ x. x.number ≡ o.number → ⊥) (orders_of b.buys)
  fresh_buys = of_front (λ x. x.number ≡ o.number → ⊥) (orders_of b.buys) (orders_of b.sells) fresh

  pub fresh_sells : Each (λ x. x.number ≡ o.number → ⊥) (orders_of b.sells)
  fresh_sells = of_back (λ x. x.number ≡ o.number → ⊥) (orders_of b.buys) (orders_of b.sells) fresh

  -- it is of the side that its order asks for
  pub its_side : (side : Side) (q : SideQueues) → same_side q.side side ≡ true → order.side ≡ side → o.side ≡ q.side
  its_side side q own is = ap (λ x. x.side) made ∙ (is ∙ sym (side_from q.side side own))

  -- one more among the buys, or among the sells, is one more in all
  pub more_buys : (after : SideQueues) → Placed o b.buys after → Perm (o ∷ (orders_of b.buys ++ orders_of b.sells)) (orders_of after ++ orders_of b.sells)
  more_buys after p = perm_right (orders_of b.sells) (placed o b.buys after p)

  pub more_sells : (after : SideQueues) → Placed o b.sells after → Perm (o ∷ (orders_of b.buys ++ orders_of b.sells)) (orders_of b.buys ++ orders_of after)
  more_sells after p = perm_trans (perm_sym (perm_middle (orders_of b.buys) o (orders_of b.sells))) (perm_left (orders_of b.buys) (placed o b.sells after p))

  -- both sides with it
  module _ (buys' sells' : List RestingOrder) (p : Perm (o ∷ (orders_of b.buys ++ orders_of b.sells)) (buys' ++ sells')) where
    pub numbered_more : is_numbered (b.last + 1) (buys' ++ sells') ≡ true
    numbered_more =
        let os = orders_of b.buys ++ orders_of b.sells in
        let is : o.number ≡ b.last + 1 = ap (λ x. x.number) made in
        numbered_from (b.last + 1) (buys' ++ sells')
        (all_perm (λ x. x.number ≤ b.last + 1) p (omega arith, All-weaker (λ x. x.number ≤ b.last) (λ x. x.number ≤ b.last + 1) (λ x le. omega arith) os (given b.last os b.numbered)))
        (distinct_perm (λ x. x.number) p (fresh, one_each b.last os b.numbered))

    pub few_more : length (buys' ++ sells') ≤ 256
    few_more = omega (arith, room_left, length_same p)

    pub entered : Steps (state b) (Enter order) (Entered (b.last + 1) order.shares) (book_of b.phase b.register.word (b.last + 1) buys' sells' (vec_items b.slips.slips))
    entered =
        let os = orders_of b.buys ++ orders_of b.sells in
        entered_steps b.phase b.register.word b.last (orders_of b.buys) (orders_of b.sells) buys' sells' (vec_items b.slips.slips) order h
        (resting_push o os (buys' ++ sells') (one_each b.last os b.numbered) (rw made (below_next b.last os b.numbered)) p
        ∙ ap (λ x. resting_of (orders_of b.buys) (orders_of b.sells) ++ x ∷ []) made)
