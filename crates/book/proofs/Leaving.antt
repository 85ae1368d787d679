-- What the book is left with when an order leaves
use Rattle.std.proofs.Common.{◌≡◌, ℕ, ◌≤◌, Bool, true, false, cond, eqb, List, ◌++◌, length, Some, None, Option, vec_items, refl, sym, ap, ◌∙◌, subst, ap₂, arith}
use Rattle.std.specs.List.{AllByRecursion as Each}
use Rattle.std.proofs.ByRecursion.{All-weaker}
use Rattle.std.proofs.lemmas.Bool.{eq-eqb, eqb-true}
use Rattle.terms.specs.declared.market.Side.{Side}
use Rattle.terms.specs.declared.market.Side.TheVariants.{Buy, Sell}
use Rattle.terms.specs.declared.orders.RestingOrder.{RestingOrder}
use Rattle.terms.specs.declared.calls.Call.TheVariants.{Cancel}
use Rattle.terms.specs.Limits.{is_member}
use Rattle.terms.specs.Words.{keep_if, only_if, same_side}
use Rattle.rules.specs.Lists.{Distinct, found, picked, sort}
use Rattle.rules.proofs.Members.{all_both, all_picked, distinct_picked}
use Rattle.rules.proofs.Perms.{picked_append}
use Rattle.rules.proofs.Picks.{length_picked}
use Rattle.laws.specs.Book.{is_order, with_resting}
use Rattle.laws.specs.Book.Answer.{Cancelled}
use Rattle.queues.specs.declared.side.SideQueues.{SideQueues}
use Rattle.queues.specs.Queues.{unless_number}
use Rattle.queues.proofs.Testing.{side_from, lined_from}
use Rattle.book.specs.declared.ledger.Book.{Book as Ledger}
use Rattle.book.specs.BookState.{Steps, by_number, resting_of}
use Rattle.queues.specs.Sides.{orders_of}
use Rattle.book.specs.Means.{state}
use Rattle.book.specs.Numbered.{is_numbered}
use Rattle.book.proofs.Entering.{given, numbered_from, of_back, of_front, one_each}
use Rattle.book.proofs.Numbers.{cancel_kept, found_none, found_order, found_resting, numbered, only_found, picked_lacks}
use Rattle.book.proofs.Stepping.{cancel_found}

-- ON WHICH SIDE AN ORDER IS

pub all_on : (q : SideQueues) (s : Side) → same_side q.side s ≡ true → Each (λ o. o.side ≡ s) (orders_of q)
all_on q s h =
    All-weaker (λ o. o.side ≡ q.side) (λ o. o.side ≡ s) (λ o e. e ∙ side_from q.side s h) (orders_of q)
    (lined_from q.side (vec_items q.fixed) (vec_items q.following) (vec_items q.by_offset) q.lined q.again).of_side

-- THE ORDER OF A MEMBER

-- What a member may cancel is what is found under the number, if it is the member's.
module _ (b : Ledger) (member n : ℕ) (looked : Option RestingOrder) (is : looked ≡ found (numbered n) (state b).resting) where
  there : found (numbered n) (orders_of b.buys ++ orders_of b.sells) ≡ looked
  there = found_resting n (orders_of b.buys) (orders_of b.sells) (one_each b.last (orders_of b.buys ++ orders_of b.sells) b.numbered) ∙ sym is

  pub none_its : keep_if (λ o. eqb o.member member) looked ≡ None → found (is_order member n) (state b).resting ≡ None
  none_its = go looked there
    where
      go : (m : Option RestingOrder) → found (numbered n) (orders_of b.buys ++ orders_of b.sells) ≡ m → keep_if (λ o. eqb o.member member) m ≡ None → found (is_order member n) (state b).resting ≡ None
      go None h e = found_none member n (orders_of b.buys) (orders_of b.sells) h
      go (Some o) h e = found_order member n (orders_of b.buys) (orders_of b.sells) o (one_each b.last (orders_of b.buys ++ orders_of b.sells) b.numbered) h ∙ e

  pub one_its : {o : RestingOrder} → keep_if (λ o. eqb o.member member) looked ≡ Some o → (found (numbered n) (orders_of b.buys ++ orders_of b.sells) ≡ Some o) × (o.member ≡ member)
  one_its {o} = go looked there
    where
      own : (x : RestingOrder) (v : Bool) → eqb x.member member ≡ v → only_if v (Some x) ≡ Some o → (◌≡◌ {A = Option RestingOrder} (Some x) (Some o)) × (o.member ≡ member)
      own x true t e = (e, let m = eqb-true x.member member t in cc)
      own x false t e = absurd cc

      go : (m : Option RestingOrder) → found (numbered n) (orders_of b.buys ++ orders_of b.sells) ≡ m → keep_if (λ o. eqb o.member member) m ≡ Some o
          → (found (numbered n) (orders_of b.buys ++ orders_of b.sells) ≡ Some o) × (o.member ≡ member)
      go None h e = absurd cc
      go (Some x) h e = let p = own x (eqb x.member member) refl e in (h ∙ p.0, p.1)

-- WITHOUT AN ORDER

module _ (b : Ledger) (n : ℕ) (o : RestingOrder) (there : found (numbered n) (orders_of b.buys ++ orders_of b.sells) ≡ Some o) where
  apart : Distinct (λ x. x.number) (orders_of b.buys ++ orders_of b.sells)
  apart = one_each b.last (orders_of b.buys ++ orders_of b.sells) b.numbered

  only : Each (λ x. x.number ≡ n → x ≡ o) (orders_of b.buys ++ orders_of b.sells)
  only = only_found n (orders_of b.buys ++ orders_of b.sells) o apart there

  -- the side on which the order is not
  stays : (s : Side) (xs : List RestingOrder) → (o.side ≡ s → ⊥) → Each (λ x. x.side ≡ s) xs → Each (λ x. x.number ≡ n → x ≡ o) xs → picked (unless_number n) xs ≡ xs
  stays s xs other own one =
      picked_lacks n xs (all_both (λ x. x.side ≡ s) (λ x. x.number ≡ n → x ≡ o) (λ x. x.number ≡ n → ⊥) (λ x its is e. other (sym (ap (λ v. v.side) (is e)) ∙ its)) xs own one)

  -- the order of the number leaves the queues of its side, and so both sides
  pub left_buys : (after : SideQueues) → o.side ≡ Buy → vec_items after.fixed ≡ picked (unless_number n) (vec_items b.buys.fixed) → vec_items after.following ≡ picked (unless_number n) (vec_items b.buys.following)
      → orders_of after ++ orders_of b.sells ≡ picked (unless_number n) (orders_of b.buys ++ orders_of b.sells)
  left_buys after its i j =
      let rest = stays Sell (orders_of b.sells) (λ s. absurd cc) (all_on b.sells Sell b.selling) (of_back (λ x. x.number ≡ n → x ≡ o) (orders_of b.buys) (orders_of b.sells) only) in
      simp picked_append (ap₂ ◌++◌ (ap₂ ◌++◌ i j) (sym rest ∙ picked_append (unless_number n) (vec_items b.sells.fixed) (vec_items b.sells.following)))

  pub left_sells : (after : SideQueues) → o.side ≡ Sell → vec_items after.fixed ≡ picked (unless_number n) (vec_items b.sells.fixed) → vec_items after.following ≡ picked (unless_number n) (vec_items b.sells.following)
      → orders_of b.buys ++ orders_of after ≡ picked (unless_number n) (orders_of b.buys ++ orders_of b.sells)
  left_sells after its i j =
      let rest = stays Buy (orders_of b.buys) (λ s. absurd cc) (all_on b.buys Buy b.buying) (of_front (λ x. x.number ≡ n → x ≡ o) (orders_of b.buys) (orders_of b.sells) only) in
      simp picked_append (ap₂ ◌++◌ (sym rest ∙ picked_append (unless_number n) (vec_items b.buys.fixed) (vec_items b.buys.following)) (ap₂ ◌++◌ i j))

  -- its member cancels it
  pub cancelled : (member : ℕ) (buys' sells' : List RestingOrder) → is_member member ≡ true → o.member ≡ member → buys' ++ sells' ≡ picked (unless_number n) (orders_of b.buys ++ orders_of b.sells)
      → Steps (state b) (Cancel member n) (Cancelled n o.shares) (with_resting (state b) (resting_of buys' sells'))
  cancelled member buys' sells' good own left =
      cancel_found (state b) member n o (resting_of buys' sells') good
      (found_order member n (orders_of b.buys) (orders_of b.sells) o apart there ∙ ap (λ v. only_if v (Some o)) (eq-eqb o.member member own))
      (cancel_kept member n (orders_of b.buys) (orders_of b.sells) o apart there own ∙ ap (sort by_number) (sym left))

-- what the type of a book states of its orders stands without one
module _ (last n : ℕ) (os os' : List RestingOrder) (left : os' ≡ picked (unless_number n) os) where
  unless_same : (x y : RestingOrder) → unless_number n x ≡ Some y → x ≡ y
  unless_same x y = go (eqb x.number n)
    where
      go : (b : Bool) → cond b None (Some x) ≡ Some y → x ≡ y
      go true h = absurd cc
      go false h = cc

  pub numbered_fewer : is_numbered last os ≡ true → is_numbered last os' ≡ true
  numbered_fewer h =
      rw left
      (numbered_from last (picked (unless_number n) os)
      (all_picked (unless_number n) (λ x. x.number ≤ last) (λ x. x.number ≤ last) (λ x y le e. subst (λ v. v.number ≤ last) (unless_same x y e) le) os (given last os h))
      (distinct_picked (unless_number n) (λ x. x.number) (λ x. x.number) (λ x y e. sym (ap (λ v. v.number) (unless_same x y e))) os (one_each last os h)))

  pub few_fewer : length os ≤ 256 → length os' ≤ 256
  few_fewer h = omega (arith, ap length left, length_picked (unless_number n) os)
