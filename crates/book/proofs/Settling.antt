-- What the book is left with when fills are taken off
use Rattle.std.proofs.Common.{◌≡◌, ℕ, ◌+◌, ◌-◌, ◌≤◌, Bool, true, false, not, cond, eqb, ltb, List, [], ◌∷◌, ◌++◌, length, Some, None, vec_items, sym, refl, ap, ◌∙◌, subst, ap₂, arith}
use Rattle.std.specs.List.{AllByRecursion as Each}
use Rattle.std.proofs.lemmas.Bool.{eqb-true}
use Rattle.terms.specs.declared.orders.Fill.{Fill}
use Rattle.terms.specs.declared.orders.Phase.{Phase}
use Rattle.terms.specs.declared.orders.RestingOrder.{RestingOrder}
use Rattle.terms.specs.declared.orders.RetailType.{RetailType}
use Rattle.terms.specs.declared.orders.Slip.{Slip}
use Rattle.rules.specs.Lists.{Distinct, and_then, picked, sort}
use Rattle.rules.specs.Rules.{after_fill, filled_to, with_shares, routable, cancelled_rest, waiting_rest}
use Rattle.rules.specs.Sorted.Perm.{perm_trans}
use Rattle.rules.proofs.Members.{all_picked, distinct_picked}
use Rattle.rules.proofs.Perms.{perm_sym, perm_sort, perm_picked, picked_append, unique_perm}
use Rattle.rules.proofs.Sorting.{sorted_sort}
use Rattle.queues.specs.declared.side.SideQueues.{SideQueues}
use Rattle.queues.proofs.Gives.{each_again, some_again, some_fixed, some_following, unfilled}
use Rattle.queues.proofs.Keeps.{after_kept}
use Rattle.rules.proofs.Picks.{length_picked, sorted_picked}
use Rattle.laws.specs.Book.{Book, Trade, after_fills}
use Rattle.book.specs.declared.answers.Remainder.TheVariants.{Nothing, Cancelled, Waiting}
use Rattle.book.specs.BookState.{by_number, resting_of}
use Rattle.queues.specs.Sides.{orders_of}
use Rattle.book.specs.Means.{remainder_of, cancelled_in, waiting_in, well_told, slips_after, Settled}
use Rattle.book.specs.Numbered.{is_numbered}
use Rattle.book.proofs.Entering.{given, numbered_from, of_back, of_front, one_each}
use Rattle.book.proofs.Numbers.{by_number_strict}

-- ORDERS

module _ (fs : List Fill) where
  -- what the law has of the resting orders after fills is what they leave of each
  after_fills_are : (os : List RestingOrder) → after_fills fs os ≡ picked (after_fill fs) os
  after_fills_are [] = refl
  after_fills_are (o ∷ os) = go (eqb (o.shares - filled_to fs o.number) 0) (after_fills_are os)
    where
      w : RestingOrder
      w = with_shares o (o.shares - filled_to fs o.number)

      go : (b : Bool) → after_fills fs os ≡ picked (after_fill fs) os → cond b (after_fills fs os) (w ∷ after_fills fs os) ≡ and_then (cond b None (Some w)) (picked (after_fill fs) os)
      go true h = h
      go false h = ap (λ l. w ∷ l) h

  -- fills leave an order its number
  same_number : (o p : RestingOrder) → after_fill fs o ≡ Some p → p.number ≡ o.number
  same_number o p h = ap (λ x. x.number) (after_kept fs o p h)

  -- a side to whose orders there is no fill is settled as it is
  pub settled_unmet : (q : SideQueues) → Each (λ o. filled_to fs o.number ≡ 0) (orders_of q) → Settled fs q q
  settled_unmet q none =
      let p = vec_items q.fixed in
      let l = vec_items q.following in
      let none_following = of_back (λ o. filled_to fs o.number ≡ 0) p l none in
      record {
        fixed = unfilled fs p (some_fixed q) (of_front (λ o. filled_to fs o.number ≡ 0) p l none);
        following = unfilled fs l (some_following q) none_following;
        by_offset = unfilled fs (vec_items q.by_offset) (some_again q) (each_again q (λ o. filled_to fs o.number ≡ 0) none_following);
      }

  pub settled_orders : (before after : SideQueues) → Settled fs before after → orders_of after ≡ picked (after_fill fs) (orders_of before)
  settled_orders before after s = ap₂ ◌++◌ s.fixed s.following ∙ sym (picked_append (after_fill fs) (vec_items before.fixed) (vec_items before.following))

  -- both sides after the fills
  both : (buys sells buys' sells' : SideQueues) → Settled fs buys buys' → Settled fs sells sells' → orders_of buys' ++ orders_of sells' ≡ picked (after_fill fs) (orders_of buys ++ orders_of sells)
  both buys sells buys' sells' s t = ap₂ ◌++◌ (settled_orders buys buys' s) (settled_orders sells sells' t) ∙ sym (picked_append (after_fill fs) (orders_of buys) (orders_of sells))

  -- taking fills off the sorted orders is sorting what they leave
  sorted_after : (os : List RestingOrder) → Distinct (λ o. o.number) os → sort by_number (picked (after_fill fs) os) ≡ picked (after_fill fs) (sort by_number os)
  sorted_after os d =
      unique_perm by_number (λ o. o.number) by_number_strict
      (sorted_sort by_number (λ o. o.number) by_number_strict (picked (after_fill fs) os) (distinct_picked (after_fill fs) (λ o. o.number) (λ o. o.number) same_number os d))
      (sorted_picked (after_fill fs) by_number by_number
      (λ a b c e h k l. subst (λ n. ltb n e.number ≡ true) (sym (same_number a c h)) (subst (λ n. ltb a.number n ≡ true) (sym (same_number b e k)) l))
      (sort by_number os) (sorted_sort by_number (λ o. o.number) by_number_strict os d))
      (perm_trans (perm_sort by_number (picked (after_fill fs) os)) (perm_picked (after_fill fs) (perm_sym (perm_sort by_number os))))

  module _ (buys sells buys' sells' : SideQueues) (s : Settled fs buys buys') (t : Settled fs sells sells') (last : ℕ) (numbered : is_numbered last (orders_of buys ++ orders_of sells) ≡ true) where
    pub settled_resting : resting_of (orders_of buys') (orders_of sells') ≡ after_fills fs (resting_of (orders_of buys) (orders_of sells))
    settled_resting = ap (sort by_number) (both buys sells buys' sells' s t) ∙ (sorted_after (orders_of buys ++ orders_of sells) (one_each last (orders_of buys ++ orders_of sells) numbered) ∙ sym (after_fills_are (resting_of (orders_of buys) (orders_of sells))))

    pub settled_numbered : is_numbered (last + 1) (orders_of buys' ++ orders_of sells') ≡ true
    settled_numbered =
        let os = orders_of buys ++ orders_of sells in
        subst (λ l. is_numbered (last + 1) l ≡ true) (sym (both buys sells buys' sells' s t))
        (numbered_from (last + 1) (picked (after_fill fs) os)
        (all_picked (after_fill fs) (λ o. o.number ≤ last) (λ o. o.number ≤ last + 1) (λ o p le h. omega (arith, same_number o p h)) os (given last os numbered))
        (distinct_picked (after_fill fs) (λ o. o.number) (λ o. o.number) same_number os (one_each last os numbered)))

    pub settled_few : length (orders_of buys ++ orders_of sells) ≤ 256 → length (orders_of buys' ++ orders_of sells') ≤ 256
    settled_few h = omega (arith, ap length (both buys sells buys' sells' s t), length_picked (after_fill fs) (orders_of buys ++ orders_of sells))

-- REMAINDER

pub cancelled_is : (kind : RetailType) (rest : ℕ) → cancelled_in (remainder_of kind rest) ≡ cancelled_rest kind rest
cancelled_is kind rest = go (eqb rest 0) refl (routable kind)
  where
    go : (b : Bool) → eqb rest 0 ≡ b → (c : Bool) → cancelled_in (cond b Nothing (cond c (Waiting rest) (Cancelled rest))) ≡ cond c 0 rest
    go true e true = refl
    go true e false = sym (eqb-true rest 0 e)
    go false e true = refl
    go false e false = refl

pub waiting_is : (kind : RetailType) (rest : ℕ) → waiting_in (remainder_of kind rest) ≡ waiting_rest kind rest
waiting_is kind rest = go (eqb rest 0) refl (routable kind)
  where
    go : (b : Bool) → eqb rest 0 ≡ b → (c : Bool) → waiting_in (cond b Nothing (cond c (Waiting rest) (Cancelled rest))) ≡ cond c rest 0
    go true e true = sym (eqb-true rest 0 e)
    go true e false = refl
    go false e true = refl
    go false e false = refl

pub rest_told : (kind : RetailType) (rest : ℕ) → well_told (remainder_of kind rest) ≡ true
rest_told kind rest = go (eqb rest 0) refl (routable kind)
  where
    go : (b : Bool) → eqb rest 0 ≡ b → (c : Bool) → well_told (cond b Nothing (cond c (Waiting rest) (Cancelled rest))) ≡ true
    go true e c = refl
    go false e true = ap not e
    go false e false = ap not e

-- the slips are those of the definitions
pub slips_are : (slips : List Slip) (number : ℕ) (kind : RetailType) (rest : ℕ)
    → slips_after slips number (remainder_of kind rest) ≡ cond (eqb (waiting_rest kind rest) 0) slips (slips ++ record { number = number; shares = waiting_rest kind rest; drawn = false } ∷ [])
slips_are slips number kind rest = go (eqb rest 0) refl (routable kind)
  where
    with : ℕ → List Slip
    with n = slips ++ record { number = number; shares = n; drawn = false } ∷ []

    go : (b : Bool) → eqb rest 0 ≡ b → (c : Bool)
        → slips_after slips number (cond b Nothing (cond c (Waiting rest) (Cancelled rest))) ≡ cond (eqb (cond c rest 0) 0) slips (with (cond c rest 0))
    go true e true = sym (ap (λ v. cond v slips (with rest)) e)
    go true e false = refl
    go false e true = sym (ap (λ v. cond v slips (with rest)) e)
    go false e false = refl

-- the answer tells of the trade that the definitions give
pub same_trade : (number filled filled' cancelled cancelled' waiting waiting' : ℕ) (fs : List Fill) → filled ≡ filled' → cancelled ≡ cancelled' → waiting ≡ waiting'
    → ◌≡◌ {A = Trade} (record { number = number; fills = fs; filled = filled; cancelled = cancelled; waiting = waiting }) (record { number = number; fills = fs; filled = filled'; cancelled = cancelled'; waiting = waiting' })
same_trade number filled filled' cancelled cancelled' waiting waiting' fs i j k = rw (i, j, k)

pub same_book : (phase : Phase) (approved : ℕ → Bool) (last : ℕ) (resting resting' : List RestingOrder) (slips slips' : List Slip) → resting ≡ resting' → slips ≡ slips'
    → ◌≡◌ {A = Book} (record { phase = phase; approved = approved; last = last; resting = resting; slips = slips }) (record { phase = phase; approved = approved; last = last; resting = resting'; slips = slips' })
same_book phase approved last resting resting' slips slips' i j = rw (i, j)
