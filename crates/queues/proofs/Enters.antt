-- What an entry leaves of the three queues
use Rattle.std.proofs.Common.{◌≡◌, suc, ◌+◌, ◌<◌, ◌≤◌, Bool, true, leb, List, [], ◌∷◌, ◌++◌, length, None, vec_items, sym, refl, ap, ◌∙◌, subst, arith}
use Rattle.std.specs.List.{AllByRecursion as Each}
use Rattle.std.proofs.lemmas.List.{length-append}
use Rattle.terms.specs.declared.market.Side.{Side}
use Rattle.terms.specs.declared.orders.RestingOrder.{RestingOrder}
use Rattle.rules.specs.Lists.{insert, sort, sum_of}
use Rattle.rules.specs.Sorted.{Perm}
use Rattle.rules.specs.Sorted.Perm.{perm_trans}
use Rattle.rules.proofs.Perms.{perm_sym, perm_left, perm_right, perm_middle, perm_insert, perm_sort, sort_perm, all_perm, distinct_perm, sum_perm}
use Rattle.rules.proofs.Sorting.{all_insert, sorted_insert}
use Rattle.queues.specs.declared.side.SideQueues.{SideQueues}
use Rattle.queues.specs.Queues.{Lined, first_by_limit, first_by_offset, every, is_lined}
use Rattle.rules.proofs.Picks.{distinct_right}
use Rattle.queues.proofs.Strictness.{by_limit_strict, by_offset_strict}
use Rattle.queues.proofs.Testing.{lined_from, lined_test, some_from, some_test}

module _ {X : Type 0} (P : X → Type 0) where
  pub front : (us vs : List X) → Each P (us ++ vs) → Each P us
  front [] vs h = tt
  front (u ∷ us) vs h = (h.0, front us vs h.1)

  pub back : (us vs : List X) → Each P (us ++ vs) → Each P vs
  back [] vs h = h
  back (u ∷ us) vs h = back us vs h.1

count_one : {X : Type 0} (xs : List X) → sum_of (λ _. 1) xs ≡ length xs
count_one [] = refl
count_one (x ∷ xs) = omega (arith, count_one xs)

pub length_same : {X : Type 0} {xs ys : List X} → Perm xs ys → length xs ≡ length ys
length_same {xs} {ys} q = sym (count_one xs) ∙ (sum_perm (λ _. 1) q ∙ count_one ys)

length_insert : {X : Type 0} (lt : X → X → Bool) (x : X) (xs : List X) → length (insert lt x xs) ≡ suc (length xs)
length_insert lt x xs = length_same (perm_insert lt x xs)

-- the third queue is as long as the second
pub again_long : (q a : List RestingOrder) → a ≡ sort first_by_offset q → length a ≡ length q
again_long q a e = ap length e ∙ length_same (perm_sort first_by_offset q)

module _ (side : Side) (p q a : List RestingOrder) (l : Lined side p q a) (o : RestingOrder) (its : o.side ≡ side) (fresh : Each (λ x. x.number ≡ o.number → ⊥) (p ++ q)) where
  fresh_q : Each (λ x. x.number ≡ o.number → ⊥) q
  fresh_q = back (λ x. x.number ≡ o.number → ⊥) p q fresh

  pub rests_fixed : Perm (o ∷ (p ++ q)) (insert (first_by_limit side) o p ++ q)
  rests_fixed = perm_sym (perm_right q (perm_insert (first_by_limit side) o p))

  pub rests_following : Perm (o ∷ (p ++ q)) (p ++ insert (first_by_limit side) o q)
  rests_following = perm_sym (perm_trans (perm_left p (perm_insert (first_by_limit side) o q)) (perm_middle p o q))

  -- without an offset
  pub lined_fixed : o.offset ≡ None → Lined side (insert (first_by_limit side) o p) q a
  lined_fixed e =
      record {
        no_offsets = all_insert (first_by_limit side) (λ x. x.offset ≡ None) o p e l.no_offsets;
        offsets = l.offsets;
        first = sorted_insert (first_by_limit side) (λ x. x.number) (by_limit_strict side) o p (front (λ x. x.number ≡ o.number → ⊥) p q fresh) l.first;
        second = l.second;
        third = l.third;
        of_side = all_perm (λ x. x.side ≡ side) rests_fixed (its, l.of_side);
        apart = distinct_perm (λ x. x.number) rests_fixed (fresh, l.apart);
      }

  -- with one
  pub lined_following : (o.offset ≡ None → ⊥) → Lined side p (insert (first_by_limit side) o q) (insert first_by_offset o a)
  lined_following some =
      record {
        no_offsets = l.no_offsets;
        offsets = all_insert (first_by_limit side) (λ x. x.offset ≡ None → ⊥) o q some l.offsets;
        first = l.first;
        second = sorted_insert (first_by_limit side) (λ x. x.number) (by_limit_strict side) o q fresh_q l.second;
        third = ap (insert first_by_offset o) l.third ∙ sort_perm first_by_offset (λ x. x.number) by_offset_strict (fresh_q, distinct_right (λ x. x.number) p q l.apart) (perm_sym (perm_insert (first_by_limit side) o q));
        of_side = all_perm (λ x. x.side ≡ side) rests_following (its, l.of_side);
        apart = distinct_perm (λ x. x.number) rests_following (fresh, l.apart);
      }

-- a side with room for one more order
module _ (h : SideQueues) (few : length (vec_items h.fixed ++ vec_items h.following) < 256) where
  both : length (vec_items h.fixed ++ vec_items h.following) ≡ length (vec_items h.fixed) + length (vec_items h.following)
  both = length-append (vec_items h.fixed) (vec_items h.following)

  pub room_again : length (vec_items h.by_offset) < 256
  room_again = omega (arith, both, again_long (vec_items h.following) (vec_items h.by_offset) h.again)

  -- it takes its place in the queue of those without an offset, or of those with one and in the third queue
  module _ (o : RestingOrder) (its : o.side ≡ h.side) (some : 1 ≤ o.shares)
      (fresh : Each (λ x. x.number ≡ o.number → ⊥) (vec_items h.fixed ++ vec_items h.following)) where
    -- each order has a share or more, this one too
    all_some : (os : List RestingOrder) → Perm (o ∷ (vec_items h.fixed ++ vec_items h.following)) os → every (λ x. leb 1 x.shares) os ≡ true
    all_some os perm = some_test os (all_perm (λ x. 1 ≤ x.shares) perm (some, some_from (vec_items h.fixed ++ vec_items h.following) h.some))

    lined : Lined h.side (vec_items h.fixed) (vec_items h.following) (vec_items h.by_offset)
    lined = lined_from h.side (vec_items h.fixed) (vec_items h.following) (vec_items h.by_offset) h.lined h.again

    pub entered_fixed : (p : List RestingOrder) → o.offset ≡ None → p ≡ insert (first_by_limit h.side) o (vec_items h.fixed)
        → (is_lined h.side p (vec_items h.following) ≡ true) × (every (λ x. leb 1 x.shares) (p ++ vec_items h.following) ≡ true) × (length p + length (vec_items h.following) ≤ 256)
    entered_fixed p none e = (
      subst (λ l. is_lined h.side l (vec_items h.following) ≡ true) (sym e)
          (lined_test h.side (insert (first_by_limit h.side) o (vec_items h.fixed)) (vec_items h.following) (vec_items h.by_offset)
          (lined_fixed h.side (vec_items h.fixed) (vec_items h.following) (vec_items h.by_offset) lined o its fresh none)),
      subst (λ l. every (λ x. leb 1 x.shares) (l ++ vec_items h.following) ≡ true) (sym e)
          (all_some (insert (first_by_limit h.side) o (vec_items h.fixed) ++ vec_items h.following)
          (rests_fixed h.side (vec_items h.fixed) (vec_items h.following) (vec_items h.by_offset) lined o its fresh)),
      omega (arith, both, ap length e, length_insert (first_by_limit h.side) o (vec_items h.fixed)),
    )

    pub entered_following : (q a : List RestingOrder) → (o.offset ≡ None → ⊥) → q ≡ insert (first_by_limit h.side) o (vec_items h.following) → a ≡ insert first_by_offset o (vec_items h.by_offset)
        → (is_lined h.side (vec_items h.fixed) q ≡ true) × (a ≡ sort first_by_offset q) × (every (λ x. leb 1 x.shares) (vec_items h.fixed ++ q) ≡ true) × (length (vec_items h.fixed) + length q ≤ 256)
    entered_following q a offset e k =
        let l = lined_following h.side (vec_items h.fixed) (vec_items h.following) (vec_items h.by_offset) lined o its fresh offset in (
          subst (λ m. is_lined h.side (vec_items h.fixed) m ≡ true) (sym e)
              (lined_test h.side (vec_items h.fixed) (insert (first_by_limit h.side) o (vec_items h.following)) (insert first_by_offset o (vec_items h.by_offset)) l),
          k ∙ (l.third ∙ ap (sort first_by_offset) (sym e)),
          subst (λ m. every (λ x. leb 1 x.shares) (vec_items h.fixed ++ m) ≡ true) (sym e)
              (all_some (vec_items h.fixed ++ insert (first_by_limit h.side) o (vec_items h.following))
              (rests_following h.side (vec_items h.fixed) (vec_items h.following) (vec_items h.by_offset) lined o its fresh)),
          omega (arith, both, ap length e, length_insert (first_by_limit h.side) o (vec_items h.following)),
        )
