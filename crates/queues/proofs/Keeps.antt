-- What a change to each order leaves of the three queues
use Rattle.std.proofs.Common.{◌≡◌, ℕ, ◌+◌, ◌-◌, ◌≤◌, Bool, true, false, cond, eqb, leb, List, ◌++◌, length, Some, None, vec_items, Option, sym, refl, ap, ap₂, ◌∙◌, subst, subst₂, arith}
use Rattle.std.specs.List.{AllByRecursion as Each}
use Rattle.terms.specs.declared.market.Side.{Side}
use Rattle.terms.specs.declared.orders.Fill.{Fill}
use Rattle.terms.specs.declared.orders.RestingOrder.{RestingOrder}
use Rattle.rules.specs.Lists.{Distinct, picked, sort}
use Rattle.rules.specs.Rules.{after_fill, filled_to, with_shares}
use Rattle.rules.specs.Sorted.Perm.{perm_trans}
use Rattle.rules.proofs.Members.{all_picked, distinct_picked}
use Rattle.rules.proofs.Perms.{perm_is, perm_sym, perm_sort, perm_picked, picked_append, unique_perm}
use Rattle.rules.proofs.Sorting.{sorted_sort}
use Rattle.rules.proofs.Taken.{after_cases}
use Rattle.queues.specs.declared.side.SideQueues.{SideQueues}
use Rattle.queues.specs.Queues.{Lined, first_by_limit, first_by_offset, every, is_lined, unless_number, Kept}
use Rattle.rules.proofs.Picks.{length_picked, sorted_picked, distinct_right}
use Rattle.queues.proofs.Strictness.{by_offset_strict, sorted_again}
use Rattle.queues.proofs.Testing.{lined_from, lined_test, some_from, some_test}

none_some : {X : Type 0} {x : X} → None ≡ Some x → ⊥
none_some e = let z : ◌≡◌ {A = ℕ} 0 1 = cc in omega arith

pub after_kept : (fs : List Fill) → Kept (after_fill fs)
after_kept fs o p h =
    after_cases (λ m. m ≡ Some p → p ≡ with_shares o p.shares) fs o
    (λ _ k. absurd (none_some k))
    (λ _ k. let s : with_shares o (o.shares - filled_to fs o.number) ≡ p = cc in subst (λ v. v ≡ with_shares o v.shares) s refl)
    h

-- with shares left, or none taken, an order has a share or more
pub after_some : (fs : List Fill) (o p : RestingOrder) → 1 ≤ o.shares → after_fill fs o ≡ Some p → 1 ≤ p.shares
after_some fs o p _ h =
    after_cases (λ m. m ≡ Some p → 1 ≤ p.shares) fs o
    (λ _ k. absurd (none_some k))
    (λ less k. let s : with_shares o (o.shares - filled_to fs o.number) ≡ p = cc in subst (λ v. 1 ≤ v.shares) s (omega (arith, less)))
    h

pub unless_kept : (n : ℕ) → Kept (unless_number n)
unless_kept n o p h = go (eqb o.number n) h
  where
    go : (b : Bool) → cond b None (Some o) ≡ Some p → p ≡ with_shares o p.shares
    go true k = absurd (none_some k)
    go false k = let s : o ≡ p = cc in subst (λ v. v ≡ with_shares o v.shares) s refl

pub unless_some : (n : ℕ) (o p : RestingOrder) → 1 ≤ o.shares → unless_number n o ≡ Some p → 1 ≤ p.shares
unless_some n o p some h = go (eqb o.number n) h
  where
    go : (b : Bool) → cond b None (Some o) ≡ Some p → 1 ≤ p.shares
    go true k = absurd (none_some k)
    go false k = let s : o ≡ p = cc in subst (λ v. 1 ≤ v.shares) s some

module _ (f : RestingOrder → Option RestingOrder) (kept : Kept f) where
  limits : (side : Side) (a b c e : RestingOrder) → f a ≡ Some c → f b ≡ Some e → first_by_limit side a b ≡ true → first_by_limit side c e ≡ true
  limits side a b c e h k l = subst₂ (λ v w. first_by_limit side v w ≡ true) (sym (kept a c h)) (sym (kept b e k)) l

  offsets : (a b c e : RestingOrder) → f a ≡ Some c → f b ≡ Some e → first_by_offset a b ≡ true → first_by_offset c e ≡ true
  offsets a b c e h k l = subst₂ (λ v w. first_by_offset v w ≡ true) (sym (kept a c h)) (sym (kept b e k)) l

  pub lined_kept : (side : Side) (p q a : List RestingOrder) → Lined side p q a → Lined side (picked f p) (picked f q) (picked f a)
  lined_kept side p q a l =
      record {
        no_offsets = all_picked f (λ o. o.offset ≡ None) (λ o. o.offset ≡ None) (λ o y e h. ap (λ v. v.offset) (kept o y h) ∙ e) p l.no_offsets;
        offsets = all_picked f (λ o. o.offset ≡ None → ⊥) (λ o. o.offset ≡ None → ⊥) (λ o y some h none. some (sym (ap (λ v. v.offset) (kept o y h)) ∙ none)) q l.offsets;
        first = sorted_picked f (first_by_limit side) (first_by_limit side) (limits side) p l.first;
        second = sorted_picked f (first_by_limit side) (first_by_limit side) (limits side) q l.second;
        third =
            unique_perm first_by_offset (λ o. o.number) by_offset_strict
            (sorted_picked f first_by_offset first_by_offset offsets a (sorted_again side p q a l))
            (sorted_sort first_by_offset (λ o. o.number) by_offset_strict (picked f q) (distinct_right (λ o. o.number) (picked f p) (picked f q) apart))
            (perm_trans (perm_picked f (perm_trans (perm_is l.third) (perm_sort first_by_offset q))) (perm_sym (perm_sort first_by_offset (picked f q))));
        of_side =
            subst (Each (λ o. o.side ≡ side)) (picked_append f p q)
            (all_picked f (λ o. o.side ≡ side) (λ o. o.side ≡ side) (λ o y e h. ap (λ v. v.side) (kept o y h) ∙ e) (p ++ q) l.of_side);
        apart = apart;
      }
    where
      apart : Distinct (λ o. o.number) (picked f p ++ picked f q)
      apart =
          subst (Distinct (λ o. o.number)) (picked_append f p q)
          (distinct_picked f (λ o. o.number) (λ o. o.number) (λ a c e. ap (λ v. v.number) (kept a c e)) (p ++ q) l.apart)

  -- the three queues after the change
  pub changed : ((o p : RestingOrder) → 1 ≤ o.shares → f o ≡ Some p → 1 ≤ p.shares) → (h : SideQueues) (p q a : List RestingOrder) → p ≡ picked f (vec_items h.fixed) → q ≡ picked f (vec_items h.following) → a ≡ picked f (vec_items h.by_offset)
      → (is_lined h.side p q ≡ true) × (a ≡ sort first_by_offset q) × (every (λ o. leb 1 o.shares) (p ++ q) ≡ true) × (length p + length q ≤ 256)
  changed some h p q a i j k =
      let l = lined_kept h.side (vec_items h.fixed) (vec_items h.following) (vec_items h.by_offset) (lined_from h.side (vec_items h.fixed) (vec_items h.following) (vec_items h.by_offset) h.lined h.again) in (
        subst₂ (λ m n. is_lined h.side m n ≡ true) (sym i) (sym j)
            (lined_test h.side (picked f (vec_items h.fixed)) (picked f (vec_items h.following)) (picked f (vec_items h.by_offset)) l),
        k ∙ (l.third ∙ ap (sort first_by_offset) (sym j)),
        some_test (p ++ q)
            (subst (Each (λ o. 1 ≤ o.shares)) (picked_append f (vec_items h.fixed) (vec_items h.following) ∙ ap₂ ◌++◌ (sym i) (sym j))
            (all_picked f (λ o. 1 ≤ o.shares) (λ o. 1 ≤ o.shares) some (vec_items h.fixed ++ vec_items h.following) (some_from (vec_items h.fixed ++ vec_items h.following) h.some))),
        omega (arith, ap length i, ap length j, length_picked f (vec_items h.fixed), length_picked f (vec_items h.following), h.few, h.fixed.ok, h.following.ok),
      )
