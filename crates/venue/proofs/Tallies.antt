-- What the type of a venue states, in plain words and as tests
use Rattle.std.proofs.Common.{◌≡◌, ℕ, ◌≤◌, true, ◌&&◌, eqb, leb, List, [], ◌∷◌, sym, refl, subst, arith}
use Rattle.std.proofs.lemmas.Bool.{and_parts, and_from, eqb-true, eq-eqb, leb-true, le-leb, true≢false}
use Rattle.std.proofs.lemmas.Bool.Decides.{nat_tests}
use Rattle.rules.specs.Sorted.{Perm}
use Rattle.rules.specs.Sorted.Perm.{perm_trans}
use Rattle.rules.proofs.Perms.{perm_sym, perm_is, perm_sort, sort_perm, distinct_perm}
use Rattle.rules.proofs.Sorting.{Strict}
use Rattle.queues.specs.Queues.{every, is_distinct}
use Rattle.queues.proofs.Testing.{every_from, every_test, distinct_from, distinct_test}
use Rattle.laws.specs.Book.{Book}
use Rattle.laws.specs.Routed.{Note, drawn_notes, InStep}
use Rattle.laws.proofs.Out.{out_apart}
use Rattle.venue.specs.Together.{slips_numbered, by_note, in_order, same_notes}

same_is : (xs ys : List Note) → same_notes xs ys ≡ true → xs ≡ ys
same_is [] [] h = refl
same_is [] (y ∷ ys) h = absurd (true≢false (sym h))
same_is (x ∷ xs) [] h = absurd (true≢false (sym h))
same_is (x ∷ xs) (y ∷ ys) h =
    let parts = and_parts (eqb x.number y.number) (eqb x.shares y.shares && same_notes xs ys) h in
    let more = and_parts (eqb x.shares y.shares) (same_notes xs ys) parts.1 in
    rw (note x.number y.number x.shares y.shares (eqb-true x.number y.number parts.0) (eqb-true x.shares y.shares more.0), same_is xs ys more.1)
  where
    note : (n n' k k' : ℕ) → n ≡ n' → k ≡ k' → ◌≡◌ {A = Note} (record { number = n; shares = k }) (record { number = n'; shares = k' })
    note n n' k k' i j = rw (i, j)

same_itself : (xs : List Note) → same_notes xs xs ≡ true
same_itself [] = refl
same_itself (x ∷ xs) =
    and_from (eqb x.number x.number) (eqb x.shares x.shares && same_notes xs xs) (eq-eqb x.number x.number refl)
    (and_from (eqb x.shares x.shares) (same_notes xs xs) (eq-eqb x.shares x.shares refl) (same_itself xs))

by_note_strict : Strict by_note (λ v. v.number)
by_note_strict = record { never = λ a. grind (arith, nat_tests); trans = λ a b c h k. grind (arith, nat_tests); total = λ a b ne h. grind (arith, nat_tests) }

module _ (b : Book) (out : List Note) where
  pub from_tests : slips_numbered b.last b.slips ≡ true → same_notes (in_order (drawn_notes b.slips)) (in_order out) ≡ true → InStep b out
  from_tests n t =
      let parts = and_parts (every (λ slip. leb slip.number b.last) b.slips) (is_distinct (λ slip. slip.number) b.slips) n in
      record {
        given = every_from (λ slip. leb slip.number b.last) (λ slip. slip.number ≤ b.last) (λ slip. leb-true slip.number b.last) b.slips parts.0;
        apart = distinct_from (λ slip. slip.number) b.slips parts.1;
        same = perm_trans (perm_sym (perm_sort by_note (drawn_notes b.slips))) (perm_trans (perm_is (same_is (in_order (drawn_notes b.slips)) (in_order out) t)) (perm_sort by_note out));
      }

  pub numbered_test : InStep b out → slips_numbered b.last b.slips ≡ true
  numbered_test h =
      and_from (every (λ slip. leb slip.number b.last) b.slips) (is_distinct (λ slip. slip.number) b.slips)
      (every_test (λ slip. leb slip.number b.last) (λ slip. slip.number ≤ b.last) (λ slip. le-leb slip.number b.last) b.slips h.given)
      (distinct_test (λ slip. slip.number) b.slips h.apart)

  pub tally_test : InStep b out → same_notes (in_order (drawn_notes b.slips)) (in_order out) ≡ true
  tally_test h =
      subst (λ l. same_notes (in_order (drawn_notes b.slips)) l ≡ true)
      (sort_perm by_note (λ v. v.number) by_note_strict (distinct_perm (λ v. v.number) (perm_sym h.same) (out_apart b out h)) h.same)
      (same_itself (in_order (drawn_notes b.slips)))

-- the same slips in another order
pub in_step_perm : (b : Book) (out out' : List Note) → InStep b out → Perm out out' → InStep b out'
in_step_perm b out out' h p = record { given = h.given; apart = h.apart; same = perm_trans h.same p }
