-- The fills in their sequence keep priority
use Rattle.std.proofs.Common.{◌≡◌, ℕ, ◌-◌, ◌<◌, min, true, eqb, List, [], ◌∷◌, sym, ◌∙◌, subst, subst₂, arith}
use Rattle.std.specs.List.{ContainsAt as Has, AllByRecursion as Each}
use Rattle.std.proofs.ByRecursion.{All-weaker, all-has, all_has_itself}
use Rattle.std.proofs.lemmas.Bool.{cond_both, eqb-false, both_ways}
use Rattle.terms.specs.declared.market.Side.{Side}
use Rattle.terms.specs.declared.orders.Ranked.{Ranked}
use Rattle.terms.specs.declared.orders.Fill.{Fill}
use Rattle.rules.specs.Lists.{Distinct, Downward}
use Rattle.rules.specs.Rules.{along, fill_of, ahead, sequence, fills, filled_to}
use Rattle.rules.specs.RuleLaws.{Ahead, BehindFill, FillsKeepPriority}
use Rattle.rules.specs.Sorted.{Sorted}
use Rattle.rules.proofs.Sorting.{all_sort, all_unsort, sorted_sort, distinct_sort}
use Rattle.rules.proofs.Order.{ahead_strict}
use Rattle.rules.proofs.Best.{own, others, ranked_along}
use Rattle.rules.proofs.Members.{all_both, same_key}
use Rattle.rules.proofs.Precedes.{ahead_exactly}

distinct_down : {X : Type 0} (key : X → ℕ) (xs : List X) → Downward (λ x y. key y ≡ key x → ⊥) xs → Distinct key xs
distinct_down key [] h = tt
distinct_down key (x ∷ xs) h = (h.0, distinct_down key xs h.1)

-- whoever gets something gets it of shares that are there
some_left : (q : List Ranked) (n m : ℕ) → 0 < filled_to (along q n) m → 0 < n
some_left [] n m h = omega arith
some_left (o ∷ os) n m h =
    cond_both (eqb n 0) [] (fill_of o (min n o.shares) ∷ along os (n - o.shares)) (λ l. 0 < filled_to l m → 0 < n)
    (λ _ k. omega arith)
    (λ e _. let ne = eqb-false n 0 e in omega arith)
    h

-- what holds of each fill may be weakened by the shares that are there
weaker_along : (P R : Fill → Type 0) (q : List Ranked) (n : ℕ) → ((f : Fill) → 0 < n → P f → R f) → Each P (along q n) → Each R (along q n)
weaker_along P R [] n w h = tt
weaker_along P R (o ∷ os) n w h =
    cond_both (eqb n 0) [] (fill_of o (min n o.shares) ∷ along os (n - o.shares)) (λ l. Each P l → Each R l)
    (λ _ k. tt)
    (λ e k.
    let ne = eqb-false n 0 e in
    All-weaker P R (λ f. w f (omega arith)) (fill_of o (min n o.shares) ∷ along os (n - o.shares)) k)
    h

-- A relation down the sequence is one down the fills: a later fill stands there only if the earlier order has fewer shares than there were.
downward_along : (S : Ranked → Ranked → Type 0) (R : Fill → Fill → Type 0)
    → ((o b : Ranked) (n : ℕ) (g : Fill) → S o b → g.number ≡ b.number → o.shares < n → R (fill_of o (min n o.shares)) g)
    → (q : List Ranked) (n : ℕ) → Downward S q → Downward R (along q n)
downward_along S R step [] n h = tt
downward_along S R step (o ∷ os) n h =
    cond_both (eqb n 0) [] (fill_of o (min n o.shares) ∷ along os (n - o.shares)) (Downward R)
    (λ _. tt)
    (λ _. (
      weaker_along (λ f. (b : Ranked) × S o b × (f.number ≡ b.number) × (f.price ≡ b.price)) (R (fill_of o (min n o.shares))) os (n - o.shares)
          (λ g left from. step o from.0 n g from.1 from.2 (omega arith))
          (ranked_along (S o) os (n - o.shares) h.0),
      downward_along S R step os (n - o.shares) h.1,
    ))

-- What an order's fill has of the shares that are left holds of each fill, where some are left.
each_along : (S : Ranked → Type 0) (R : Fill → Type 0)
    → ((o : Ranked) (n : ℕ) → S o → 0 < n → R (fill_of o (min n o.shares)))
    → (q : List Ranked) (n : ℕ) → Each S q → Each R (along q n)
each_along S R step [] n h = tt
each_along S R step (o ∷ os) n h =
    cond_both (eqb n 0) [] (fill_of o (min n o.shares) ∷ along os (n - o.shares)) (Each R)
    (λ _. tt)
    (λ e. let ne = eqb-false n 0 e in (step o n h.0 (omega arith), each_along S R step os (n - o.shares) h.1))

-- If a is ahead of b and b gets something of n shares along the list, a gets all that it has.
abbrev Whole : (side : Side) (q : List Ranked) (n : ℕ) (a b : Ranked) → Type 0
Whole side q n a b = ahead side a b ≡ true → 0 < filled_to (along q n) b.number → filled_to (along q n) a.number ≡ a.shares

-- The first order is ahead of the others: it is the b of no a, and as the a it leaves something only if it gets all.
whole_ahead : (side : Side) (q : List Ranked) (n : ℕ) → Sorted (ahead side) q → Distinct (λ o. o.number) q → Each (λ a. Each (Whole side q n a) q) q
whole_ahead side [] n s d = tt
whole_ahead side (o ∷ os) n s d =
    let law = ahead_strict side in
    let rest : ℕ = n - o.shares in
    let never : ahead side o o ≡ true → ⊥ = both_ways (ahead side o o) (law.never o) in
    let first : Each (Whole side (o ∷ os) n o) os = All-weaker (λ b. b.number ≡ o.number → ⊥) (Whole side (o ∷ os) n o)
    (λ b ne _ got.
    let left = some_left os rest b.number (subst (λ v. 0 < v) (others o os n d.0 b ne) got) in
    own o os n d.0 ∙ omega arith)
    os d.0 in
    let later : (a : Ranked) → (a.number ≡ o.number → ⊥) → Each (Whole side os rest a) os → Each (Whole side (o ∷ os) n a) os =
    λ a ne h. all_both (λ b. b.number ≡ o.number → ⊥) (Whole side os rest a) (Whole side (o ∷ os) n a)
    (λ b ne' k t got. others o os n d.0 a ne ∙ k t (subst (λ v. 0 < v) (others o os n d.0 b ne') got))
    os d.0 h in (
      ((λ t _. absurd (never t)), first),
      all_both (λ a. ahead side o a ≡ true) (λ a. Each (Whole side (o ∷ os) n a) os) (λ a. Each (Whole side (o ∷ os) n a) (o ∷ os))
          (λ a before h. ((λ t _. absurd (never (law.trans o a o before t))), h)) os s.0
          (all_both (λ a. a.number ≡ o.number → ⊥) (λ a. Each (Whole side os rest a) os) (λ a. Each (Whole side (o ∷ os) n a) os) later os d.0
          (whole_ahead side os rest s.1 d.1)),
    )

-- Both are of these orders, a ahead of b, and they have two numbers.
abbrev Turn : (side : Side) (orders : List Ranked) (a b : Ranked) → Type 0
Turn side orders a b = Has orders a × Has orders b × (ahead side a b ≡ true) × (b.number ≡ a.number → ⊥)

turns : (side : Side) (orders q : List Ranked) → Sorted (ahead side) q → Distinct (λ o. o.number) q → Each (Has orders) q → Downward (Turn side orders) q
turns side orders [] s d h = tt
turns side orders (o ∷ os) s d h = (
  all_both (Has orders) (λ b. (ahead side o b ≡ true) × (b.number ≡ o.number → ⊥)) (Turn side orders o) (λ b in' k. (h.0, in', k.0, k.1)) os h.1
      (all_both (λ b. ahead side o b ≡ true) (λ b. b.number ≡ o.number → ⊥) (λ b. (ahead side o b ≡ true) × (b.number ≡ o.number → ⊥)) (λ b t ne. (t, ne)) os s.0 d.0),
  turns side orders os s.1 d.1 h.1,
)

pub fills_keep_priority : FillsKeepPriority
fills_keep_priority side orders n apart =
    let lt = ahead side in
    let number : Ranked → ℕ = λ o. o.number in
    let q = sequence side orders in
    let down = sorted_sort lt number (ahead_strict side) orders apart in
    let apart' = distinct_sort lt number orders apart in
    let turn = turns side orders q down apart' (all_sort lt (Has orders) orders (all_has_itself orders)) in
    let one = same_key number orders apart in
    let whole : Each (λ a. Each (Whole side q n a) orders) orders = all_unsort lt (λ a. Each (Whole side q n a) orders) orders
    (All-weaker (λ a. Each (Whole side q n a) q) (λ a. Each (Whole side q n a) orders) (λ a. all_unsort lt (Whole side q n a) orders) q (whole_ahead side q n down apart')) in
    record {
      in_turn = downward_along (Turn side orders) (λ f g. (a b : Ranked) → BehindFill orders f a → BehindFill orders g b → Ahead side a b)
          (λ o p m g t from _ a b fa gb.
          subst₂ (Ahead side) (one o a t.0 fa.0 (sym fa.1)) (one p b t.1 gb.0 (sym (gb.1 ∙ from))) ((ahead_exactly side o p).only t.2))
          q n turn;
      once = distinct_down (λ f. f.number) (fills side orders n)
          (downward_along (Turn side orders) (λ f g. g.number ≡ f.number → ⊥) (λ o p m g t from _ e. t.3 (sym from ∙ e)) q n turn);
      some = each_along (Has orders) (λ f. (a : Ranked) → BehindFill orders f a → 0 < a.shares → 0 < f.shares)
          (λ o p has left a fa.
          let same : o ≡ a = one o a has fa.0 (sym fa.1) in
          subst (λ v. 0 < v.shares → 0 < min p o.shares) same (λ more. omega arith))
          q n (all_sort lt (Has orders) orders (all_has_itself orders));
      ahead_whole = λ a b ha hb before. all-has (Whole side q n a) orders b (all-has (λ a. Each (Whole side q n a) orders) orders a whole ha) hb ((ahead_exactly side a b).if before);
      last_partial = downward_along (Turn side orders) (λ f g. (a : Ranked) → BehindFill orders f a → f.shares ≡ a.shares)
          (λ o p m g t _ less a fa.
          let same : o ≡ a = one o a t.0 fa.0 (sym fa.1) in
          subst (λ v. min m o.shares ≡ v.shares) same (omega arith))
          q n turn;
    }
