-- The root of a tournament holds the best quote of its centres
use Rattle.std.proofs.Common.{◌≡◌, ℕ, zero, suc, ◌+◌, ◌*◌, ◌/◌, ◌<◌, ◌≤◌, List, length, set, replicate, Some, None, Option, sym, refl, ap, ◌∙◌, ⊎_elim, add-zero, add_assoc, add-suc, mul_assoc, add-mul, mul-le-mul_left, mul-add, arith}
use mathlib.Core.Path.{fun_ext}
use Rattle.std.proofs.lemmas.List.{get_or-set_same, get_or-set_other}
use Rattle.std.proofs.lemmas.Bool.{cases_eq, le-leb}
use Rattle.std.proofs.lemmas.Bool.Decides.{nat_tests}
use Rattle.terms.specs.declared.market.Side.{Side}
use Rattle.terms.specs.declared.market.Side.TheVariants.{Buy, Sell}
use Rattle.terms.specs.declared.market.Quote.{Quote}
use Rattle.terms.specs.Words.{only_if, keep_if}
use Rattle.terms.proofs.Lists.{get_or_same}
use Rattle.quotes.specs.Quotes.{Table, no_quotes, no_centres, as_large_as, price_of, leading, leader}
use Rattle.quotes.proofs.Shown.{leader_none, leader_more, leader_same}
use Rattle.tournament_tree.specs.Tournament.{winner, node, shown_at, Won, AllWon, Sound, of_side, tree_means}

-- ONE PAIR DECIDED AGAIN

module _ (side : Side) (nodes : List (Option Quote)) where
  won_here : (k : ℕ) (v : Option Quote) → 1 ≤ k → k < length nodes → v ≡ winner side (node nodes (2 * k)) (node nodes (2 * k + 1)) → Won side (set nodes k v) k
  won_here k v a b e =
      let s = get_or-set_same nodes k v None b in
      let l = get_or-set_other nodes k (2 * k) v None (λ q. omega arith) in
      let r = get_or-set_other nodes k (2 * k + 1) v None (λ q. omega arith) in
      cc

  won_other : (k j : ℕ) (v : Option Quote) → (j ≡ k → ⊥) → (2 * j ≡ k → ⊥) → (2 * j + 1 ≡ k → ⊥) → Won side nodes j → Won side (set nodes k v) j
  won_other k j v a b c w =
      let s = get_or-set_other nodes k j v None a in
      let l = get_or-set_other nodes k (2 * j) v None b in
      let r = get_or-set_other nodes k (2 * j + 1) v None c in
      cc

  -- once a pair is decided, only its parent's pair may be undecided
  pub won_more : (k : ℕ) (v : Option Quote) → 1 ≤ k → k < length nodes → v ≡ winner side (node nodes (2 * k)) (node nodes (2 * k + 1))
      → ((j : ℕ) → 1 ≤ j → j < 16 → (j ≡ k → ⊥) → Won side nodes j) → (j : ℕ) → 1 ≤ j → j < 16 → (j ≡ k / 2 → ⊥) → Won side (set nodes k v) j
  won_more k v a b e w j p q ne =
      ⊎_elim
      (λ (x : j ≡ k). rw x (won_here k v a b e))
      (λ (x : j ≡ k → ⊥). won_other k j v x (λ y. ne (omega arith)) (λ y. ne (omega arith)) (w j p q x))
      (cases_eq j k)

-- THE ROOT

price_winner : (side : Side) (a b : Option Quote) → price_of (winner side a b) ≡ leading side (price_of a) (price_of b)
price_winner side None b = refl
price_winner side (Some a) None = refl
price_winner Buy (Some a) (Some b) = grind (arith, nat_tests)
price_winner Sell (Some a) (Some b) = grind (arith, nat_tests)

leading_none : (side : Side) (a : Option ℕ) → leading side a None ≡ a
leading_none side None = refl
leading_none side (Some x) = refl

leading_assoc : (side : Side) (a b c : Option ℕ) → leading side (leading side a b) c ≡ leading side a (leading side b c)
leading_assoc side None b c = refl
leading_assoc side (Some x) None c = refl
leading_assoc Buy (Some x) (Some y) None = refl
leading_assoc Buy (Some x) (Some y) (Some z) = ap Some (omega arith)
leading_assoc Sell (Some x) (Some y) None = refl
leading_assoc Sell (Some x) (Some y) (Some z) = ap Some (omega arith)

module _ (side : Side) (f : ℕ → Option Quote) where
  -- the leader of m places from a on
  abbrev from : (a m : ℕ) → Option ℕ
  from a m = leader side (λ c. f (a + c)) m

  from_append : (a m n : ℕ) → from a (m + n) ≡ leading side (from a m) (from (a + m) n)
  from_append a m zero =
      ap (from a) (add-zero m) ∙ sym (ap (leading side (from a m)) (leader_none side (λ c. f (a + m + c))) ∙ leading_none side (from a m))
  from_append a m (suc n) =
      let last = price_of (f (a + m + n)) in
      ap (from a) (add-suc m n)
      ∙ (leader_more side (λ c. f (a + c)) (m + n)
      ∙ (ap (λ p. leading side p (price_of (f (a + (m + n))))) (from_append a m n)
      ∙ (ap (λ i. leading side (leading side (from a m) (from (a + m) n)) (price_of (f i))) (sym (add_assoc a m n))
      ∙ (leading_assoc side (from a m) (from (a + m) n) last
      ∙ sym (ap (leading side (from a m)) (leader_more side (λ c. f (a + m + c)) n))))))

module _ (side : Side) (nodes : List (Option Quote)) (won : AllWon side nodes) where
  -- a place that stands over m centres holds the best quote of these
  abbrev Leads : ℕ → Type 0
  Leads m = (k : ℕ) → 1 ≤ k → (k + 1) * m ≤ 32 → price_of (node nodes k) ≡ from side (node nodes) (k * m) m

  leads_one : Leads 1
  leads_one k a b =
      let at : k * 1 + 0 ≡ k = omega arith in
      sym (leader_more side (λ c. node nodes (k * 1 + c)) 0 ∙ (ap (λ p. leading side p (price_of (node nodes (k * 1 + 0)))) (leader_none side (λ c. node nodes (k * 1 + c))) ∙ ap (λ i. price_of (node nodes i)) at))

  leads_twice : (m : ℕ) → 1 ≤ m → Leads m → Leads (m + m)
  leads_twice m a l k p b =
      let e0 = mul-add k m m in
      let e1 = mul_assoc 2 k m in
      let e2 = add-mul k 1 (m + m) in
      let e3 = add-mul (2 * k) 1 m in
      let e4 = add-mul (2 * k + 1) 1 m in
      let e5 = mul-le-mul_left k a in
      let low : k < 16 = omega arith in
      let left = l (2 * k) (omega arith) (omega arith) in
      let right = l (2 * k + 1) (omega arith) (omega arith) in
      let start : 2 * k * m ≡ k * (m + m) = omega arith in
      let next : (2 * k + 1) * m ≡ k * (m + m) + m = omega arith in
      ap price_of (won k p low)
      ∙ (price_winner side (node nodes (2 * k)) (node nodes (2 * k + 1))
      ∙ (ap (λ p. leading side p (price_of (node nodes (2 * k + 1)))) (left ∙ ap (λ i. from side (node nodes) i m) start)
      ∙ (ap (leading side (from side (node nodes) (k * (m + m)) m)) (right ∙ ap (λ i. from side (node nodes) i m) next)
      ∙ sym (from_append side (node nodes) (k * (m + m)) m m))))

  pub root_leads : price_of (node nodes 1) ≡ leader side (λ centre. node nodes (16 + centre)) 16
  root_leads =
      let two = leads_twice 1 (omega arith) leads_one in
      let four = leads_twice 2 (omega arith) two in
      let eight = leads_twice 4 (omega arith) four in
      leads_twice 8 (omega arith) eight 1 (omega arith) (omega arith)

-- WHAT THE TOURNAMENT SHOWS

keep_sized : (o : Option Quote) → ((quote : Quote) → o ≡ Some quote → 1 ≤ quote.size) → keep_if (as_large_as 1) o ≡ o
keep_sized None h = refl
keep_sized (Some t) h = ap (λ b. only_if b (Some t)) (le-leb 1 t.size (h t refl))

pub best_shown : (side : Side) (nodes : List (Option Quote)) → Sound side nodes → price_of (node nodes 1) ≡ leader side (shown_at nodes) 16
best_shown side nodes sound =
    root_leads side nodes sound.0 ∙ leader_same side _ _ 16 (λ centre lt. sym (keep_sized (node nodes (16 + centre)) (sound.1 centre)))

-- A TREE THAT WAS TOLD NOTHING

pub sound_none : (side : Side) (n : ℕ) → Sound side (replicate n None)
sound_none side n = (
  (λ k a b. get_or_same n k None ∙ sym (ap (λ o. winner side o (node (replicate n None) (2 * k + 1))) (get_or_same n (2 * k) None) ∙ get_or_same n (2 * k + 1) None)),
  (λ centre quote e. let z : ◌≡◌ {A = ℕ} 0 1 = go quote (sym (get_or_same n (16 + centre) None) ∙ e) in omega arith),
)
  where
    go : (quote : Quote) → ◌≡◌ {A = Option Quote} None (Some quote) → ◌≡◌ {A = ℕ} 0 1
    go quote e = cc

pub means_none : (n : ℕ) → tree_means (replicate n None) (replicate n None) ≡ no_quotes
means_none n =
    ap (λ (t : Table). record { table = t; own = no_centres; beneath = no_centres; lot = 1 })
    (fun_ext (λ centre. fun_ext (λ side. go side centre)))
  where
    go : (side : Side) (centre : ℕ) → node (of_side side (replicate n None) (replicate n None)) (16 + centre) ≡ None
    go Buy centre = get_or_same n (16 + centre) None
    go Sell centre = get_or_same n (16 + centre) None
