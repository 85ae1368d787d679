-- A layer shows what its filter keeps of what is shown below
use Rattle.std.proofs.Common.{◌≡◌, ℕ, max, Bool, true, false, not, ◌&&◌, ◌||◌, ltb, leb, Some, None, Option, sym, refl, ap, ◌∙◌, arith}
use Rattle.std.proofs.lemmas.Bool.Decides.{nat_tests}
use Rattle.terms.specs.declared.market.Side.{Side}
use Rattle.terms.specs.declared.market.Side.TheVariants.{Buy, Sell}
use Rattle.terms.specs.declared.market.Quote.{Quote}
use Rattle.terms.specs.Words.{only_if, keep_if}
use Rattle.quotes.specs.Quotes.{Quotes, Centres, as_large_as, excepted, shown, asked, protected, best_pair, with_lot, with_exceptions}
use Rattle.quotes.specs.Filters.{best_through, best_passing, ShowsWhatPasses}
use Rattle.quotes.proofs.Shown.{leader_same, asked_shown}

keep_only : {X : Type 0} (p : X → Bool) (b : Bool) (o : Option X) → keep_if p (only_if b o) ≡ only_if b (keep_if p o)
keep_only p true o = refl
keep_only p false o = refl

keep_both : (a b : ℕ) (o : Option Quote) → keep_if (as_large_as a) (keep_if (as_large_as b) o) ≡ keep_if (as_large_as (max a b)) o
keep_both a b None = refl
keep_both a b (Some t) = go (leb b t.size) refl
  where
    go : (v : Bool) → leb b t.size ≡ v → keep_if (as_large_as a) (only_if (leb b t.size) (Some t)) ≡ only_if (leb (max a b) t.size) (Some t)
    go true e =
        let both : leb a t.size ≡ leb (max a b) t.size = grind (arith, nat_tests) in
        ap (λ v. keep_if (as_large_as a) (only_if v (Some t))) e ∙ ap (λ v. only_if v (Some t)) both
    go false e =
        let both : leb (max a b) t.size ≡ false = grind (arith, nat_tests) in
        ap (λ v. keep_if (as_large_as a) (only_if v (Some t))) e ∙ sym (ap (λ v. only_if v (Some t)) both)

keep_none : {X : Type 0} (o : Option X) → keep_if (λ _. false) o ≡ None
keep_none None = refl
keep_none (Some x) = refl

keep_all : {X : Type 0} (o : Option X) → keep_if (λ _. true) o ≡ o
keep_all None = refl
keep_all (Some x) = refl

unless_either : {X : Type 0} (a b : Bool) (o : Option X) → keep_if (λ _. not a) (only_if (not b) o) ≡ only_if (not (a || b)) o
unless_either true b o = keep_none (only_if (not b) o)
unless_either false b o = keep_all (only_if (not b) o)

module _ (centres : ℕ) (q : Quotes) where
  pub lot_asked : (layer : ℕ) (centre : ℕ) (side : Side) → keep_if (as_large_as layer) (asked centres q centre side) ≡ asked centres (with_lot layer q) centre side
  lot_asked layer centre side =
      let large = as_large_as layer in
      let told = keep_if (as_large_as q.lot) (q.table centre side) in
      keep_only large (ltb centre centres) (shown q centre side)
      ∙ ap (only_if (ltb centre centres)) (keep_only large (not (excepted q centre)) told ∙ ap (only_if (not (excepted q centre))) (keep_both layer q.lot (q.table centre side)))

  pub exceptions_asked : (layer : Centres) (centre : ℕ) (side : Side) → keep_if (λ _. not (layer centre)) (asked centres q centre side) ≡ asked centres (with_exceptions layer q) centre side
  exceptions_asked layer centre side =
      keep_only (λ _. not (layer centre)) (ltb centre centres) (shown q centre side)
      ∙ ap (only_if (ltb centre centres)) (unless_either (layer centre) (excepted q centre) (keep_if (as_large_as q.lot) (q.table centre side)))

-- what passes both of two filters
pub keep_both_of : {X : Type 0} (p q : X → Bool) (o : Option X) → keep_if (λ x. p x && q x) o ≡ keep_if q (keep_if p o)
keep_both_of p q None = refl
keep_both_of p q (Some x) = go (p x)
  where
    go : (b : Bool) → only_if (b && q x) (Some x) ≡ keep_if q (only_if b (Some x))
    go true = refl
    go false = refl

pairs : {X : Type 0} (a a' b b' : X) → a ≡ a' → b ≡ b' → ◌≡◌ {A = X × X} (a, b) (a', b')
pairs a a' b b' i j = ap (λ x. (x, b)) i ∙ ap (λ y. (a', y)) j

module _ (centres : ℕ) (q : Quotes) (layer : ℕ → Quote → Bool) (over : Quotes → Quotes) (shows : ShowsWhatPasses layer over) where
  -- the best of what passes a layer's filter are the protected quotes of the source with the layer over it
  pub layer_pair : best_passing layer centres q ≡ best_pair centres (over q)
  layer_pair = pairs _ _ _ _ (on Buy) (on Sell)
    where
      on : (side : Side) → best_through layer centres q side centres ≡ protected centres (over q) side
      on side = leader_same side _ _ centres (λ centre lt. shows centres q centre side ∙ asked_shown centres (over q) centre side lt)

  -- and the best of what passes a filter too are, over the layer, the best of what passes the filter
  pub layer_passing : (filter : ℕ → Quote → Bool) → best_passing (λ centre quote. layer centre quote && filter centre quote) centres q ≡ best_passing filter centres (over q)
  layer_passing filter = pairs _ _ _ _ (on Buy) (on Sell)
    where
      on : (side : Side) → best_through (λ centre quote. layer centre quote && filter centre quote) centres q side centres ≡ best_through filter centres (over q) side centres
      on side =
          leader_same side _ _ centres (λ centre lt. keep_both_of (layer centre) (filter centre) (asked centres q centre side) ∙ ap (keep_if (filter centre)) (shows centres q centre side))
