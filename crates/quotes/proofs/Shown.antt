-- The protected quote is shown by some centre, and no centre shows a better one
use Rattle.std.proofs.Common.{◌≡◌, ℕ, zero, suc, ◌<◌, min, max, Bool, true, false, ltb, ◌⊎◌, Some, None, Option, sym, refl, ap, ◌∙◌, subst, inl, inr, ⊎_elim, arith}
use Rattle.std.proofs.lemmas.Bool.{ltb-true, lt-ltb, cases_eq, cases_lt}
use Rattle.terms.specs.declared.market.Side.{Side}
use Rattle.terms.specs.declared.market.Side.TheVariants.{Buy, Sell}
use Rattle.terms.specs.declared.market.Quote.{Quote}
use Rattle.terms.specs.Words.{only_if}
use Rattle.quotes.specs.Quotes.{Quotes, shown, asked, protected, leader, leading, price_of, best_pair}
use Rattle.quotes.specs.QuoteLaws.{NoBetter, Protects, PairProtects}

some_same : {X : Type 0} (x y : X) → ◌≡◌ {A = Option X} (Some x) (Some y) → x ≡ y
some_same x y e = cc

none_some : {X : Type 0} (x : X) → ◌≡◌ {A = Option X} None (Some x) → ⊥
none_some x e = let z : ◌≡◌ {A = ℕ} 0 1 = cc in omega arith

-- OF TWO PRICES, THE ONE THAT LEADS

leading_none : (side : Side) (a b : Option ℕ) → leading side a b ≡ None → (a ≡ None) × (b ≡ None)
leading_none side None b e = (refl, e)
leading_none side (Some x) None e = absurd (none_some x (sym e))
leading_none Buy (Some x) (Some y) e = absurd (none_some (max x y) (sym e))
leading_none Sell (Some x) (Some y) e = absurd (none_some (min x y) (sym e))

leading_one : (side : Side) (a b : Option ℕ) (p : ℕ) → leading side a b ≡ Some p → (a ≡ Some p) ⊎ (b ≡ Some p)
leading_one side None b p e = inr e
leading_one side (Some x) None p e = inl e
leading_one Buy (Some x) (Some y) p e =
    let is : max x y ≡ p = some_same (max x y) p e in
    ⊎_elim (λ lt. inr (ap Some (omega arith))) (λ le. inl (ap Some (omega arith))) (cases_lt x y)
leading_one Sell (Some x) (Some y) p e =
    let is : min x y ≡ p = some_same (min x y) p e in
    ⊎_elim (λ lt. inl (ap Some (omega arith))) (λ le. inr (ap Some (omega arith))) (cases_lt x y)

no_better_same : (side : Side) (w p : ℕ) → w ≡ p → NoBetter side w p
no_better_same Buy w p e = omega arith
no_better_same Sell w p e = omega arith

-- what is no better than one of the two is no better than the leading one
leading_left : (side : Side) (a b : Option ℕ) (w v p : ℕ) → a ≡ Some v → NoBetter side w v → leading side a b ≡ Some p → NoBetter side w p
leading_left side None b w v p i h e = absurd (none_some v i)
leading_left side (Some x) None w v p i h e = subst (NoBetter side w) (sym (some_same x v i) ∙ some_same x p e) h
leading_left Buy (Some x) (Some y) w v p i h e =
    let is : max x y ≡ p = some_same (max x y) p e in
    let at : x ≡ v = some_same x v i in
    omega arith
leading_left Sell (Some x) (Some y) w v p i h e =
    let is : min x y ≡ p = some_same (min x y) p e in
    let at : x ≡ v = some_same x v i in
    omega arith

leading_right : (side : Side) (a b : Option ℕ) (w p : ℕ) → b ≡ Some w → leading side a b ≡ Some p → NoBetter side w p
leading_right side None b w p i e = no_better_same side w p (some_same w p (sym i ∙ e))
leading_right side (Some x) None w p i e = absurd (none_some w i)
leading_right Buy (Some x) (Some y) w p i e =
    let is : max x y ≡ p = some_same (max x y) p e in
    let at : y ≡ w = some_same y w i in
    omega arith
leading_right Sell (Some x) (Some y) w p i e =
    let is : min x y ≡ p = some_same (min x y) p e in
    let at : y ≡ w = some_same y w i in
    omega arith

-- THE LEADER OF THE QUOTES OF SOME CENTRES

pub leader_none : (side : Side) (quote : ℕ → Option Quote) → leader side quote 0 ≡ None
unfolding leader
leader_none side quote = refl

pub leader_more : (side : Side) (quote : ℕ → Option Quote) (n : ℕ) → leader side quote (suc n) ≡ leading side (leader side quote n) (price_of (quote n))
unfolding leader
leader_more side quote n = refl

-- where the centres below a number quote the same, the leader is the same
pub leader_same : (side : Side) (quote quote' : ℕ → Option Quote) (n : ℕ) → ((centre : ℕ) → centre < n → quote centre ≡ quote' centre) → leader side quote n ≡ leader side quote' n
leader_same side quote quote' zero h = leader_none side quote ∙ sym (leader_none side quote')
leader_same side quote quote' (suc n) h =
    let below = leader_same side quote quote' n (λ centre lt. h centre (omega arith)) in
    let here = h n (omega arith) in
    let a = leader_more side quote n in
    let b = leader_more side quote' n in
    cc

module _ (side : Side) (at : ℕ → Option Quote) where
  -- where some centre quotes, there is a leader
  quoted_absent : (n centre : ℕ) (quote : Quote) → centre < n → at centre ≡ Some quote → leader side at n ≡ None → ⊥
  quoted_absent zero centre quote lt s e = omega arith
  quoted_absent (suc n) centre quote lt s e =
      let parts = leading_none side (leader side at n) (price_of (at n)) (sym (leader_more side at n) ∙ e) in
      ⊎_elim
      (λ here. none_some quote.price (sym parts.1 ∙ ap price_of (subst (λ c. at c ≡ Some quote) here s)))
      (λ ne. quoted_absent n centre quote (omega arith) s parts.0)
      (cases_eq centre n)

  -- no centre quotes a better price than the leader
  quoted_behind : (n centre : ℕ) (quote : Quote) (p : ℕ) → centre < n → at centre ≡ Some quote → leader side at n ≡ Some p → NoBetter side quote.price p
  quoted_behind zero centre quote p lt s e = let z : ⊥ = omega arith in absurd z
  quoted_behind (suc n) centre quote p lt s e =
      let led : leading side (leader side at n) (price_of (at n)) ≡ Some p = sym (leader_more side at n) ∙ e in
      ⊎_elim
      (λ here. leading_right side (leader side at n) (price_of (at n)) quote.price p (ap price_of (subst (λ c. at c ≡ Some quote) here s)) led)
      (λ ne.
      let below : centre < n = omega arith in
      go led (quoted_absent n centre quote below s) (λ v i. quoted_behind n centre quote v below s i) (leader side at n) refl)
      (cases_eq centre n)
    where
      go : leading side (leader side at n) (price_of (at n)) ≡ Some p → (leader side at n ≡ None → ⊥) → ((v : ℕ) → leader side at n ≡ Some v → NoBetter side quote.price v)
          → (o : Option ℕ) → leader side at n ≡ o → NoBetter side quote.price p
      go led present behind None i = absurd (present i)
      go led present behind (Some v) i = leading_left side (leader side at n) (price_of (at n)) quote.price v p i (behind v i) led

  -- some centre below n quotes the price p
  abbrev One : (n p : ℕ) → Type 0
  One n p = (centre : ℕ) × (quote : Quote) × (centre < n) × (at centre ≡ Some quote) × (quote.price ≡ p)

  one_quotes : (n p : ℕ) → leader side at n ≡ Some p → One n p
  one_quotes zero p e = absurd (none_some p (sym (leader_none side at) ∙ e))
  one_quotes (suc n) p e =
      ⊎_elim
      (λ f. let t = one_quotes n p f in (t.0, t.1, omega (arith, t.2), t.3, t.4))
      (λ f. go (at n) refl f)
      (leading_one side (leader side at n) (price_of (at n)) p (sym (leader_more side at n) ∙ e))
    where
      go : (o : Option Quote) → at n ≡ o → price_of (at n) ≡ Some p → One (suc n) p
      go None i f = absurd (none_some p (sym (ap price_of i) ∙ f))
      go (Some quote) i f = (n, quote, omega arith, i, some_same quote.price p (sym (ap price_of i) ∙ f))

-- WHAT AN ANSWER SAYS

pub only_if_some : {X : Type 0} (b : Bool) (o : Option X) (x : X) → only_if b o ≡ Some x → (b ≡ true) × (o ≡ Some x)
only_if_some true o x e = (refl, e)
only_if_some false o x e = absurd (none_some x e)

pub only_if_true : {X : Type 0} (b : Bool) (o : Option X) → b ≡ true → only_if b o ≡ o
only_if_true b o e = ap (λ t. only_if t o) e

pub asked_shown : (centres : ℕ) (q : Quotes) (centre : ℕ) (side : Side) → centre < centres → asked centres q centre side ≡ shown q centre side
asked_shown centres q centre side lt = only_if_true (ltb centre centres) (shown q centre side) (lt-ltb centre centres lt)

asked_parts : (centres : ℕ) (q : Quotes) (centre : ℕ) (side : Side) (quote : Quote) → asked centres q centre side ≡ Some quote → (centre < centres) × (shown q centre side ≡ Some quote)
asked_parts centres q centre side quote e =
    let parts = only_if_some (ltb centre centres) (shown q centre side) quote e in
    (ltb-true centre centres parts.0, parts.1)

-- no centre shows a better quote than the protected one
pub asked_behind : (centres : ℕ) (q : Quotes) (side : Side) (centre : ℕ) (quote : Quote) (p : ℕ) → asked centres q centre side ≡ Some quote → protected centres q side ≡ Some p → NoBetter side quote.price p
asked_behind centres q side centre quote p a e =
    let parts = asked_parts centres q centre side quote a in
    quoted_behind side (λ c. shown q c side) centres centre quote p parts.0 parts.1 e

-- and some centre shows it
pub one_asked : (centres : ℕ) (q : Quotes) (side : Side) (p : ℕ) → protected centres q side ≡ Some p → (centre : ℕ) × (quote : Quote) × (asked centres q centre side ≡ Some quote) × (quote.price ≡ p)
one_asked centres q side p e =
    let t = one_quotes side (λ c. shown q c side) centres p e in
    (t.0, t.1, asked_shown centres q t.0 side t.2 ∙ t.3, t.4)

protects : (centres : ℕ) (q : Quotes) (side : Side) → Protects centres q side (protected centres q side)
protects centres q side = go (protected centres q side) refl
  where
    go : (o : Option ℕ) → protected centres q side ≡ o → Protects centres q side o
    go None e = λ centre quote a.
        let parts = asked_parts centres q centre side quote a in
        quoted_absent side (λ c. shown q c side) centres centre quote parts.0 parts.1 e
    go (Some p) e = (one_asked centres q side p e, (λ centre quote a. asked_behind centres q side centre quote p a e))

pub pair_protects : (centres : ℕ) (q : Quotes) → PairProtects centres q (best_pair centres q)
pair_protects centres q = (protects centres q Buy, protects centres q Sell)
