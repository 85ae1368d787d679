-- Shares allotted along a list whose prices get worse and worse
use Rattle.std.proofs.Common.{◌≡◌, ℕ, ◌+◌, ◌-◌, ◌*◌, ◌≤◌, min, eqb, List, [], ◌∷◌, sym, refl, ap, ◌∙◌, subst, ap₂, subst₂, add-mul, mul-le-mul_left, zero-mul, arith}
use Rattle.std.specs.List.{AllByRecursion as Each}
use Rattle.std.proofs.lemmas.Bool.{cond_both, eqb-true, ne_eqb, cond-false}
use Rattle.terms.specs.declared.market.Side.{Side}
use Rattle.terms.specs.declared.market.Side.TheVariants.{Buy, Sell}
use Rattle.terms.specs.declared.orders.Ranked.{Ranked}
use Rattle.rules.specs.Lists.{sum_of}
use Rattle.rules.specs.Rules.{along, fill_of, filled, filled_to}
use Rattle.rules.specs.Allotment.{allotted, worth, first_worth, AsGood}

abbrev pub depth : List Ranked → ℕ
depth os = sum_of (λ o. o.shares) os

-- what the first k shares along a list are worth
abbrev pub cost : List Ranked → ℕ → ℕ
cost [] k = 0
cost (o ∷ os) k = min k o.shares * o.price + cost os (k - o.shares)

-- prices get no better along the list
abbrev pub Falling : Side → List Ranked → Type 0
Falling side [] = Unit {0}
Falling side (o ∷ os) = Each (λ p. AsGood side o.price p.price) os × Falling side os

pub filled_along : (q : List Ranked) (n : ℕ) → filled (along q n) ≡ min n (depth q)
filled_along [] n = omega arith
filled_along (o ∷ os) n =
    cond_both (eqb n 0) [] (fill_of o (min n o.shares) ∷ along os (n - o.shares)) (λ l. filled l ≡ min n (depth (o ∷ os)))
    (λ e. omega (arith, eqb-true n 0 e))
    (λ e. omega (arith, filled_along os (n - o.shares)))

pub allotted_le : (q : List Ranked) (a : ℕ → ℕ) → Each (λ o. a o.number ≤ o.shares) q → allotted q a ≤ depth q
allotted_le [] a h = omega arith
allotted_le (o ∷ os) a h = omega (arith, h.0, allotted_le os a h.1)

-- fills along a list give nothing to a number that it has not
pub filled_to_none : (q : List Ranked) (n m : ℕ) → Each (λ o. o.number ≡ m → ⊥) q → filled_to (along q n) m ≡ 0
filled_to_none [] n m h = refl
filled_to_none (o ∷ os) n m h =
    cond_both (eqb n 0) [] (fill_of o (min n o.shares) ∷ along os (n - o.shares)) (λ l. filled_to l m ≡ 0)
    (λ e. refl)
    (λ e. omega (arith, cond-false (eqb o.number m) (min n o.shares) 0 (ne_eqb o.number m h.0), filled_to_none os (n - o.shares) m h.1))

cost_zero : (q : List Ranked) → cost q 0 ≡ 0
cost_zero [] = refl
cost_zero (o ∷ os) =
    let e : min 0 o.shares ≡ 0 = omega arith in
    let f : 0 - o.shares ≡ 0 = omega arith in
    rw (e, f) (omega (arith, zero-mul o.price, cost_zero os))

-- the fill list is worth what the list is that it went along
pub first_worth_along : (q : List Ranked) (n k : ℕ) → k ≤ n → first_worth (along q n) k ≡ cost q k
first_worth_along [] n k h = refl
first_worth_along (o ∷ os) n k h =
    cond_both (eqb n 0) [] (fill_of o (min n o.shares) ∷ along os (n - o.shares)) (λ l. first_worth l k ≡ cost (o ∷ os) k)
    (λ e. let z : k ≡ 0 = omega (arith, eqb-true n 0 e) in rw z (sym (cost_zero (o ∷ os))))
    (λ e.
    let m : min k (min n o.shares) ≡ min k o.shares = omega arith in
    let r : k - min n o.shares ≡ k - o.shares = omega arith in
    let ih = first_worth_along os (n - o.shares) (k - o.shares) (omega arith) in
    rw (m, r, ih))

as_good_refl : (side : Side) (x : ℕ) → AsGood side x x
as_good_refl Buy x = omega arith
as_good_refl Sell x = omega arith

as_good_mul : (side : Side) (d p r : ℕ) → AsGood side p r → AsGood side (d * p) (d * r)
as_good_mul Buy d p r h = mul-le-mul_left d h
as_good_mul Sell d p r h = mul-le-mul_left d h

raise_step : (side : Side) (a b c f g m : ℕ) → AsGood side a b → AsGood side (c + f) g → AsGood side ((a + c) + (m + f)) ((m + b) + g)
raise_step Buy a b c f g m h k = omega arith
raise_step Sell a b c f g m h k = omega arith

-- d more shares are worth no more to the customer than d at a price that is as good as each of the list
raise : (side : Side) (p : ℕ) (q : List Ranked) (m d : ℕ) → Each (λ o. AsGood side p o.price) q → m + d ≤ depth q
    → AsGood side (d * p + cost q m) (cost q (m + d))
raise side p [] m d h l =
    let z : d ≡ 0 = omega arith in
    rw (z, zero-mul p) (as_good_refl side 0)
raise side p (o ∷ os) m d h l =
    let t : ℕ = o.shares in
    let e : ℕ = min (m + d) t - min m t in
    let ih = raise side p os (m - t) (d - e) h.1 (omega arith) in
    let left : d ≡ e + (d - e) = omega arith in
    let top : min (m + d) t ≡ min m t + e = omega arith in
    let rest : m + d - t ≡ (m - t) + (d - e) = omega arith in
    let by = raise_step side (e * p) (e * o.price) ((d - e) * p) (cost os (m - t)) (cost os ((m - t) + (d - e))) (min m t * o.price)
    (as_good_mul side e p o.price h.0) ih in
    subst₂ (AsGood side)
    (ap (λ v. v + (min m t * o.price + cost os (m - t))) (sym (ap (λ v. v * p) left ∙ add-mul e (d - e) p)))
    (sym (ap₂ ◌+◌ (ap (λ v. v * o.price) top ∙ add-mul (min m t) e o.price) (ap (cost os) rest)))
    by

best_step : (side : Side) (x d c e w : ℕ) → AsGood side (d + c) e → AsGood side e w → AsGood side ((x + d) + c) (x + w)
best_step Buy x d c e w h k = omega arith
best_step Sell x d c e w h k = omega arith

-- no allotment is worth more to the customer than as many shares along the list
pub best_along : (side : Side) (q : List Ranked) (a : ℕ → ℕ) (k : ℕ) → Falling side q → Each (λ o. a o.number ≤ o.shares) q
    → allotted q a ≡ k → AsGood side (cost q k) (worth q a)
best_along side [] a k f h e = as_good_refl side 0
best_along side (o ∷ os) a k f h e =
    let s : ℕ = o.shares in
    let x : ℕ = a o.number in
    let d : ℕ = min k s - x in
    let ih = best_along side os a (k - x) f.1 h.1 (omega arith) in
    let low = allotted_le os a h.1 in
    let up = raise side o.price os (k - s) d f.0 (omega (arith, h.0)) in
    let all : min k s ≡ x + d = omega (arith, h.0) in
    let rest : k - s + d ≡ k - x = omega (arith, h.0) in
    subst (λ v. AsGood side (v + cost os (k - s)) (x * o.price + worth os a))
    (sym (ap (λ v. v * o.price) all ∙ add-mul x d o.price))
    (best_step side (x * o.price) (d * o.price) (cost os (k - s)) (cost os (k - x)) (worth os a)
    (subst (λ v. AsGood side (d * o.price + cost os (k - s)) (cost os v)) rest up) ih)
