-- The test of the sequence says what the plain relation says
use Rattle.std.proofs.Common.{◌≡◌, ℕ, true, false, ◌&&◌, eqb, Decides, refl, ap, ◌∙◌}
use Rattle.std.proofs.lemmas.Bool.{ltb-true, lt-ltb, false≢true}
use Rattle.std.proofs.lemmas.Bool.Decides.{Decides-eqb, Decides-ltb, Decides-and, Decides-or}
use Rattle.terms.specs.declared.market.Side.{Side}
use Rattle.terms.specs.declared.market.Side.TheVariants.{Buy, Sell}
use Rattle.terms.specs.declared.orders.OrderKind.{OrderKind}
use Rattle.terms.specs.declared.orders.OrderKind.TheVariants.{Rpi, Hidden, Displayed}
use Rattle.terms.specs.declared.orders.Ranked.{Ranked}
use Rattle.terms.specs.Words.{ExactlyIf}
use Rattle.rules.specs.Rules.{better, earlier, is_displayed, ahead}
use Rattle.rules.specs.RuleLaws.{BetterPrice, AheadAtPrice, displayed_first, displayed_both, undisplayed_both, Ahead}

-- RPI Orders and hidden orders are not displayed
not_displayed : (kind : OrderKind) → (kind ≡ Displayed → ⊥) → is_displayed kind ≡ false
not_displayed Rpi ne = refl
not_displayed Hidden ne = refl
not_displayed Displayed ne = absurd (ne refl)

rpi_not : Rpi ≡ Displayed → ⊥
rpi_not e = false≢true (ap is_displayed e)

hidden_not : Hidden ≡ Displayed → ⊥
hidden_not e = false≢true (ap is_displayed e)

-- At one price: the order that the rule takes first is ahead,
earlier_only : (kind kind' : OrderKind) (m n : ℕ) → earlier (is_displayed kind) (is_displayed kind') m n ≡ true → AheadAtPrice m n kind kind'
earlier_only Displayed Displayed m n h = displayed_both (ltb-true m n h)
earlier_only Displayed Rpi m n h = displayed_first Rpi rpi_not
earlier_only Displayed Hidden m n h = displayed_first Hidden hidden_not
earlier_only Rpi Displayed m n h = absurd (false≢true h)
earlier_only Hidden Displayed m n h = absurd (false≢true h)
earlier_only Rpi Rpi m n h = undisplayed_both Rpi Rpi rpi_not rpi_not (ltb-true m n h)
earlier_only Rpi Hidden m n h = undisplayed_both Rpi Hidden rpi_not hidden_not (ltb-true m n h)
earlier_only Hidden Rpi m n h = undisplayed_both Hidden Rpi hidden_not rpi_not (ltb-true m n h)
earlier_only Hidden Hidden m n h = undisplayed_both Hidden Hidden hidden_not hidden_not (ltb-true m n h)

-- and the order that is ahead is taken first.
earlier_if : (kind kind' : OrderKind) (m n : ℕ) → AheadAtPrice m n kind kind' → earlier (is_displayed kind) (is_displayed kind') m n ≡ true
earlier_if kind kind' m n (displayed_first other ne) = ap (λ b. earlier true b m n) (not_displayed other ne)
earlier_if kind kind' m n (displayed_both lt) = lt-ltb m n lt
earlier_if kind kind' m n (undisplayed_both one other ne ne' lt) =
    ap (λ b. earlier b (is_displayed other) m n) (not_displayed one ne)
    ∙ (ap (λ b. earlier false b m n) (not_displayed other ne') ∙ lt-ltb m n lt)

-- the better price
decides_better : (customer : Side) (p m : ℕ) → Decides (better customer p m) (BetterPrice customer p m)
decides_better Buy p m = Decides-ltb p m
decides_better Sell p m = Decides-ltb m p

-- the better price, or the earlier turn at one price
pub ahead_exactly : (customer : Side) (a b : Ranked) → ExactlyIf (ahead customer a b ≡ true) (Ahead customer a b)
ahead_exactly customer a b =
    let turn = earlier (is_displayed a.kind) (is_displayed b.kind) a.number b.number in
    let level = Decides-and (eqb a.price b.price) turn (Decides-eqb a.price b.price) (earlier_only a.kind b.kind a.number b.number, earlier_if a.kind b.kind a.number b.number) in
    let both = Decides-or (better customer a.price b.price) (eqb a.price b.price && turn) (decides_better customer a.price b.price) level in
    record { only = both.0; if = both.1 }
