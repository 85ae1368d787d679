use Rattle.std.proofs.Common.{◌≡◌, ◌+◌, ◌-◌, vec_items, sym, refl, ap, ◌∙◌, subst, arith}
use Rattle.terms.specs.declared.market.Side.TheVariants.{Buy, Sell}
use Rattle.terms.specs.Words.{same_side}
use Rattle.rules.specs.Rules.{filled, cancelled_rest, waiting_rest}
use Rattle.laws.specs.Book.{trade, with_slip}
use Rattle.queues.specs.declared.side.SideQueues.{SideQueues}
use Rattle.book.specs.Means.{Settled, cancelled_in, remainder_of, slips_after, state, waiting_in, well_told}
use Rattle.book.proofs.Settling.{settled_resting, settled_numbered, settled_few, settled_unmet, cancelled_is, waiting_is, slips_are, rest_told, same_trade, same_book}
use Rattle.book.proofs.ledger.Book.take_off.Goals as goal
use Rattle.book.proofs.ledger.Book.take_off.Goals.{After-add_slip, in-Buy, in-Sell}

-- the queues of the two sides after the fills
buys_after : After-add_slip → SideQueues
buys_after c = c.match-order.self.1.1.1.1.0

sells_after : After-add_slip → SideQueues
sells_after c = c.match-order.self.1.1.1.1.1.0

-- the side that is met is settled, and the other has no order with a fill
settled_sides : (c : After-add_slip)
    → (Settled c.args.fills.now c.args.self.now.buys (buys_after c) × (buys_after c).side ≡ c.args.self.now.buys.side)
    × (Settled c.args.fills.now c.args.self.now.sells (sells_after c) × (sells_after c).side ≡ c.args.self.now.sells.side)
unfolding buys_after sells_after
settled_sides c =
    let b = c.args.self.now in
    let fs = c.args.fills.now in
    elim c.match-order.branch [
      | in-Buy w ↦ subst (λ x. (Settled fs b.buys x.1.1.1.1.0 × x.1.1.1.1.0.side ≡ b.buys.side) × (Settled fs b.sells x.1.1.1.1.1.0 × x.1.1.1.1.1.0.side ≡ b.sells.side)) (sym w.self-is) (
        (settled_unmet fs b.buys (c.requires.spared_buys w.in-Buy.is), refl),
        (record { fixed = w.settle.ensures.fixed; following = w.settle.ensures.following; by_offset = w.settle.ensures.by_offset }, w.settle.ensures.side),
      )
      | in-Sell w ↦ subst (λ x. (Settled fs b.buys x.1.1.1.1.0 × x.1.1.1.1.0.side ≡ b.buys.side) × (Settled fs b.sells x.1.1.1.1.1.0 × x.1.1.1.1.1.0.side ≡ b.sells.side)) (sym w.self-is) (
        (record { fixed = w.settle-in-Sell.ensures.fixed; following = w.settle-in-Sell.ensures.following; by_offset = w.settle-in-Sell.ensures.by_offset }, w.settle-in-Sell.ensures.side),
        (settled_unmet fs b.sells (c.requires.spared_sells w.in-Sell.is), refl),
      )
    ]

pub invariant_of-self : goal.invariant_of-self
unfolding buys_after sells_after
invariant_of-self c =
    let b = c.args.self.now in
    let fs = c.args.fills.now in
    let both = settled_sides c in
    let buys' = buys_after c in
    let sells' = sells_after c in
    record {
      buying = ap (λ x. same_side x Buy) both.0.1 ∙ b.buying;
      selling = ap (λ x. same_side x Sell) both.1.1 ∙ b.selling;
      numbered = settled_numbered fs b.buys b.sells buys' sells' both.0.0 both.1.0 b.last b.numbered;
      few = settled_few fs b.buys b.sells buys' sells' both.0.0 both.1.0 b.last b.numbered b.few;
      given = omega (arith, c.requires.number);
    }

pub returns : goal.returns
unfolding buys_after sells_after
returns c =
    let b = c.args.self.now in
    let r = c.args.order in
    let fs = c.args.fills.now in
    let at = (goal.at.returns c).After-add_slip in
    let both = settled_sides at in
    let rest = r.shares - c.args.shares in
    let left = r.shares - filled fs in
    let same : rest ≡ left = ap (λ n. r.shares - n) c.requires.filled in
    let m = c.remainder_of-remainder.ensures in
    let slips = vec_items b.slips.slips in
    record {
      count = refl;
      answer =
          same_trade (b.last + 1) c.args.shares (filled fs) (cancelled_in c.remainder_of-remainder.result) (cancelled_rest r.kind left) (waiting_in c.remainder_of-remainder.result) (waiting_rest r.kind left) fs
          c.requires.filled
          (ap cancelled_in m ∙ (cancelled_is r.kind rest ∙ ap (cancelled_rest r.kind) same))
          (ap waiting_in m ∙ (waiting_is r.kind rest ∙ ap (waiting_rest r.kind) same));
      rest = ap well_told m ∙ rest_told r.kind rest;
      after =
          same_book b.phase (state b).approved (b.last + 1) _ _ (vec_items c.add_slip.new.slips.slips) (with_slip slips (trade r (b.last + 1) fs))
          (settled_resting fs b.buys b.sells (buys_after at) (sells_after at) both.0.0 both.1.0 b.last b.numbered)
          (c.add_slip.ensures
          ∙ (ap (slips_after slips (b.last + 1)) m
          ∙ (ap (λ n. slips_after slips (b.last + 1) (remainder_of r.kind n)) same ∙ slips_are slips (b.last + 1) r.kind left)));
      buys = both.0.0;
      sells = both.1.0;
    }
