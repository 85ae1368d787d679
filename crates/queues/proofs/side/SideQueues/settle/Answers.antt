use Rattle.std.proofs.Common.{◌≡◌, ◌+◌, [], ◌∷◌, List, refl, sym, ap, ◌∙◌, take, get_or, vec_items}
use Rattle.std.proofs.lemmas.List.{take_all, take_more}
use Rattle.terms.specs.declared.orders.Fill.{Fill}
use Rattle.terms.specs.declared.orders.RestingOrder.{RestingOrder}
use Rattle.rules.specs.Lists.{picked}
use Rattle.rules.specs.Rules.{after_fill}
use Rattle.queues.proofs.Gives.{none_yet, settled_more, some_again, some_fixed, some_following}
use Rattle.queues.proofs.side.SideQueues.settle.Goals as goal
use Rattle.queues.proofs.side.SideQueues.settle.Goals.{After-give, After-loop-fill}

pub loop-fill-init : goal.loop-fill-init
loop-fill-init c =
    let h = c.args.self.now in
    (refl, none_yet (vec_items h.fixed) (some_fixed h), none_yet (vec_items h.following) (some_following h), none_yet (vec_items h.by_offset) (some_again h))

-- a queue after one fill more
more : (c : After-give) (d : Fill) (before now after : List RestingOrder) → now ≡ picked (after_fill (take c.loop-fill.fill-index c.args.fills.now)) before
    → after ≡ picked (after_fill (get_or c.args.fills.now c.loop-fill.fill-index d ∷ [])) now → after ≡ picked (after_fill (take (c.loop-fill.fill-index + 1) c.args.fills.now)) before
more c d before now after was is =
    let fs = c.args.fills.now in
    let i = c.loop-fill.fill-index in
    let f = get_or fs i d in
    is ∙ (ap (picked (after_fill (f ∷ []))) was ∙ (settled_more (take i fs) f before ∙ ap (λ l. picked (after_fill l) before) (sym (take_more fs i d c.loop-fill-test.true))))

pub loop-fill-preserved : goal.loop-fill-preserved
loop-fill-preserved c =
    let i = c.loop-fill.invariant in
    (c.give.ensures.side ∙ i.0, more c _ _ _ _ i.1 c.give.ensures.fixed, more c _ _ _ _ i.2 c.give.ensures.following, more c _ _ _ _ i.3 c.give.ensures.by_offset)

-- after the last fill
whole : (c : After-loop-fill) (before : List RestingOrder) → picked (after_fill (take c.loop-fill.fill-index c.args.fills.now)) before ≡ picked (after_fill c.args.fills.now) before
whole c before = ap (λ fs. picked (after_fill fs) before) (take_all c.loop-fill.fill-index c.args.fills.now c.loop-fill-test.false)

pub returns-clause-side : goal.returns-clause-side
returns-clause-side c = c.loop-fill.invariant.0

pub returns-clause-fixed : goal.returns-clause-fixed
returns-clause-fixed c = c.loop-fill.invariant.1 ∙ whole c (vec_items c.args.self.now.fixed)

pub returns-clause-following : goal.returns-clause-following
returns-clause-following c = c.loop-fill.invariant.2 ∙ whole c (vec_items c.args.self.now.following)

pub returns-clause-by_offset : goal.returns-clause-by_offset
returns-clause-by_offset c = c.loop-fill.invariant.3 ∙ whole c (vec_items c.args.self.now.by_offset)
