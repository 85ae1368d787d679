use Rattle.std.proofs.Common.{◌≡◌, take, vec_items}
use Rattle.rules.specs.Lists.{picked}
use Rattle.rules.specs.Rules.{after_fill}
use Rattle.queues.proofs.side.SideQueues.settle.Given as goal

abbrev pub invariant-loop-fill : goal.invariant-loop-fill
invariant-loop-fill l =
    let left = picked (after_fill (take l.fill-index l.fills)) in
    (l.self.side ≡ l.initial.self.side) × (vec_items l.self.fixed ≡ left (vec_items l.initial.self.fixed))
    × (vec_items l.self.following ≡ left (vec_items l.initial.self.following)) × (vec_items l.self.by_offset ≡ left (vec_items l.initial.self.by_offset))
