use Rattle.std.proofs.Common.{◌≡◌, ◌≤◌, length}
use Rattle.rules.specs.Rules.{along}
use Rattle.matching.specs.Turns.{GiveAll, merged}
use Rattle.matching.proofs.Walking.{Walking}
use Rattle.matching.proofs.walk.walk.Given as goal

abbrev pub invariant-loop-place : goal.invariant-loop-place
invariant-loop-place g l =
    goal.F-IsAlwaysCallable g l.lanes.fixed.counts × goal.F-IsAlwaysCallable g l.lanes.following.counts × goal.G-IsAlwaysCallable g l.lanes.by_offset.counts
    × (l.written ≡ l.place-index) × (l.left ≤ l.shares)
    × ((xs ys zs : _) → GiveAll (goal.F-post g) (goal.G-post g) l.customer l.fn.lanes xs ys zs
    → length (along (merged l.customer xs ys zs) l.shares) ≤ length l.initial.out
    → Walking (goal.F-post g) (goal.G-post g) l.customer (along (merged l.customer xs ys zs) l.shares) l.shares l.lanes l.initial.out l.out l.written l.left)
