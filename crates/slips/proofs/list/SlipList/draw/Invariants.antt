use Rattle.std.proofs.Common.{◌≡◌, ◌++◌, take, drop, map}
use Rattle.laws.specs.Book.{drawn_if}
use Rattle.slips.proofs.list.SlipList.draw.Given as goal

abbrev pub invariant-loop-slip : goal.invariant-loop-slip
invariant-loop-slip l = l.slip-items ≡ map (drawn_if l.number) (take l.slip-index l.initial.slip-items) ++ drop l.slip-index l.initial.slip-items
