use Rattle.std.proofs.Common.{◌≡◌, ◌++◌, List, length, map, take}
use Rattle.plain_calls.specs.declared.answers.PlainFill.{PlainFill as Given}
use Rattle.plain_calls.specs.Plain.{over, plain_fill}
use Rattle.plain_calls.proofs.lists.put_fills.Given as goal

abbrev pub invariant-loop-i : goal.invariant-loop-i
invariant-loop-i l =
    (length l.out ≡ length l.initial.out)
    × ((front list : List Given) → l.initial.out ≡ over front list → length front ≡ l.at → l.out ≡ over (front ++ map plain_fill (take l.i l.fills)) list)
