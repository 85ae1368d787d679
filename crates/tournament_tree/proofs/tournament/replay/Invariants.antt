use Rattle.std.proofs.Common.{◌≡◌, ℕ, ◌<◌, ◌≤◌, length}
use Rattle.tournament_tree.specs.Tournament.{node, Won}
use Rattle.tournament_tree.proofs.tournament.replay.Given as goal

abbrev pub invariant-loop-k : goal.invariant-loop-k
invariant-loop-k l =
    ((j : ℕ) → 1 ≤ j → j < 16 → (j ≡ l.k → ⊥) → Won l.side l.places j)
    × ((j : ℕ) → 16 ≤ j → node l.places j ≡ node l.initial.places j)
    × (l.k < 16)
    × (length l.places ≡ 32)

abbrev pub decreases-loop-k : goal.decreases-loop-k
decreases-loop-k l = l.k
