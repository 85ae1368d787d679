-- Where a slip stands among those that are out
use Rattle.std.specs.Prelude.{◌≡◌, ℕ, ◌<◌, true, false, List, length, Some, None, Option, slice_index_or}
use Rattle.rules.specs.Lists.{any}
use Rattle.laws.specs.Routed.{is_note}
use Rattle.slips.specs.declared.slip.DrawnSlip.{DrawnSlip}
use Rattle.venue.specs.Answers.{note_of}

-- It stands there, or there is none.
abbrev pub FoundAt : (number shares : ℕ) → List DrawnSlip → Option ℕ → Type 0
FoundAt number shares held None = any (λ slip. is_note number shares (note_of slip)) held ≡ false
FoundAt number shares held (Some i) = (i < length held) × ((d : DrawnSlip) → is_note number shares (note_of (slice_index_or held i d)) ≡ true)
