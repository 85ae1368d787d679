-- What a walk leaves in the list that is lent for its fills
use Rattle.std.specs.Prelude.{◌≡◌, ◌<◌, ◌≤◌, List, ◌++◌, length, drop, Ok, Err, Result}
use Rattle.terms.specs.declared.orders.Fill.{Fill}
use Rattle.terms.specs.declared.refusals.Refusal.{Refusal}
use Rattle.terms.specs.declared.refusals.Refusal.TheVariants.{ShortFillList}
use Rattle.rules.specs.Rules.{filled}
use Rattle.matching.specs.declared.walk.Matched.{Matched}

-- The fills stand at the front of the list, the places after them hold what they held, and the answer says how many fills there are and their shares in all.
pub record Written (fs : List Fill) (before after : List Fill) (m : Matched) : Type 0 where
  pub count : m.fills ≡ length fs
  pub shares : m.shares ≡ filled fs
  pub places : after ≡ fs ++ drop (length fs) before
  pub within : length fs ≤ length before

-- A list of fewer than 256 places is refused, and holds what it held.
abbrev pub FillAnswer : List Fill → (before after : List Fill) → Result Matched Refusal → Type 0
FillAnswer fs before after (Err why) = (why ≡ ShortFillList) × (length before < 256) × (after ≡ before)
FillAnswer fs before after (Ok m) = (256 ≤ length before) × Written fs before after m
