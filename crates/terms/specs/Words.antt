-- Small words that the definitions of every crate use
use Rattle.std.specs.Prelude.{Bool, true, false, Some, None, Option}
use Rattle.terms.specs.declared.market.Side.{Side}
use Rattle.terms.specs.declared.market.Side.TheVariants.{Buy, Sell}

-- what is there, where the test passes; nothing, where it fails
abbrev pub only_if : {X : Type 0} → Bool → Option X → Option X
only_if true o = o
only_if false o = None

-- what is there, if it passes the test
abbrev pub keep_if : {X : Type 0} → (X → Bool) → Option X → Option X
keep_if p None = None
keep_if p (Some x) = only_if (p x) (Some x)

abbrev pub same_side : Side → Side → Bool
same_side Buy Buy = true
same_side Buy Sell = false
same_side Sell Buy = false
same_side Sell Sell = true

-- the one holds exactly if the other does
pub record ExactlyIf (A B : Type 0) : Type 0 where
  pub only : A → B
  pub if : B → A
