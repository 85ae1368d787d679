-- A set of market centres as a list of marks
use Rattle.std.specs.Prelude.{ℕ, Bool, true, false, List, slice_index_or}
use Rattle.terms.specs.declared.market.QuoteCall.{QuoteCall}
use Rattle.terms.specs.declared.market.QuoteCall.TheVariants.{Declare, Lift}
use Rattle.quotes.specs.Quotes.{Centres}

-- the centres that are marked
abbrev pub set_of : List Bool → Centres
set_of marks = λ centre. slice_index_or marks centre false

-- the call that leaves a centre marked, or not
abbrev pub mark_call : Bool → ℕ → QuoteCall
mark_call true centre = Declare centre
mark_call false centre = Lift centre
