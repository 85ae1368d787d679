-- One call, made after others
use Rattle.std.specs.Prelude.{◌≡◌, ℕ, List, [], ◌∷◌, ◌++◌}
use Rattle.terms.specs.declared.orders.Fill.{Fill}
use Rattle.quotes.specs.Quotes.{Quotes}
use Rattle.laws.specs.Book.{State, start}
use Rattle.laws.specs.Book.{Answer as Told}
use Rattle.laws.specs.Law.{Law}
use Rattle.laws.specs.Rows.{AnyCall}
use Rattle.laws.specs.Steps.{trace, run}

-- A call that is made after others, on a book and quotes that began so: with its answer and the state that it leaves it is the last call met, that state is the state after all of them, and the whole law holds of them all.
pub record IsNextCall (centres : ℕ) (began : State) (calls : List AnyCall) (before : State) (call : AnyCall) (answer : Told) (after : State) : Type 0 where
  pub met : trace centres began (calls ++ call ∷ []) ≡ trace centres began calls ++ record { before = before; call = call; answer = answer; after = after } ∷ []
  pub stands : after ≡ run centres began (calls ++ call ∷ [])
  pub law : Law centres began (calls ++ call ∷ [])

-- Whatever quotes and fill list there were at the start, and whatever was called before on a book that was empty then, this is the next call, and the law is kept.
pub record KeepsTheLaw (centres : ℕ) (before : State) (call : AnyCall) (answer : Told) (after : State) : Type 0 where
  pub whatever_came_before : (quotes : Quotes) (fill_list : List Fill) (calls : List AnyCall) → before ≡ run centres (start quotes fill_list) calls → IsNextCall centres (start quotes fill_list) calls before call answer after
