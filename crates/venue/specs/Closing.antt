-- The end of a day: the slips that are out come back
use Rattle.std.specs.Prelude.{◌≡◌, ℕ, not, List, [], ◌++◌, map, filter}
use Rattle.terms.specs.declared.orders.Fill.{Fill}
use Rattle.terms.specs.declared.calls.Call.TheVariants.{Return}
use Rattle.quotes.specs.Quotes.{Quotes}
use Rattle.rules.specs.Sorted.{Perm}
use Rattle.laws.specs.Book.{Book, start, with_slips}
use Rattle.laws.specs.Book.{Answer as Told}
use Rattle.laws.specs.Book.Answer.{Returned}
use Rattle.laws.specs.Law.{Law}
use Rattle.laws.specs.Rows.{AnyCall}
use Rattle.laws.specs.Routed.{Note, InStep}
use Rattle.laws.specs.Steps.{trace, run}
use Rattle.book.specs.BookState.{state_of}

-- A book once every slip that was out has come back: those that wait stay, and so does all else.
abbrev pub all_back : Book → Book
all_back b = with_slips b (filter (λ slip. not slip.drawn) b.slips)

-- the call that returns a slip with nothing executed away
abbrev pub unspent : Note → AnyCall
unspent note = Return note.number note.shares 0

-- its answer: no share was executed away, and all shares on the slip are cancelled
abbrev pub all_cancelled : Note → Told
all_cancelled note = Returned note.number 0 note.shares

-- The slips that are out come back to their book, each with nothing executed away.
pub record ComeBack (before : Book) (out : List Note) (after : Book) : Type 0 where
  pub stands : after ≡ all_back before
  pub none_out : InStep after []
  -- In whichever order they are returned, none is refused and all their shares are cancelled,
  pub answered : (centres : ℕ) (quotes : Quotes) (fill_list : List Fill) (order : List Note) → Perm out order → map (λ m. m.answer) (trace centres (state_of before quotes fill_list) (map unspent order)) ≡ map all_cancelled order
  -- the book stands as it does after these returns,
  pub leaves : (centres : ℕ) (quotes : Quotes) (fill_list : List Fill) (order : List Note) → Perm out order → run centres (state_of before quotes fill_list) (map unspent order) ≡ state_of after quotes fill_list
  -- and the whole law holds of the calls of the day with these returns at its end.
  pub law : (centres : ℕ) (quotes quotes' : Quotes) (fill_list fill_list' : List Fill) (calls : List AnyCall) (order : List Note) → state_of before quotes' fill_list' ≡ run centres (start quotes fill_list) calls → Perm out order → Law centres (start quotes fill_list) (calls ++ map unspent order)
