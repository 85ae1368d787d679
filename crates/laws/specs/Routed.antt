-- The slips that are out: handed out by a draw, and not yet taken back
use Rattle.std.specs.Prelude.{ℕ, ◌≤◌, Bool, cond, not, ◌&&◌, List, [], ◌∷◌, ◌++◌, Some, None, fold, filter, Option, ◌==◌}
use Rattle.std.specs.List.{AllByRecursion as Each}
use Rattle.terms.specs.declared.orders.Slip.{Slip}
use Rattle.rules.specs.Lists.{Distinct, picked}
use Rattle.rules.specs.Sorted.{Perm}
use Rattle.laws.specs.Book.{Book, State, Answer}
use Rattle.laws.specs.Book.Answer.{Refused, Done, Entered, Cancelled, Traded, Drawn, Returned}
use Rattle.laws.specs.Rows.{AnyCall}
use Rattle.laws.specs.Steps.{Met, run, trace}

-- what is written on a slip
pub record Note : Type 0 where
  pub number : ℕ
  pub shares : ℕ

-- A draw that is accepted hands a slip out, a return that is accepted takes it back; any other answer, a refused return among them, leaves the slips that are out.
abbrev pub out_after : List Note → Answer → List Note
out_after out (Refused why) = out
out_after out Done = out
out_after out (Entered number shares) = out
out_after out (Cancelled number shares) = out
out_after out (Traded t) = out
out_after out (Drawn number shares) = out ++ record { number = number; shares = shares } ∷ []
out_after out (Returned number away rest) = filter (λ note. not (note.number == number)) out

-- the slips that are out after some calls
abbrev pub out_so_far : List Met → List Note
out_so_far ms = fold (λ out m. out_after out m.answer) [] ms

-- the slips that the book has as drawn
abbrev pub note_if_drawn : Slip → Option Note
note_if_drawn slip = cond slip.drawn (Some (record { number = slip.number; shares = slip.shares })) None

abbrev pub drawn_notes : List Slip → List Note
drawn_notes slips = picked note_if_drawn slips

-- They are the same, in whichever order.
abbrev pub SlipsOut : (centres : ℕ) → State → List AnyCall → Type 0
SlipsOut centres s calls = Perm (drawn_notes (run centres s calls).book.slips) (out_so_far (trace centres s calls))

-- the slip of a number and so many shares
abbrev pub is_note : (number shares : ℕ) → Note → Bool
is_note number shares v = v.number == number && v.shares == shares

-- The slips of a book have numbers that were given, each its own, and those that are out are those that are drawn.
pub record InStep (b : Book) (out : List Note) : Type 0 where
  pub given : Each (λ slip. slip.number ≤ b.last) b.slips
  pub apart : Distinct (λ slip. slip.number) b.slips
  pub same : Perm (drawn_notes b.slips) out
