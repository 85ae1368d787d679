-- What a run answers, leaves and keeps
use Rattle.std.specs.Prelude.{◌≡◌, ℕ, ◌+◌, ◌<◌, ◌≤◌, true, List, map, length, take, Ok, Err, vec_items, vec_len, vec_capacity, Result}
use Rattle.std.specs.List.{AllByRecursion as Each}
use Rattle.std.specs.declared.alloc.AllocError.{AllocError}
use Rattle.terms.specs.declared.orders.Fill.{Fill}
use Rattle.terms.specs.declared.refusals.Refusal.{Refusal}
use Rattle.quotes.specs.Quotes.{Quotes}
use Rattle.rules.specs.Sorted.{Perm}
use Rattle.laws.specs.Book.{State, start}
use Rattle.laws.specs.Law.{Law}
use Rattle.laws.specs.Rows.{AnyCall}
use Rattle.laws.specs.Routed.{Note, out_so_far}
use Rattle.laws.specs.Steps.{trace, run}
use Rattle.book.specs.BookState.{state_of}
use Rattle.book.specs.Means.{state}
use Rattle.venue.specs.declared.answers.Answer.{Answer}
use Rattle.venue.specs.declared.runs.Outcome.{Outcome}
use Rattle.venue.specs.declared.runs.Record.{Record}
use Rattle.venue.specs.Answers.{all_fills, answers_of, note_of, rest_told}

-- There is room for one more answer, and for the most fills that it may have.
abbrev pub HasRoom : Record → Type 0
HasRoom r = (vec_len r.answers < vec_capacity r.answers) × (vec_len r.fills + 256 ≤ vec_capacity r.fills)

-- The first n of these calls are made, from this state and with no slip out before them: what is answered, call by call; the fills of all answers, one after the other; that a remainder of no shares is told as nothing; what stands after them; and which slips are out.
pub record Ran (centres : ℕ) (s : State) (calls : List AnyCall) (n : ℕ) (answers : List (Result Answer Refusal)) (fills : List Fill) (now : State) (out : List Note) : Type 0 where
  pub count : length answers ≡ n
  pub told : answers_of answers fills ≡ map (λ m. m.answer) (trace centres s (take n calls))
  pub fits : all_fills answers ≡ length fills
  pub rests : Each (λ a. rest_told a ≡ true) answers
  pub stands : now ≡ run centres s (take n calls)
  pub slips : Perm (out_so_far (trace centres s (take n calls))) out

-- A run that begins with an empty book, these quotes and this fill list, and has answered the first n of these calls: its answers, fills included, are those of the definitions, call by call, and there are no other fills; a remainder of no shares is told as nothing; book, quotes, fill list and slips stand after exactly these calls; all calls are answered unless the run reports that memory ran out, which it does only where a call remains; and the whole law holds of them.
pub record RanTo (centres : ℕ) (quotes : Quotes) (fill_list : List Fill) (calls : List AnyCall) (quotes' : Quotes) (fill_list' : List Fill) (r : Outcome) (n : ℕ) : Type 0 where
  pub count : length (vec_items r.answers) ≡ n
  pub answers : answers_of (vec_items r.answers) (vec_items r.fills) ≡ map (λ m. m.answer) (trace centres (start quotes fill_list) (take n calls))
  pub fits : all_fills (vec_items r.answers) ≡ length (vec_items r.fills)
  pub rests : Each (λ a. rest_told a ≡ true) (vec_items r.answers)
  pub state_after : state_of (state r.venue.book) quotes' fill_list' ≡ run centres (start quotes fill_list) (take n calls)
  pub slips : Perm (out_so_far (trace centres (start quotes fill_list) (take n calls))) (map note_of (vec_items r.venue.held))
  pub complete : r.end ≡ Ok tt → n ≡ length calls
  pub cut_short : (e : AllocError) → r.end ≡ Err e → n < length calls
  pub law : Law centres (start quotes fill_list) (take n calls)

-- Where there is no memory for a book, no call is made.
abbrev pub RunKeeps : (centres : ℕ) → Quotes → List Fill → List AnyCall → Quotes → List Fill → Result Outcome AllocError → Type 0
RunKeeps centres quotes fill_list calls quotes' fill_list' (Ok r) = RanTo centres quotes fill_list calls quotes' fill_list' r (length (vec_items r.answers))
RunKeeps centres quotes fill_list calls quotes' fill_list' (Err e) = (quotes' ≡ quotes) × (fill_list' ≡ fill_list)
