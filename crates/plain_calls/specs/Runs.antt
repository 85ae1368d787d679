-- What the calls of a list are answered, from the beginning of a day
use Rattle.std.specs.Prelude.{◌≡◌, ℕ, ◌+◌, ◌<◌, ◌≤◌, true, ◌||◌, List, [], ◌∷◌, map, length, take, drop, flat_map, None, Option, IsSome, nat_le, nat_lt}
use Rattle.rules.specs.Lists.{picked}
use Rattle.laws.specs.Book.{State, Answer}
use Rattle.laws.specs.Law.{Law}
use Rattle.laws.specs.Rows.{AnyCall}
use Rattle.laws.specs.Steps.{trace}
use Rattle.stacks.specs.Venue.{venue_means}
use Rattle.book.specs.BookState.{state_of}
use Rattle.book.specs.Means.{state}
use Rattle.dayfile.specs.Day.{day_start}
use Rattle.plain_calls.specs.declared.answers.PlainAnswer.{PlainAnswer}
use Rattle.plain_calls.specs.declared.answers.PlainFill.{PlainFill}
use Rattle.plain_calls.specs.declared.calls.PlainCall.{PlainCall}
use Rattle.plain_calls.specs.declared.running.Answered.{Answered}
use Rattle.plain_calls.specs.declared.running.End.TheVariants.{Done, NoMemory, NoSuchCall, ShortList}
use Rattle.plain_calls.specs.declared.running.End.{End}
use Rattle.plain_calls.specs.declared.running.Session.{Session}
use Rattle.plain_calls.specs.Meant.{meant}
use Rattle.plain_calls.specs.MeantLaws.{Says}
use Rattle.plain_calls.specs.Plain.{over, plain, plain_fills}
use Rattle.plain_calls.specs.PlainLaws.{AllTold, EachWith}

-- The state of the definitions that a session stands for.
abbrev pub session_state : Session → State
session_state s = state_of (state s.venue.book) (venue_means s.quotes.lot.shares s.quotes.below.own.marks s.quotes.below.below.rows) s.fills

-- The calls that the first n of a list mean.
abbrev pub calls_meant : ℕ → List PlainCall → List AnyCall
calls_meant n calls = picked meant (take n calls)

abbrev pub answers_to : State → List AnyCall → List Answer
answers_to s calls = map (λ m. m.answer) (trace 32 s calls)

-- The fills of some answers, one after the other.
abbrev pub fills_of : List Answer → List PlainFill
fills_of answers = flat_map plain_fills answers

-- The first n calls of a list each mean something, and were made from this state; their answers and fills stand at the front of the lists that were lent, and nothing after them has changed.
pub record Made (s : State) (calls : List PlainCall) (answers answers' : List PlainAnswer) (fills fills' : List PlainFill) (n k : ℕ) : Type 0 where
  pub within : n ≤ length calls
  pub all_mean : length (calls_meant n calls) ≡ n
  pub answered : answers' ≡ over (map plain (answers_to s (calls_meant n calls))) answers
  pub filled : fills' ≡ over (fills_of (answers_to s (calls_meant n calls))) fills
  pub counted : length (fills_of (answers_to s (calls_meant n calls))) ≡ k

-- What the first call of a list means, if there is one.
abbrev pub first_meant : List PlainCall → Option AnyCall
first_meant [] = None
first_meant (c ∷ cs) = meant c

-- Why no more than the first n calls were made, with k fills. That there was no memory is taken from the allocator. A call without a meaning ends the list for that, whatever the room.
abbrev pub EndsAt : End → List PlainCall → List PlainAnswer → List PlainFill → (n k : ℕ) → Type 0
EndsAt Done calls answers fills n k = n ≡ length calls
EndsAt NoMemory calls answers fills n k = (n ≡ 0) × (k ≡ 0)
EndsAt NoSuchCall calls answers fills n k = (n < length calls) × (first_meant (drop n calls) ≡ None)
EndsAt ShortList calls answers fills n k = (n < length calls) × IsSome (first_meant (drop n calls)) × ((nat_le (length answers) n || nat_lt (length fills) (k + 256)) ≡ true)

-- What a list of calls is answered from the beginning of a day: the first n of its calls are answered as the definitions say, and no other was made; each of these calls is what its letters and numbers say, and each answer stands with its fills in the lists, number by number; why it ends there; and the whole law holds of these calls.
pub record RunAnswered (calls : List PlainCall) (answers answers' : List PlainAnswer) (fills fills' : List PlainFill) (r : Answered) : Type 0 where
  pub made : Made day_start calls answers answers' fills fills' r.calls r.fills
  pub said : EachWith Says (take r.calls calls) (calls_meant r.calls calls)
  pub told : AllTold (answers_to day_start (calls_meant r.calls calls)) (take r.calls answers') (take r.fills fills')
  pub ends : EndsAt r.end calls answers fills r.calls r.fills
  pub law : Law 32 day_start (calls_meant r.calls calls)
