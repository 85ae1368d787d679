-- What the functions that C calls leave, with numbers for how they ended
use Rattle.std.specs.Prelude.{◌≡◌, ℕ, ◌<◌, ◌⊎◌, List, length}
use Rattle.dayfile.specs.Day.{day_bytes}
use Rattle.dayfile.specs.DayLaws.{DayKept}
use Rattle.plain_calls.specs.declared.answers.PlainAnswer.{PlainAnswer}
use Rattle.plain_calls.specs.declared.answers.PlainFill.{PlainFill}
use Rattle.plain_calls.specs.declared.calls.PlainCall.{PlainCall}
use Rattle.plain_calls.specs.declared.running.End.{End}
use Rattle.plain_calls.specs.declared.running.End.TheVariants.{Done, NoMemory, NoSuchCall, ShortList}
use Rattle.plain_calls.specs.Plain.{over}
use Rattle.plain_calls.specs.Runs.{EndsAt, RunAnswered}
use Rattle.coralauger.specs.declared.PlainDay.{PlainDay}
use Rattle.coralauger.specs.declared.PlainRun.{PlainRun}

-- The number of each end: done, no memory, no such call, a list too short.
abbrev pub end_number : End → ℕ
end_number Done = 0
end_number NoMemory = 1
end_number NoSuchCall = 2
end_number ShortList = 3

-- What the number says of the calls of a list: at 0 all are answered; at 1 there was no memory, and none is; at 2 the next has a letter that stands for nothing; at 3 the next means something, and the lists have no room for it. There is no other number.
pub record EndNumbers (calls : List PlainCall) (answers : List PlainAnswer) (fills : List PlainFill) (r : PlainRun) : Type 0 where
  pub done : r.end ≡ 0 → EndsAt Done calls answers fills r.calls r.fills
  pub no_memory : r.end ≡ 1 → EndsAt NoMemory calls answers fills r.calls r.fills
  pub no_such_call : r.end ≡ 2 → EndsAt NoSuchCall calls answers fills r.calls r.fills
  pub short_list : r.end ≡ 3 → EndsAt ShortList calls answers fills r.calls r.fills
  pub one : (r.end ≡ 0) ⊎ (r.end ≡ 1) ⊎ (r.end ≡ 2) ⊎ (r.end ≡ 3)

-- The calls of a list are answered, and end for the reason that the number says.
pub record RunWritten (calls : List PlainCall) (answers answers' : List PlainAnswer) (fills fills' : List PlainFill) (r : PlainRun) : Type 0 where
  pub end : End
  pub numbered : r.end ≡ end_number end
  pub answered : RunAnswered calls answers answers' fills fills' (record { end = end; calls = r.calls; fills = r.fills })
  pub numbers : EndNumbers calls answers fills r

-- All answers to a day file stand at the front of the list; or there was no memory for them, or no room, and the list is as it was.
pub record DayWritten (text out out' : List ℕ) (r : PlainDay) : Type 0 where
  pub done : r.end ≡ 0 → DayKept text (day_bytes text) × (out' ≡ over (day_bytes text) out) × (r.bytes ≡ length (day_bytes text))
  pub no_memory : r.end ≡ 1 → (out' ≡ out) × (r.bytes ≡ 0)
  pub no_room : r.end ≡ 3 → (out' ≡ out) × (r.bytes ≡ length (day_bytes text)) × (length out < r.bytes)
  pub one : (r.end ≡ 0) ⊎ (r.end ≡ 1) ⊎ (r.end ≡ 3)
