-- What a day does with its lines
use Rattle.std.specs.Prelude.{◌≡◌, ℕ, ◌+◌, ◌≤◌, List, ◌++◌, length, vec_items}
use Rattle.laws.specs.Book.{State}
use Rattle.laws.specs.Rows.{AnyCall}
use Rattle.laws.specs.Steps.{run}
use Rattle.stacks.specs.Venue.{venue_means}
use Rattle.book.specs.BookState.{state_of}
use Rattle.book.specs.Means.{state}
use Rattle.day_answers.specs.declared.answer.AnswerLine.{AnswerLine}
use Rattle.dayfile.specs.declared.day.Day.{Day}
use Rattle.dayfile.specs.Day.{day_calls_from, day_lines_from}
use Rattle.dayfile.specs.Writing.{lines_bytes}

-- The state of the definitions that a day stands for.
abbrev pub day_state : Day → State
day_state d = state_of (state d.venue.book) (venue_means d.quotes.lot.shares d.quotes.below.own.marks d.quotes.below.below.rows) d.fills

-- These calls are made, and these answers are written after what was written.
pub record Does (before after : Day) (calls : List AnyCall) (answers : List AnswerLine) : Type 0 where
  pub made : day_state after ≡ run 32 (day_state before) calls
  pub told : vec_items after.out ≡ vec_items before.out ++ lines_bytes answers

-- Of all the lines of a file these remain, the first of them with this number: once they are made and answered, all are.
pub record Leaves (first now : Day) (line : ℕ) (all left : List (List ℕ)) : Type 0 where
  pub made : run 32 (day_state now) (day_calls_from (day_state now) left) ≡ run 32 (day_state first) (day_calls_from (day_state first) all)
  pub told : vec_items now.out ++ lines_bytes (day_lines_from (day_state now) line left) ≡ vec_items first.out ++ lines_bytes (day_lines_from (day_state first) 2 all)
  pub few : line + length left ≤ 65_538
