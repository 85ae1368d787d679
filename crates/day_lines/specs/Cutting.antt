-- One field of a line after another
use Rattle.std.specs.Prelude.{◌≡◌, ℕ, ◌+◌, cond, List, [], ◌∷◌, drop, length, nat_le}
use Rattle.day_lines.specs.declared.cut.Cut.{Cut}
use Rattle.day_lines.specs.declared.fields.Placed.{Placed}
use Rattle.day_lines.specs.Lines.{cells}
use Rattle.day_lines.specs.Fields.{bytes_of, InItsCase}

-- The fields of a line from a place on: none once the place has passed the line's end.
abbrev pub cells_from : ℕ → List ℕ → List (List ℕ)
cells_from at line = cond (nat_le at (length line)) (cells (drop at line)) []

abbrev pub cells_left : Cut → List (List ℕ)
cells_left c = cells_from c.at c.line.now

-- One field is cut off, and the place is after the comma that ends it.
pub record CutsField (old new : Cut) (p : Placed) : Type 0 where
  pub cells : cells_left old ≡ bytes_of p.field ∷ cells_left new
  pub place : p.place ≡ old.at + 1
  pub next : new.at ≡ old.at + length (bytes_of p.field) + 1
  pub in_case : InItsCase p.field
