-- What stands in the fields of a line
use Rattle.std.specs.Prelude.{◌≡◌, ℕ, ◌≤◌, List, [], ◌∷◌, length, None, IsSome}
use Rattle.day_lines.specs.declared.fields.Field.{Field}
use Rattle.day_lines.specs.declared.fields.Field.TheVariants.{Blank, Letter, Digits, Other}
use Rattle.day_lines.specs.declared.fields.Placed.{Placed}
use Rattle.day_lines.specs.declared.fields.Fields.{Fields}
use Rattle.day_lines.specs.Lines.{number_of}

-- The bytes that a field has.
abbrev pub bytes_of : Field → List ℕ
bytes_of Blank = []
bytes_of (Letter b) = b.now ∷ []
bytes_of (Digits ds) = ds.now
bytes_of (Other bs) = bs.now

-- A field of two bytes or more is in the case of digits exactly if its bytes are a number, so if they are two to nine decimal digits.
abbrev pub InItsCase : Field → Type 0
InItsCase Blank = Unit {0}
InItsCase (Letter b) = Unit {0}
InItsCase (Digits ds) = (2 ≤ length ds.now) × IsSome (number_of ds.now)
InItsCase (Other bs) = (2 ≤ length bs.now) × (number_of bs.now ≡ None)

-- The eight fields, from the left.
abbrev pub in_order : Fields → List Placed
in_order f = f.call ∷ f.who ∷ f.side ∷ f.kind ∷ f.price ∷ f.offset ∷ f.shares ∷ f.order ∷ []
