-- What is read of one field, and of the fields of a line
use Rattle.std.specs.Prelude.{◌≡◌, ℕ, List, [], ◌∷◌, map, Some, None, Ok, Err, Result}
use Rattle.std.specs.List.{AllByRecursion as Each}
use Rattle.day_lines.specs.declared.fields.Fields.{Fields}
use Rattle.day_lines.specs.Fields.{bytes_of, InItsCase, in_order}
use Rattle.day_words.specs.declared.fault.Fault.{Fault}
use Rattle.day_words.specs.declared.fault.FaultKind.TheVariants.{Blank, UnknownLetter}
use Rattle.day_words.specs.Spelling.{Use, fault_of, first_fault}

-- The bytes of the eight fields, and where they stand.
abbrev pub texts : Fields → List (List ℕ)
texts f = map (λ p. bytes_of p.field) (in_order f)

abbrev pub stands : Fields → List ℕ
stands f = map (λ p. p.place) (in_order f)

-- Each field is in the case that its bytes have.
abbrev pub InTheirCases : Fields → Type 0
InTheirCases f = Each (λ p. InItsCase p.field) (in_order f)

-- A field that is right for what is asked has this value; one that is not has its fault, where it stands.
abbrev pub Says : {X : Type 0} → Use → List ℕ → ℕ → X → Result X Fault → Type 0
Says asked bs place value (Ok x) = (fault_of asked bs ≡ None) × (x ≡ value)
Says asked bs place value (Err fault) = (fault_of asked bs ≡ Some fault.kind) × (fault.place ≡ place)

-- One byte, or why a field is no letter.
abbrev pub SaysByte : List ℕ → ℕ → Result ℕ Fault → Type 0
SaysByte bs place (Ok b) = bs ≡ b ∷ []
SaysByte [] place (Err fault) = fault ≡ record { kind = Blank; place = place }
SaysByte (b ∷ []) place (Err fault) = ⊥
SaysByte (b ∷ c ∷ bs) place (Err fault) = fault ≡ record { kind = UnknownLetter; place = place }

-- Fields that are right for what is asked of them have this value; else the fault is that of the first wrong one.
abbrev pub SaysOf : {X : Type 0} → List Use → List (List ℕ) → List ℕ → X → Result X Fault → Type 0
SaysOf asked fields at value (Ok x) = (first_fault asked fields at ≡ None) × (x ≡ value)
SaysOf asked fields at value (Err fault) = first_fault asked fields at ≡ Some fault
