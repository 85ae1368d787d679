-- What a line of a day file says: a call, or a fault and its place
use Rattle.std.specs.Prelude.{ℕ, Bool, true, false, cond, ◌&&◌, ◌||◌, List, [], ◌∷◌, map, length, drop, get_or, Some, None, Ok, Err, Option, Result, unwrap_or, is_some, nat_le, ◌==◌}
use Rattle.std.specs.List.{list_any}
use Rattle.terms.specs.declared.market.Side.{Side}
use Rattle.terms.specs.declared.market.Side.TheVariants.{Buy, Sell}
use Rattle.terms.specs.declared.market.QuoteCall.TheVariants.{Tell, Declare, Lift}
use Rattle.terms.specs.declared.orders.OrderKind.{OrderKind}
use Rattle.terms.specs.declared.orders.OrderKind.TheVariants.{Rpi, Hidden, Displayed}
use Rattle.terms.specs.declared.orders.RetailType.{RetailType}
use Rattle.terms.specs.declared.orders.RetailType.TheVariants.{One, Two, TwoRoutable}
use Rattle.terms.specs.declared.orders.PhaseEvent.{PhaseEvent}
use Rattle.terms.specs.declared.orders.PhaseEvent.TheVariants.{Opening, Halting, Closing}
use Rattle.terms.specs.declared.calls.Call.TheVariants.{Enter, Cancel, Retail, Move, Approve, Withdraw, Quotes}
use Rattle.day_lines.specs.Lines.{cells, places, number_of}
use Rattle.day_words.specs.declared.fault.Fault.{Fault}
use Rattle.day_words.specs.declared.fault.FaultKind.{FaultKind}
use Rattle.day_words.specs.declared.fault.FaultKind.TheVariants.{BadLine, Blank, UnknownLetter, NotDigits}
use Rattle.day_words.specs.declared.line.Line.{Line}
use Rattle.day_words.specs.declared.line.Line.TheVariants.{Call as Calls, Route, Identify}

-- THE LETTERS

-- What a line is, by its call letter.
pub data Form : Type 0 where
  Entry : Form
  Cancellation : Form
  RetailEntry : Form
  Telling : Form
  PhaseChange : Form
  Approval : Form
  Withdrawal : Form
  Exception : Form
  Lifting : Form
  Routing : Form
  Identifier : Form

-- The tables of the letters: the byte of each, and what it stands for. These are E, C, R, T, P, A, W, X, L, S and I.
abbrev pub call_letters : List (ℕ × Form)
call_letters =
    (69, Entry) ∷ (67, Cancellation) ∷ (82, RetailEntry) ∷ (84, Telling) ∷ (80, PhaseChange) ∷ (65, Approval) ∷ (87, Withdrawal) ∷ (88, Exception) ∷ (76, Lifting) ∷ (83, Routing) ∷ (73, Identifier) ∷ []

-- B and S
abbrev pub side_letters : List (ℕ × Side)
side_letters = (66, Buy) ∷ (83, Sell) ∷ []

-- R, H and D
abbrev pub kind_letters : List (ℕ × OrderKind)
kind_letters = (82, Rpi) ∷ (72, Hidden) ∷ (68, Displayed) ∷ []

-- 1, 2 and 3
abbrev pub retail_letters : List (ℕ × RetailType)
retail_letters = (49, One) ∷ (50, Two) ∷ (51, TwoRoutable) ∷ []

-- O, H and C
abbrev pub phase_letters : List (ℕ × PhaseEvent)
phase_letters = (79, Opening) ∷ (72, Halting) ∷ (67, Closing) ∷ []

-- What a byte stands for, if it is a letter of the table.
abbrev pub named : {X : Type 0} → List (ℕ × X) → ℕ → Option X
named [] b = None
named (entry ∷ entries) b = cond (b == entry.0) (Some entry.1) (named entries b)

-- What a field stands for, if it is one letter of the table and no more.
abbrev pub letter_of : {X : Type 0} → List (ℕ × X) → List ℕ → Option X
letter_of table [] = None
letter_of table (b ∷ []) = named table b
letter_of table (b ∷ c ∷ bs) = None

-- WHAT A CALL ASKS OF A FIELD

-- What is asked of a field.
pub data Use : Type 0 where
  -- it stays blank
  Unused : Use
  -- it is one of these letters
  Letter : List ℕ → Use
  -- it is a number
  Number : Use
  -- it is a number or blank
  MayBeBlank : Use

-- Any letter of a table.
abbrev pub letter_in : {X : Type 0} → List (ℕ × X) → Use
letter_in table = Letter (map (λ entry. entry.0) table)

-- What each call asks of the fields who, side, kind, price, offset, shares and ref.
abbrev pub uses : Form → List Use
uses Entry = Number ∷ letter_in side_letters ∷ letter_in kind_letters ∷ Number ∷ MayBeBlank ∷ Number ∷ Unused ∷ []
uses Cancellation = Number ∷ Unused ∷ Unused ∷ Unused ∷ Unused ∷ Unused ∷ Number ∷ []
uses RetailEntry = Number ∷ letter_in side_letters ∷ letter_in retail_letters ∷ Number ∷ Unused ∷ Number ∷ Unused ∷ []
uses Telling = Number ∷ letter_in side_letters ∷ Unused ∷ MayBeBlank ∷ Unused ∷ Number ∷ Unused ∷ []
uses PhaseChange = Unused ∷ Unused ∷ letter_in phase_letters ∷ Unused ∷ Unused ∷ Unused ∷ Unused ∷ []
uses Approval = Number ∷ Unused ∷ Unused ∷ Unused ∷ Unused ∷ Unused ∷ Unused ∷ []
uses Withdrawal = Number ∷ Unused ∷ Unused ∷ Unused ∷ Unused ∷ Unused ∷ Unused ∷ []
uses Exception = Number ∷ Unused ∷ Unused ∷ Unused ∷ Unused ∷ Unused ∷ Unused ∷ []
uses Lifting = Number ∷ Unused ∷ Unused ∷ Unused ∷ Unused ∷ Unused ∷ Unused ∷ []
uses Routing = Unused ∷ Unused ∷ Unused ∷ Unused ∷ Unused ∷ Number ∷ Number ∷ []
uses Identifier = Unused ∷ Unused ∷ Unused ∷ Unused ∷ Unused ∷ Unused ∷ Unused ∷ []

-- FAULTS

-- The tests that a field is right.
abbrev pub is_blank : List ℕ → Bool
is_blank [] = true
is_blank (b ∷ bs) = false

abbrev pub among : List ℕ → ℕ → Bool
among letters b = list_any (λ letter. b == letter) letters

abbrev pub is_letter : List ℕ → List ℕ → Bool
is_letter letters [] = false
is_letter letters (b ∷ []) = among letters b
is_letter letters (b ∷ c ∷ bs) = false

abbrev pub is_number : List ℕ → Bool
is_number bs = is_some (number_of bs)

-- A field that must not be blank is at fault for that, where it is; else for this.
abbrev pub blank_or : FaultKind → List ℕ → FaultKind
blank_or kind [] = Blank
blank_or kind (b ∷ bs) = kind

abbrev pub unless : Bool → FaultKind → Option FaultKind
unless right kind = cond right None (Some kind)

-- The fault of a field, by what is asked of it; none, if it is right.
abbrev pub fault_of : Use → List ℕ → Option FaultKind
fault_of Unused bs = unless (is_blank bs) Blank
fault_of (Letter letters) bs = unless (is_letter letters bs) (blank_or UnknownLetter bs)
fault_of Number bs = unless (is_number bs) (blank_or NotDigits bs)
fault_of MayBeBlank bs = unless (is_blank bs || is_number bs) NotDigits

-- The fault of this field, else that of a later one.
abbrev pub or_later : ℕ → Option FaultKind → Option Fault → Option Fault
or_later place (Some kind) later = Some (record { kind = kind; place = place })
or_later place None later = later

-- The first fault from the left.
abbrev pub first_fault : List Use → List (List ℕ) → List ℕ → Option Fault
first_fault [] fields at = None
first_fault (asked ∷ more) [] at = None
first_fault (asked ∷ more) (bs ∷ fields) [] = None
first_fault (asked ∷ more) (bs ∷ fields) (place ∷ at) = or_later place (fault_of asked bs) (first_fault more fields at)

-- MEANINGS

-- The field at an index: the call letter's is 0, and the last is 7.
abbrev pub field : ℕ → List (List ℕ) → List ℕ
field index fields = get_or fields index []

-- The number that stands in a field, 0 if none does.
abbrev pub number_in : List ℕ → ℕ
number_in bs = unwrap_or (number_of bs) 0

-- What the letter in a field stands for, or this if it is no letter of the table.
abbrev pub letter_else : {X : Type 0} → X → List (ℕ × X) → List ℕ → X
letter_else x table bs = unwrap_or (letter_of table bs) x

abbrev pub who : List (List ℕ) → ℕ
who fields = number_in (field 1 fields)

abbrev pub side : List (List ℕ) → Side
side fields = letter_else Buy side_letters (field 2 fields)

abbrev pub kind : List (List ℕ) → OrderKind
kind fields = letter_else Rpi kind_letters (field 3 fields)

abbrev pub retail_type : List (List ℕ) → RetailType
retail_type fields = letter_else One retail_letters (field 3 fields)

abbrev pub phase_event : List (List ℕ) → PhaseEvent
phase_event fields = letter_else Opening phase_letters (field 3 fields)

abbrev pub price : List (List ℕ) → ℕ
price fields = number_in (field 4 fields)

abbrev pub offset : List (List ℕ) → Option ℕ
offset fields = number_of (field 5 fields)

abbrev pub shares : List (List ℕ) → ℕ
shares fields = number_in (field 6 fields)

abbrev pub reference : List (List ℕ) → ℕ
reference fields = number_in (field 7 fields)

-- What a line of a form says, if none of its fields is wrong. A Retail Order is lent 256 places for its fills.
abbrev pub meaning : Form → List (List ℕ) → Line
meaning Entry f = Calls (Enter (record { member = who f; side = side f; kind = kind f; limit = price f; offset = offset f; shares = shares f }))
meaning Cancellation f = Calls (Cancel (who f) (reference f))
meaning RetailEntry f = Calls (Retail (record { member = who f; side = side f; kind = retail_type f; limit = price f; shares = shares f }) 256)
meaning Telling f = Calls (Quotes (Tell (record { centre = who f; side = side f; price = price f; size = shares f })))
meaning PhaseChange f = Calls (Move (phase_event f))
meaning Approval f = Calls (Approve (who f))
meaning Withdrawal f = Calls (Withdraw (who f))
meaning Exception f = Calls (Quotes (Declare (who f)))
meaning Lifting f = Calls (Quotes (Lift (who f)))
meaning Routing f = Route (reference f) (shares f)
meaning Identifier f = Identify

-- A LINE

abbrev pub bad_line : Fault
bad_line = record { kind = BadLine; place = 0 }

abbrev pub fault_else : Option Fault → Line → Result Line Fault
fault_else None line = Ok line
fault_else (Some fault) line = Err fault

-- The fields after the call letter, and where they stand, as the letter's form asks.
abbrev pub read_as : Form → (fields : List (List ℕ)) → (at : List ℕ) → Result Line Fault
read_as form fields at = fault_else (first_fault (uses form) (drop 1 fields) (drop 1 at)) (meaning form fields)

-- By the call letter, if it is one; else it is at fault itself.
abbrev pub read_by : Option Form → (fields : List (List ℕ)) → (at : List ℕ) → Result Line Fault
read_by None fields at = Err (record { kind = blank_or UnknownLetter (field 0 fields); place = get_or at 0 0 })
read_by (Some form) fields at = read_as form fields at

abbrev pub read_fields : (fields : List (List ℕ)) → (at : List ℕ) → Result Line Fault
read_fields fields at = read_by (letter_of call_letters (field 0 fields)) fields at

-- A line is at most 120 bytes long and has eight fields.
abbrev pub read_line : List ℕ → Result Line Fault
read_line line = cond (nat_le (length line) 120 && length (cells line) == 8) (read_fields (cells line) (places 1 (cells line))) (Err bad_line)
