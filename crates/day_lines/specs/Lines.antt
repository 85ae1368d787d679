-- A day file is bytes. What its lines are, what the fields of a line are and where they stand, and what number a field has
use Rattle.std.specs.Prelude.{ℕ, ◌+◌, ◌-◌, ◌*◌, Bool, true, cond, ◌&&◌, List, [], ◌∷◌, length, Some, None, Option, nat_le, ◌==◌}

-- One byte more at the front of the first part. Where no part is yet, the byte begins one.
abbrev pub put : ℕ → List (List ℕ) → List (List ℕ)
put b [] = (b ∷ []) ∷ []
put b (part ∷ parts) = (b ∷ part) ∷ parts

-- LINES

-- The lines of a text. Byte 10 ends a line and belongs to none. What stands after the last byte 10 is a line if it is not empty.
abbrev pub lines : List ℕ → List (List ℕ)
lines [] = []
lines (b ∷ bs) = cond (b == 10) ([] ∷ lines bs) (put b (lines bs))

-- FIELDS

-- The fields of a line: byte 44, the comma, separates them and belongs to none. An empty line has one field, which is blank.
abbrev pub cells : List ℕ → List (List ℕ)
cells [] = [] ∷ []
cells (b ∷ bs) = cond (b == 44) ([] ∷ cells bs) (put b (cells bs))

-- Where the first byte of each field stands, or would stand if the field is blank. The first field's stands at the given place, and each later one's after the comma that ends the field before it.
abbrev pub places : ℕ → List (List ℕ) → List ℕ
places at [] = []
places at (c ∷ cs) = at ∷ places (at + length c + 1) cs

-- NUMBERS

-- Bytes 48 to 57 are the decimal digits.
abbrev pub is_digit : ℕ → Bool
is_digit b = nat_le 48 b && nat_le b 57

abbrev pub all_digits : List ℕ → Bool
all_digits [] = true
all_digits (b ∷ bs) = is_digit b && all_digits bs

-- The value of the digits that stand after a number.
abbrev pub digits_value : ℕ → List ℕ → ℕ
digits_value n [] = n
digits_value n (b ∷ bs) = digits_value (10 * n + (b - 48)) bs

-- One to nine decimal digits are a number, by their value. Nothing else is one.
abbrev pub number_of : List ℕ → Option ℕ
number_of bs = cond (nat_le 1 (length bs) && nat_le (length bs) 9 && all_digits bs) (Some (digits_value 0 bs)) None
