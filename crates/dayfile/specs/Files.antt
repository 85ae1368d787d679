-- Where the lines of a file are still to be read
use Rattle.std.specs.Prelude.{◌≡◌, ℕ, ◌≤◌, List, length, Ok, Err, Result}
use Rattle.day_lines.specs.declared.reader.Reader.{Reader}
use Rattle.day_lines.specs.Lines.{lines}
use Rattle.day_lines.specs.Reading.{rest_of}
use Rattle.day_words.specs.declared.fault.FaultKind.{FaultKind}
use Rattle.dayfile.specs.Day.{file_lines}

abbrev pub lines_left : Reader → List (List ℕ)
lines_left reader = lines (rest_of reader)

-- The lines after the header line remain, or the file has this fault.
abbrev pub Begun : List ℕ → Result Reader FaultKind → Type 0
Begun text (Ok reader) = (file_lines text ≡ Ok (lines_left reader)) × (length (lines_left reader) ≤ 65_536)
Begun text (Err kind) = file_lines text ≡ Err kind
