-- What remains for a reader
use Rattle.std.specs.Prelude.{ℕ, List, drop}
use Rattle.day_lines.specs.declared.reader.Reader.{Reader}

-- The bytes from the reader's place on.
abbrev pub rest_of : Reader → List ℕ
rest_of r = drop r.at r.text.now
