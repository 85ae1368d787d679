-- The numbers of the faults
use Rattle.std.specs.Prelude.{ℕ}
use Rattle.day_words.specs.declared.fault.FaultKind.{FaultKind}
use Rattle.day_words.specs.declared.fault.FaultKind.TheVariants.{WrongNames, BadLine, Blank, UnknownLetter, NotDigits, TooLong}

abbrev pub fault_number : FaultKind → ℕ
fault_number WrongNames = 20
fault_number BadLine = 21
fault_number Blank = 22
fault_number UnknownLetter = 23
fault_number NotDigits = 24
fault_number TooLong = 25
