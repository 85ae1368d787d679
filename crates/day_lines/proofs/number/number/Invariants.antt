use Rattle.std.proofs.Common.{◌≡◌, ◌<◌, ◌^◌, drop}
use Rattle.day_lines.specs.Lines.{all_digits, digits_value}
use Rattle.day_lines.proofs.number.number.Given as goal

abbrev pub invariant-loop-byte : goal.invariant-loop-byte
invariant-loop-byte l = record {
  all : all_digits (drop l.byte-index l.bytes) ≡ all_digits l.bytes;
  value : digits_value l.number (drop l.byte-index l.bytes) ≡ digits_value 0 l.bytes;
  small : l.number < 10 ^ l.byte-index;
}
