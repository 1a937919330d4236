use Rattle.std.proofs.Common.{◌≡◌, ◌<◌, ◌^◌, true, take}
use Rattle.std.specs.Str.Parse.{digits_value}
use Rattle.line_text.specs.Numbers.{are_digits}
use Rattle.line_text.proofs.number.number.Given as goal

abbrev pub invariant-loop-byte : goal.invariant-loop-byte
invariant-loop-byte l = record {
  digits : are_digits l.radix (take l.byte-index l.text) ≡ true;
  value : l.value ≡ digits_value l.radix (take l.byte-index l.text);
  small : l.value < 2 ^ 64;
}
