use Rattle.std.proofs.Common.{◌≡◌, drop}
use Rattle.conf_lines.specs.Slots.{are_plain}
use Rattle.conf_lines.proofs.slot.are_plain.Given as goal

abbrev pub invariant-loop-byte : goal.invariant-loop-byte
invariant-loop-byte l = are_plain (drop l.byte-index l.word) ≡ are_plain l.word
