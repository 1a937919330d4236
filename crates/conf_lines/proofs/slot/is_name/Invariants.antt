use Rattle.std.proofs.Common.{◌≡◌, drop}
use Rattle.line_text.specs.Names.{are_name_bytes}
use Rattle.conf_lines.proofs.slot.is_name.Given as goal

abbrev pub invariant-loop-byte : goal.invariant-loop-byte
invariant-loop-byte l = are_name_bytes (drop l.byte-index l.word) ≡ are_name_bytes l.word
