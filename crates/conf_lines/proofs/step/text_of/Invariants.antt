use Rattle.std.proofs.Common.{◌≡◌, take, string_bytes}
use Rattle.conf_lines.proofs.step.text_of.Given as goal

abbrev pub invariant-loop-byte : goal.invariant-loop-byte
invariant-loop-byte l = string_bytes l.string ≡ take l.byte-index l.name
