use Rattle.std.proofs.Common.{◌<◌}
use Rattle.play_text.proofs.names.hash_of.Given as goal

-- it stays among the sums
abbrev pub invariant-loop-byte : goal.invariant-loop-byte
invariant-loop-byte l = l.hash < 1024
