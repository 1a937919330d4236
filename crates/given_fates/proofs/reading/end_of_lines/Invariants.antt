use Rattle.std.proofs.Common.{◌≤◌, length}
use Rattle.given_fates.proofs.reading.end_of_lines.Given as goal

abbrev pub invariant-loop-end : goal.invariant-loop-end
invariant-loop-end l = record { within : l.end ≤ length l.text }

abbrev pub decreases-loop-end : goal.decreases-loop-end
decreases-loop-end l = l.end
