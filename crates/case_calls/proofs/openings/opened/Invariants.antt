use Rattle.std.proofs.Common.{◌≡◌, length}
use Rattle.runtime_curve.specs.Running.{last_of}
use Rattle.case_calls.proofs.openings.opened.Given as goal

abbrev pub invariant-loop-left : goal.invariant-loop-left
invariant-loop-left l = last_of l.running ≡ l.last

abbrev pub decreases-loop-left : goal.decreases-loop-left
decreases-loop-left l = length l.left
