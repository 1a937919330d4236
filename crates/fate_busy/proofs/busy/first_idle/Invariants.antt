use Rattle.std.proofs.Common.{length}
use Rattle.fate_judge.specs.Given.{bare_arrivals}
use Rattle.fate_judge.proofs.Walking.{EachBelow, before_at}
use Rattle.fate_busy.specs.Busy.{IsLeft, StartsAtOnce}
use Rattle.fate_busy.proofs.busy.first_idle.Given as goal

abbrev pub invariant-loop-i : goal.invariant-loop-i
invariant-loop-i l = record {
  stands : IsLeft (length l.arrived) l.rows (before_at l.rows l.i) l.left;
  each : EachBelow (StartsAtOnce (bare_arrivals l.arrived) l.rows) l.rows l.i;
}
