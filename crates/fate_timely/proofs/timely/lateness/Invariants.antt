use Rattle.std.proofs.Common.{◌≡◌, ◌*◌, ◌^◌, ℕ, Some}
use Rattle.fate_judge.proofs.Walking.{EachBelow, before_at}
use Rattle.fate_timely.specs.Dues.{AreDues, UnitsAreUpTo}
use Rattle.fate_timely.specs.Timely.{EndsInTime}
use Rattle.fate_timely.proofs.timely.lateness.Given as goal

abbrev pub invariant-loop-i : goal.invariant-loop-i
invariant-loop-i l = record {
  stands : AreDues l.curves (before_at l.rows l.i) l.dues.leaves.items;
  few : UnitsAreUpTo (l.i * 2 ^ 65) l.dues.leaves.items;
  each : (m : ℕ) → l.most ≡ Some m → EachBelow (EndsInTime l.curves m) l.rows l.i;
}
