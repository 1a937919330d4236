use Rattle.std.proofs.Common.{◌≡◌, ◌≤◌, ◌*◌, ◌^◌, take}
use Rattle.admission.specs.Fit.{total}
use Rattle.admission.proofs.sums.total_of.Given as goal

abbrev pub invariant-loop-curve : goal.invariant-loop-curve
invariant-loop-curve l = record {
  so_far : l.sum ≡ total (take l.curve-index l.curves) l.t;
  fits : l.sum ≤ 10 ^ 27 * l.curve-index;
}
