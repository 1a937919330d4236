use Rattle.std.proofs.Common.{◌≡◌, ◌≤◌, ◌*◌, ◌^◌, take}
use Rattle.admission.specs.Bends.{slopes}
use Rattle.admission.proofs.sums.slopes_of.Given as goal

abbrev pub invariant-loop-curve : goal.invariant-loop-curve
invariant-loop-curve l = record {
  so_far : l.sum ≡ slopes (take l.curve-index l.curves);
  fits : l.sum ≤ 10 ^ 12 * l.curve-index;
}
