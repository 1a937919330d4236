use Rattle.std.proofs.Common.{◌≤◌, ◌^◌, take, IfSome}
use Rattle.service_curve.specs.Moment.{IsFirst}
use Rattle.admission.specs.Bends.{IsBendAmong}
use Rattle.admission.proofs.bends.first_bend_above.Given as goal

abbrev pub invariant-loop-curve : goal.invariant-loop-curve
invariant-loop-curve l = record {
  first : IsFirst (IsBendAmong l.rate l.curves (take l.curve-index l.curves)) l.first;
  bounded : IfSome l.first (λ t. t ≤ 10 ^ 15);
}
