use Rattle.std.proofs.Common.{◌≡◌, ◌≤◌, ◌^◌, take}
use Rattle.admission.specs.Bends.{last_bend}
use Rattle.admission.proofs.bends.last_bend_of.Given as goal

abbrev pub invariant-loop-curve : goal.invariant-loop-curve
invariant-loop-curve l = record {
  so_far : l.last ≡ last_bend (take l.curve-index l.curves);
  bounded : l.last ≤ 10 ^ 15;
}
