use Rattle.std.proofs.Common.{◌≡◌, take}
use Rattle.fate_timely.specs.Dues.{listed}
use Rattle.fate_timely.proofs.timely.lates.Given as goal

abbrev pub invariant-loop-class : goal.invariant-loop-class
invariant-loop-class l = l.late.items ≡ listed 0 (take l.class l.leaves)
