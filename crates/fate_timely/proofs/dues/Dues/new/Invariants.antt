use Rattle.std.proofs.Common.{◌≡◌, ◌<◌, ℕ, [], vec_len}
use Rattle.fate_timely.specs.Dues.{IsLeafOf, leaf_at}
use Rattle.fate_timely.specs.Timely.{curve_at}
use Rattle.fate_timely.proofs.dues.Dues.new.Given as goal

abbrev pub invariant-loop-curve : goal.invariant-loop-curve
invariant-loop-curve l = record {
  size : vec_len l.leaves ≡ l.curve-index;
  each : (class : ℕ) → class < l.curve-index → IsLeafOf (curve_at l.curves class) class [] (leaf_at l.leaves.items class);
}
