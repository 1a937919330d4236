use Rattle.std.proofs.Common.{◌≡◌, ◌<◌, ℕ, Some, length}
use Rattle.std.specs.Prelude.{slice_get}
use Rattle.hfsc_model.specs.Tree.{is_leaf}
use Rattle.hfsc_core.proofs.leaves.leaves_of.Given as goal

abbrev pub invariant-loop-class : goal.invariant-loop-class
invariant-loop-class l = record {
  count : length l.holds.items ≡ l.class;
  each : (d : ℕ) → d < l.class → slice_get l.holds.items d ≡ Some (is_leaf l.classes d);
}
