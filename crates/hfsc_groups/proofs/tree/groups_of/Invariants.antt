use Rattle.std.proofs.Common.{◌≡◌, ◌<◌, length, ℕ}
use Rattle.std.specs.Prelude.{slice_index_or}
use Rattle.hfsc_groups.specs.declared.group.Group.{Group}
use Rattle.hfsc_groups.specs.Group.{IsEmpty}
use Rattle.hfsc_groups.proofs.tree.groups_of.Given as goal

abbrev pub invariant-loop-class : goal.invariant-loop-class
invariant-loop-class l = record {
  count : length l.groups.items ≡ l.class;
  each : (p : ℕ) (d : Group) → p < length l.groups.items → IsEmpty l.classes p (slice_index_or l.groups.items p d);
}
