use Rattle.std.proofs.Common.{◌≡◌, ◌<◌, length, ℕ}
use Rattle.std.specs.Prelude.{slice_index_or}
use Rattle.hfsc_model.specs.Tree.{class_of}
use Rattle.hfsc_groups.specs.declared.node.Node.{Node}
use Rattle.hfsc_groups.specs.Node.{IsNewNode}
use Rattle.hfsc_groups.proofs.tree.nodes_of.Given as goal

abbrev pub invariant-loop-class : goal.invariant-loop-class
invariant-loop-class l = record {
  count : length l.nodes.items ≡ l.class-index;
  each : (c : ℕ) (d : Node) → c < length l.nodes.items → IsNewNode (class_of l.classes c) (slice_index_or l.nodes.items c d);
}
