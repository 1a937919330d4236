use Rattle.std.proofs.Common.{◌≡◌, ◌<◌, ℕ}
use Rattle.std.specs.Prelude.{false}
use Rattle.hfsc_model.specs.Tree.{is_child}
use Rattle.hfsc_groups.proofs.tree.is_parent.Given as goal

abbrev pub invariant-loop-child : goal.invariant-loop-child
invariant-loop-child l = (d : ℕ) → d < l.child-index → is_child l.classes l.class d ≡ false
