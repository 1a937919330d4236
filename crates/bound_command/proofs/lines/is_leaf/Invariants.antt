use Rattle.std.proofs.Common.{◌≡◌, take}
use Rattle.std.specs.Prelude.{false}
use Rattle.std.specs.List.{list_any}
use Rattle.conf_tree.specs.Family.{is_child}
use Rattle.bound_command.proofs.lines.is_leaf.Given as goal

abbrev pub invariant-loop-class : goal.invariant-loop-class
invariant-loop-class l = list_any (λ c. is_child l.number c) (take l.class-index l.classes) ≡ false
