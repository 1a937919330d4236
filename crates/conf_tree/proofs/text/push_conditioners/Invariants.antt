use Rattle.std.proofs.Common.{◌≡◌, ◌++◌, drop, string_bytes}
use Rattle.conf_tree.specs.Canonical.{conditioner_lines}
use Rattle.conf_tree.specs.Printed.{printed}
use Rattle.conf_tree.proofs.text.push_conditioners.Given as goal

abbrev pub invariant-loop-class : goal.invariant-loop-class
invariant-loop-class l =
    string_bytes l.out ++ printed (conditioner_lines l.interface (drop l.class-index l.classes))
    ≡ string_bytes l.initial.out ++ printed (conditioner_lines l.interface l.classes)
