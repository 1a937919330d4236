use Rattle.std.proofs.Common.{◌≡◌, ◌++◌, drop, string_bytes}
use Rattle.conf_tree.specs.Canonical.{class_lines}
use Rattle.conf_tree.specs.Printed.{printed}
use Rattle.conf_tree.proofs.text.push_classes.Given as goal

abbrev pub invariant-loop-class : goal.invariant-loop-class
invariant-loop-class l =
    string_bytes l.out ++ printed (class_lines l.kind l.interface l.all (drop l.class-index l.written))
    ≡ string_bytes l.initial.out ++ printed (class_lines l.kind l.interface l.all l.written)
