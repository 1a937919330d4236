use Rattle.std.proofs.Common.{◌≡◌}
use Rattle.std.specs.Prelude.{take}
use Rattle.interface_policy.specs.Classes.{cbq_classes}
use Rattle.interface_policy.proofs.classes.cbq_classes.Given as goal

abbrev pub invariant-loop-class : goal.invariant-loop-class
invariant-loop-class l = l.all.items ≡ cbq_classes (take l.class-index l.classes)
