use Rattle.std.proofs.Common.{◌≡◌}
use Rattle.std.specs.Prelude.{take}
use Rattle.interface_policy.specs.Classes.{hfsc_classes}
use Rattle.shares_command.proofs.classes.hfsc_classes.Given as goal

abbrev pub invariant-loop-class : goal.invariant-loop-class
invariant-loop-class l = l.all.items ≡ hfsc_classes (take l.class-index l.classes)
