use Rattle.std.proofs.Common.{◌≡◌, take}
use Rattle.conf_tree.specs.Conditioners.{meters}
use Rattle.conf_tree.proofs.interface.Interface.rules.Given as goal

abbrev pub invariant-loop-class : goal.invariant-loop-class
invariant-loop-class l = l.rules.items ≡ meters (take l.class-index l.self.classes)
