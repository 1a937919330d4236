use Rattle.std.proofs.Common.{◌≡◌}
use Rattle.std.specs.Prelude.{take}
use Rattle.hfsc_model.specs.Tree.{reals}
use Rattle.hfsc_core.proofs.chooser.reals_of.Given as goal

abbrev pub invariant-loop-class : goal.invariant-loop-class
invariant-loop-class l = l.curves.items ≡ reals (take l.class-index l.classes)
