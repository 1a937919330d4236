use Rattle.std.proofs.Common.{◌≡◌, ◌++◌, drop}
use Rattle.link_fit.specs.Curves.{real_curves}
use Rattle.link_fit.proofs.curves_of.Given as goal

abbrev pub invariant-loop-class : goal.invariant-loop-class
invariant-loop-class l = l.curves.items ++ real_curves (drop l.class-index l.classes) ≡ real_curves l.classes
