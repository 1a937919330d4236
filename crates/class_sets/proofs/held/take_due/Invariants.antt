use Rattle.std.proofs.Common.{◌-◌}
use Rattle.class_sets.specs.Held.{AreTaken}
use Rattle.class_sets.proofs.held.take_due.Given as goal

abbrev pub invariant-classes : goal.invariant-classes
invariant-classes l = AreTaken l.fn.set l.set l.moments l.now l.group l.from l.until

abbrev pub decreases-classes : goal.decreases-classes
decreases-classes l = 256 - l.from
