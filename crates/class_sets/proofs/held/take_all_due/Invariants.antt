use Rattle.class_sets.specs.Held.{AreWoken}
use Rattle.class_sets.proofs.held.take_all_due.Given as goal

abbrev pub invariant-loop-group : goal.invariant-loop-group
invariant-loop-group l = AreWoken l.fn.set l.set l.moments l.groups l.now l.group l.until
