use Rattle.cbq_sharing.proofs.RingBuild.{IsBuilt}
use Rattle.cbq_sharing.proofs.rings.Rings.build.Given as goal

abbrev pub invariant-loop-priority : goal.invariant-loop-priority
invariant-loop-priority l = IsBuilt l.classes l.priority l.sets.items l.tops.items l.top
