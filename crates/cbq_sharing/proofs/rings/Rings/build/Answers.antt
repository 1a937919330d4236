use Rattle.cbq_sharing.proofs.RingBuild.{built_next}
use Rattle.cbq_sharing.proofs.rings.Rings.build.Goals as goal

pub loop-priority-preserved : goal.loop-priority-preserved
loop-priority-preserved c =
    built_next c.args.classes.now c.loop-priority.priority c.loop-priority.top c.top_with-top.result c.loop-priority.sets.items
    c.push-in-loop-priority.new.self.items c.loop-priority.tops.items c.push-in-loop-priority-2.new.self.items c.ring_of-ring.result c.loop-priority.invariant
    c.ring_of-ring.ensures (c.top_with-top.ensures c.args.classes.now c.ring_of-ring.ensures c.loop-priority.invariant.top_is) c.in_ok-push-2.ensures.items
    c.in_ok-push-3.ensures.items
