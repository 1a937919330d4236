use Rattle.std.proofs.Common.{None, rules}
use Rattle.hfsc_eligible.proofs.News.{more_new}
use Rattle.hfsc_eligible.proofs.slots_of.Goals as goal

pub loop-curve-preserved : goal.loop-curve-preserved
loop-curve-preserved c = (
  search rules,
  more_new c.args.curves.now c.loop-curve.slots.items c.push.new.self.items c.new.result c.loop-curve.curve-index None
      (search rules) c.loop-curve.invariant (search rules) c.new.ensures.stands c.new.ensures.closed,
)
