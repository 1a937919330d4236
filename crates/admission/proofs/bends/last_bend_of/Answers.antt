use Rattle.std.proofs.Common.{arith}
use Rattle.admission.proofs.Breakpoints.{last_bend-take}
use Rattle.admission.proofs.bends.last_bend_of.Goals as goal

pub loop-curve-preserved : goal.loop-curve-preserved
loop-curve-preserved c =
    let more = last_bend-take c.args.curves.now c.loop-curve.curve-index (record { m1 = 0; d = 0; m2 = 0 }) c.loop-curve-test.true in
    record { so_far = grind (arith, more, c.loop-curve.invariant.so_far, c.max-last.ensures); bounded = grind (arith, c.requires.each c.loop-curve.curve-index, c.loop-curve.invariant.bounded, c.max-last.ensures) }
