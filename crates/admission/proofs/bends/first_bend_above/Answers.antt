use Rattle.std.proofs.Common.{subst, sym, IfSome, ◌≤◌, ◌^◌, take, ◌+◌, ℕ}
use Rattle.std.specs.Prelude.{Option}
use Rattle.service_curve.specs.Moment.{IsFirst}
use Rattle.admission.specs.Bends.{IsBendAmong}
use Rattle.admission.proofs.Breakpoints.{among_taken, earlier_within}
use Rattle.admission.proofs.bends.first_bend_above.Goals as goal

pub loop-curve-preserved : goal.loop-curve-preserved
loop-curve-preserved c = record {
  first = subst (λ (o : Option ℕ). IsFirst (IsBendAmong c.args.rate c.args.curves.now (take (c.loop-curve.curve-index + 1) c.args.curves.now)) o)
      (sym c.earlier_of-first.ensures)
      (among_taken c.args.rate c.args.curves.now c.loop-curve.curve-index (record { m1 = 0; d = 0; m2 = 0 }) c.loop-curve.first c.bend_above.result
      c.loop-curve-test.true c.loop-curve.invariant.first c.bend_above.ensures.first);
  bounded = subst (λ (o : Option ℕ). IfSome o (λ t. t ≤ 10 ^ 15)) (sym c.earlier_of-first.ensures)
      (earlier_within (10 ^ 15) c.loop-curve.first c.bend_above.result c.loop-curve.invariant.bounded c.bend_above.ensures.bounded);
}
