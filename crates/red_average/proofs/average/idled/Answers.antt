use Rattle.std.proofs.Common.{sym, ap, ◌∙◌, arith}
use Rattle.red_average.specs.Average.{idled}
use Rattle.red_average.proofs.Idle.{idled_next, idled_rest}
use Rattle.red_average.proofs.Steps.{idled_most}
use Rattle.red_average.proofs.average.idled.Goals as goal

pub loop-left-preserved : goal.loop-left-preserved
loop-left-preserved c = record {
  same = sym (idled_next c.loop-left.left c.loop-left.aged (omega arith)) ∙ c.loop-left.invariant.same;
  most = omega (arith, c.loop-left.invariant.most);
  few = omega (arith, c.loop-left.invariant.few);
}

pub loop-left-init : goal.loop-left-init
loop-left-init c = record {
  same = ap (λ k. idled k c.args.average) c.min-left.ensures ∙ idled_most c.args.steps c.args.average c.requires;
  most = omega arith;
  few = omega (arith, c.min-left.ensures);
}

pub returns-else-aged-ge-INVERSE_WEIGHT-clause-value : goal.returns-else-aged-ge-INVERSE_WEIGHT-clause-value
returns-else-aged-ge-INVERSE_WEIGHT-clause-value c =
    sym (idled_rest c.loop-left.left c.loop-left.aged c.if-aged-ge-INVERSE_WEIGHT.false) ∙ c.loop-left.invariant.same
