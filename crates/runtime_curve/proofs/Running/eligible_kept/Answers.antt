use Rattle.std.proofs.Common.{true, refl, ◌∙◌}
use Rattle.runtime_curve.specs.declared.held.Kept.TheVariants.{Nothing, One, Three}
use Rattle.runtime_curve.proofs.Kept.{kept_eligible, one_allows}
use Rattle.runtime_curve.proofs.Running.eligible_kept.Goals as goal

pub returns-in-Nothing : goal.returns-in-Nothing
returns-in-Nothing c =
    kept_eligible c.args.self.now c.args.now c.args.count Nothing c.eligible_curve-curve.result true c.in-Nothing.is c.eligible_curve-curve.ensures.is refl

pub returns-in-One : goal.returns-in-One
returns-in-One c =
    kept_eligible c.args.self.now c.args.now c.args.count (One c.in-One.only) c.eligible_curve-curve.result c.allows.result c.in-One.is
    c.eligible_curve-curve.ensures.is (c.allows.ensures ∙ one_allows c.eligible_curve-curve.result c.in-One.only c.args.now c.args.count)

pub returns-in-Three : goal.returns-in-Three
returns-in-Three c =
    kept_eligible c.args.self.now c.args.now c.args.count (Three c.in-Three.held) c.eligible_curve-curve.result c.both_allow.result c.in-Three.is
    c.eligible_curve-curve.ensures.is c.both_allow.ensures
