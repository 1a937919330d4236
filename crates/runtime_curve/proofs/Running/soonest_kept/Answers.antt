use Rattle.std.proofs.Common.{Some}
use Rattle.runtime_curve.specs.declared.held.Kept.TheVariants.{One}
use Rattle.runtime_curve.specs.Opening.{eligible_curve}
use Rattle.runtime_curve.proofs.Kept.{at_last, kept_soonest, one_counted}
use Rattle.runtime_curve.proofs.Running.soonest_kept.Goals as goal

pub returns-in-One : goal.returns-in-One
returns-in-One c =
    let only = c.in-One.only in
    kept_soonest c.args.self.now c.args.count (One only) (Some only.at) c.in-One.is
    (at_last only.at _ (one_counted (eligible_curve c.args.self.now.curve) only c.args.count c.if-count-only.true))
