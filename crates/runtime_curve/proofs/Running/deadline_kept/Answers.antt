use Rattle.std.proofs.Common.{Some, refl, ◌∙◌}
use Rattle.runtime_curve.specs.declared.held.Kept.TheVariants.{Nothing, One, Three}
use Rattle.runtime_curve.proofs.Kept.{kept_deadline}
use Rattle.runtime_curve.proofs.TwoLines.{one_line}
use Rattle.runtime_curve.proofs.Running.deadline_kept.Goals as goal

pub returns-in-Nothing : goal.returns-in-Nothing
returns-in-Nothing c = kept_deadline c.args.self.now c.args.count Nothing (Some 0) c.in-Nothing.is refl

pub returns-in-One : goal.returns-in-One
returns-in-One c =
    kept_deadline c.args.self.now c.args.count (One c.in-One.only) c.reached_at.result c.in-One.is
    (c.reached_at.ensures ∙ one_line c.args.self.now.curve c.in-One.only c.in-One.only c.args.count refl)

pub returns-in-Three : goal.returns-in-Three
returns-in-Three c = kept_deadline c.args.self.now c.args.count (Three c.in-Three.held) c.deadline_of.result c.in-Three.is c.deadline_of.ensures
