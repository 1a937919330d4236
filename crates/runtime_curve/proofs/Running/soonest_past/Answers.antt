use Rattle.std.proofs.Common.{Some, ap, refl, ◌∙◌, ℕ}
use Rattle.std.specs.declared.option.Option.{Option}
use Rattle.runtime_curve.specs.declared.held.Kept.TheVariants.{Nothing, One, Three}
use Rattle.runtime_curve.specs.Opening.{eligible_curve}
use Rattle.runtime_curve.specs.Deadline.{later_of}
use Rattle.runtime_curve.proofs.Kept.{at_last, kept_soonest}
use Rattle.runtime_curve.proofs.TwoLines.{one_line}
use Rattle.runtime_curve.proofs.Running.soonest_past.Goals as goal

pub returns-in-Nothing : goal.returns-in-Nothing
returns-in-Nothing c = kept_soonest c.args.self.now c.args.count Nothing (Some 0) c.in-Nothing.is refl

pub returns-in-One : goal.returns-in-One
returns-in-One c =
    let only = c.in-One.only in
    kept_soonest c.args.self.now c.args.count (One only) c.later_of.result c.in-One.is
    (c.later_of.ensures ∙ ap (λ (o : Option ℕ). later_of o (Some only.at)) (c.early_at.ensures ∙ one_line (eligible_curve c.args.self.now.curve) only only c.args.count refl))

pub returns-in-Three : goal.returns-in-Three
returns-in-Three c =
    let held = c.in-Three.held in
    kept_soonest c.args.self.now c.args.count (Three held) (Some held.last.at) c.in-Three.is
    (at_last held.last.at _ (c.both_counted.ensures c.if-both_counted.true (eligible_curve c.args.self.now.curve)))

pub returns-in-Three-2 : goal.returns-in-Three-2
returns-in-Three-2 c =
    let held = c.in-Three-2.held in
    kept_soonest c.args.self.now c.args.count (Three held) c.later_of-in-Three-2.result c.in-Three-2.is
    (c.later_of-in-Three-2.ensures ∙ ap (λ (o : Option ℕ). later_of o (Some held.last.at)) c.early_of.ensures)
