-- A start from now on, or the next moment at which the packet ends late enough.
use Rattle.std.proofs.Common.{◌≡◌, ap, ◌∙◌, rules, subst, FitsSigned, w64, false}
use Rattle.std.specs.Prelude.{ℤ, pos, int_lt}
use Rattle.cbq_estimator.specs.Average.{average}
use Rattle.cbq_estimator.specs.Estimate.{Estimate}
use Rattle.cbq_estimator.proofs.Starting.{not_above, now_for, later_for}
use Rattle.cbq_estimator.proofs.Estimator.start.Goals as goal

pub returns-then-end_of-wanted-clause-history : goal.returns-then-end_of-wanted-clause-history
returns-then-end_of-wanted-clause-history c = λ h s.
    now_for c.args.self.now.pace h c.args.clock.now.rate c.args.clock.now.link c.args.now c.args.len c.wanted-wanted.result
    c.end_of.result (c.wanted-wanted.ensures.history h s) c.end_of.ensures.end c.if-end_of-wanted.true

pub returns-clause-history : goal.returns-clause-history
returns-clause-history c = λ h s.
    let P : ℤ → Type 0 = λ z. int_lt (pos 0) z ≡ false in
    let fits : FitsSigned w64 c.self.inside.average = search rules in
    let seen : c.self.inside.average ≡ average c.args.self.now.pace h = ap (λ (e : Estimate). e.average) c.self.view_is ∙ s.average in
    let low = subst P seen (not_above c.self.inside.average fits c.if-self-gt0.false) in
    later_for c.args.self.now.pace h c.args.clock.now.rate c.args.clock.now.link c.args.now c.args.len c.wanted-wanted.result
    c.end_of.result c.end_of-2.result c.saturating_sub.result c.requires.free low (c.wanted-wanted.ensures.history h s)
    c.end_of.ensures.end c.end_of-2.ensures.end c.if-end_of-wanted.false c.saturating_sub.ensures
