use Rattle.std.proofs.Common.{sym, ◌∙◌}
use Rattle.runtime_curve.proofs.Answered.{eligible_stands, eligible_now_true}
use Rattle.runtime_curve.proofs.Running.eligible.Goals as goal

pub returns-clause-is : goal.returns-clause-is
returns-clause-is c = λ s os stands. c.eligible_kept.ensures ∙ eligible_stands c.args.self.now s os c.args.now c.args.count stands c.requires.opened

pub returns-clause-reached : goal.returns-clause-reached
returns-clause-reached c = λ s os stands.
    let truth = eligible_now_true c.args.self.now s os c.args.now c.args.count stands c.requires.opened in
    rw (sym c.eligible_kept.ensures) at truth
