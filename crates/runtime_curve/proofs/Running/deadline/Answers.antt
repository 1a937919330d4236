use Rattle.std.proofs.Common.{sym, ◌∙◌}
use Rattle.runtime_curve.proofs.Answered.{deadline_stands, deadline_now_first}
use Rattle.runtime_curve.proofs.Running.deadline.Goals as goal

pub returns-clause-is : goal.returns-clause-is
returns-clause-is c = λ s os stands. c.deadline_kept.ensures ∙ deadline_stands c.args.self.now s os c.args.count stands c.requires.opened

pub returns-clause-first : goal.returns-clause-first
returns-clause-first c = λ s os stands.
    let truth = deadline_now_first c.args.self.now s os c.args.count stands c.requires.opened in
    rw (sym c.deadline_kept.ensures) at truth
