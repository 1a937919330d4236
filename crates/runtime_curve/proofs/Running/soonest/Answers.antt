use Rattle.std.proofs.Common.{sym, ◌∙◌}
use Rattle.runtime_curve.proofs.Answered.{soonest_stands, soonest_now_first}
use Rattle.runtime_curve.proofs.Running.soonest.Goals as goal

pub returns-clause-is : goal.returns-clause-is
returns-clause-is c = λ s os stands. c.soonest_kept.ensures ∙ soonest_stands c.args.self.now s os c.args.count stands c.requires.opened

pub returns-clause-first : goal.returns-clause-first
returns-clause-first c = λ s os stands.
    let truth = soonest_now_first c.args.self.now s os c.args.count stands c.requires.opened in
    rw (sym c.soonest_kept.ensures) at truth
