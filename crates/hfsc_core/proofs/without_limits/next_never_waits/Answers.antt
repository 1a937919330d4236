use Rattle.std.proofs.Common.{subst}
use Rattle.altq_model.specs.History.{unlabelled}
use Rattle.altq_model.specs.Play.{Policy}
use Rattle.discipline.specs.Laws.{IsDue}
use Rattle.hfsc_policy.specs.Policy.{hfsc_policy}
use Rattle.hfsc_policy.proofs.Lawful.{never_waits}
use Rattle.hfsc_core.proofs.AtOnce.{no_wait}
use Rattle.hfsc_core.proofs.without_limits.next_never_waits.Goals as goal

pub returns-clause-never_waits : goal.returns-clause-never_waits
returns-clause-never_waits g c = λ cs answer h same none stood choice.
    no_wait (hfsc_policy cs answer) (unlabelled h) c.args.now c.next.result (never_waits cs answer none)
    (subst (λ (p : Policy). IsDue p (unlabelled h) c.args.now c.next.result) same (c.next.ensures.policy h stood choice))

pub returns-clause-histories_kept : goal.returns-clause-histories_kept
returns-clause-histories_kept g c = λ h stood. c.next.ensures.unchanged.represents h stood
