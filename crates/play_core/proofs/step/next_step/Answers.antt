use Rattle.std.proofs.Common.{◌∙◌, sym, subst, arith}
use Rattle.altq_model.specs.History.{unlabelled}
use Rattle.altq_model.specs.Play.{Policy}
use Rattle.play_core.specs.declared.step.Step.{Step}
use Rattle.play_core.specs.Steps.{IsSentAt}
use Rattle.play_core.proofs.StepLemmas.{choice_later, offers_now, sends_then, step_is, ticket_then}
use Rattle.play_core.proofs.step.next_step.Goals as goal

pub returns-then-comes_by-clause-step : goal.returns-then-comes_by-clause-step
returns-then-comes_by-clause-step g c = λ h s x.
    offers_now _ c.args.moment (unlabelled h) c.args.arrival (g.met.D.Discipline.lawful c.args.discipline.now h s) cc

pub returns-in-Send-clause-step : goal.returns-in-Send-clause-step
returns-in-Send-clause-step g c = λ h s x.
    let due = c.in-Send.ensures.policy h s x in
    let P : Step → Type 0 = λ t. IsSentAt (g.D.Discipline.view c.args.discipline.now).policy c.args.clock.now c.args.moment (unlabelled h) t in
    step_is _ c.args.clock.now c.args.moment (unlabelled h) c.args.arrival c.send_at.result (record {
      start = c.args.moment;
      first = due.0;
      later = cc;
      sent = subst P (sym c.send_at.ensures)
          (sends_then _ c.args.clock.now h _ c.in-Send.ticket c.in-Send.class c.in-Send.len _ c.in-Send.rule c.args.moment
          (g.met.D.Discipline.shows c.args.discipline.now h s c.in-Send.class) c.in-Send.ensures.head.1 due.1);
    })

pub returns-else-comes_by-2-clause-step : goal.returns-else-comes_by-2-clause-step
returns-else-comes_by-2-clause-step g c = λ h s x.
    let due = c.in-Wait.ensures.policy h s x in
    let P : Policy → Type 0 = λ p. IsSentAt p c.args.clock.now c.in-Wait.till (unlabelled h) c.what_is_sent.result in
    step_is _ c.args.clock.now c.args.moment (unlabelled h) c.args.arrival c.what_is_sent.result (record {
      start = c.in-Wait.till;
      first = due.0;
      later = cc;
      sent = subst P c.next.ensures.unchanged.kind.policy
          (c.what_is_sent.ensures.sent h (c.next.ensures.unchanged.represents h s) (choice_later c.args.moment c.in-Wait.till c.args.clock.now (unlabelled h) (omega (arith, due.1)) x));
    })

pub returns-in-Send-clause-ticket : goal.returns-in-Send-clause-ticket
returns-in-Send-clause-ticket g c = λ h s r e.
    ticket_then h _ c.in-Send.ticket c.in-Send.class c.in-Send.len _ c.in-Send.rule c.args.moment _ r
    (g.met.D.Discipline.shows c.args.discipline.now h s c.in-Send.class) c.in-Send.ensures.head.1 (sym c.send_at.ensures ∙ e)
