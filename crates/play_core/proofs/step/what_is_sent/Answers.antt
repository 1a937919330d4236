use Rattle.std.proofs.Common.{◌∙◌, sym, subst}
use Rattle.altq_model.specs.History.{unlabelled}
use Rattle.play_core.specs.declared.step.Step.{Step}
use Rattle.play_core.specs.Steps.{IsSentAt}
use Rattle.play_core.proofs.StepLemmas.{late_end, sends_then, ticket_then}
use Rattle.play_core.proofs.step.what_is_sent.Goals as goal

pub returns-then-till-ge-CLOCK_END-clause-sent : goal.returns-then-till-ge-CLOCK_END-clause-sent
returns-then-till-ge-CLOCK_END-clause-sent g c = λ h s x packet f.
    late_end c.args.clock.now.rate (unlabelled h) c.args.clock.now.link c.args.till packet.len c.requires.positive x.link c.if-till-ge-CLOCK_END.true

pub returns-clause-sent : goal.returns-clause-sent
returns-clause-sent g c = λ h s x.
    let due = c.in-Send.ensures.policy h s x in
    let P : Step → Type 0 = λ t. IsSentAt (g.D.Discipline.view c.args.discipline.now).policy c.args.clock.now c.args.till (unlabelled h) t in
    subst P (sym c.send_at.ensures)
    (sends_then _ c.args.clock.now h _ c.in-Send.ticket c.in-Send.class c.in-Send.len _ c.in-Send.rule c.args.till
    (g.met.D.Discipline.shows c.args.discipline.now h s c.in-Send.class) c.in-Send.ensures.head.1 due.1)

pub returns-clause-ticket : goal.returns-clause-ticket
returns-clause-ticket g c = λ h s r e.
    ticket_then h _ c.in-Send.ticket c.in-Send.class c.in-Send.len _ c.in-Send.rule c.args.till _ r
    (g.met.D.Discipline.shows c.args.discipline.now h s c.in-Send.class) c.in-Send.ensures.head.1 (sym c.send_at.ensures ∙ e)
