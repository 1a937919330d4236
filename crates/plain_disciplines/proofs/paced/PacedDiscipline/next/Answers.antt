use Rattle.std.proofs.Common.{◌∙◌, ap, arith, sym, refl}
use Rattle.std.specs.Prelude.{Some, slice_get}
use Rattle.altq_model.specs.History.{unlabelled}
use Rattle.class_rows.specs.Rows.{answering, list_in}
use Rattle.plain_disciplines.specs.Paced.{Pacing}
use Rattle.plain_disciplines.proofs.PacedLemmas.{choice_is, due_sent, due_till, empty_of, first_none, first_some, front_of, no_head, not_all_empty, now_is, packets_here, till_is, waits_at}
use Rattle.plain_disciplines.proofs.paced.PacedDiscipline.next.Goals as goal

pub returns-in_default-clause-empty : goal.returns-in_default-clause-empty
returns-in_default-clause-empty g c =
    let none = no_head _ (front_of _ c.args.self.now c.first-class.result c.head.result c.self.view_is c.first-class.ensures.first c.head.ensures ∙ c.in_default.is) in
    (λ _. empty_of _ c.args.self.now c.self.view_is c.self.invariant.one c.first-class.ensures.others none, λ _. refl)

pub returns-in_default-clause-policy : goal.returns-in_default-clause-policy
returns-in_default-clause-policy g c = λ h s _.
    let d = c.args.self.now in
    let none = no_head _ (front_of _ d c.first-class.result c.head.result c.self.view_is c.first-class.ensures.first c.head.ensures ∙ c.in_default.is) in
    first_none d.rows.first d.gap (answering g.Q.QueueRule.says d.rows) _ (unlabelled h) c.args.now (packets_here g.Q.QueueRule.stands g.Q.QueueRule.says d h s) none

pub returns-then-till-now-clause-due : goal.returns-then-till-now-clause-due
returns-then-till-now-clause-due g c =
    let front = front_of _ c.args.self.now c.first-class.result c.head.result c.self.view_is c.first-class.ensures.first c.head.ensures ∙ c.in-Some.is in
    let till = till_is _ _ c.args.now _ c.self.invariant.gap_there (ap (λ (v : Pacing _). v.gap) c.self.view_is) c.div_ceil.ensures in
    due_till _ _ _ _ _ _ front till c.if-till-now.true

pub returns-then-till-now-clause-empty : goal.returns-then-till-now-clause-empty
returns-then-till-now-clause-empty g c =
    let front = front_of _ c.args.self.now c.first-class.result c.head.result c.self.view_is c.first-class.ensures.first c.head.ensures ∙ c.in-Some.is in
    (λ e. absurd (cc), λ f. absurd (not_all_empty c.args.self.now.rows c.in-Some.head front f))

pub returns-then-till-now-clause-waits : goal.returns-then-till-now-clause-waits
returns-then-till-now-clause-waits g c =
    let front = front_of _ c.args.self.now c.first-class.result c.head.result c.self.view_is c.first-class.ensures.first c.head.ensures ∙ c.in-Some.is in
    let gap = ap (λ (v : Pacing _). v.gap) c.self.view_is in
    let till = till_is _ _ c.args.now _ c.self.invariant.gap_there gap c.div_ceil.ensures in
    waits_at _ _ _ _ _ _ (omega (arith, gap, c.self.invariant.gap_there)) front till c.if-till-now.true

pub returns-then-till-now-clause-policy : goal.returns-then-till-now-clause-policy
returns-then-till-now-clause-policy g c = λ h s _.
    let d = c.args.self.now in
    let front = front_of _ d c.first-class.result c.head.result c.self.view_is c.first-class.ensures.first c.head.ensures ∙ c.in-Some.is in
    let till = till_is _ _ c.args.now _ c.self.invariant.gap_there (ap (λ (v : Pacing _). v.gap) c.self.view_is) c.div_ceil.ensures in (
      first_some d.rows.first d.gap (answering g.Q.QueueRule.says d.rows) _ _ (unlabelled h) c.args.now (packets_here g.Q.QueueRule.stands g.Q.QueueRule.says d h s) front ∙ ap Some (sym till),
      c.if-till-now.true,
    )

pub returns-clause-due : goal.returns-clause-due
returns-clause-due g c =
    let front = front_of _ c.args.self.now c.first-class.result c.head.result c.self.view_is c.first-class.ensures.first c.head.ensures ∙ c.in-Some.is in
    let gap = ap (λ (v : Pacing _). v.gap) c.self.view_is in
    let till = till_is _ _ c.args.now _ c.self.invariant.gap_there gap c.div_ceil.ensures in
    let now = now_is _ c.args.now _ (omega (arith, gap, c.self.invariant.gap_there)) till c.if-till-now.false in
    due_sent _ _ _ _ _ _ front now (c.first-class.ensures.first ∙ ap (λ (v : Pacing _). v.rows.first) c.self.view_is)

pub returns-clause-empty : goal.returns-clause-empty
returns-clause-empty g c =
    let front = front_of _ c.args.self.now c.first-class.result c.head.result c.self.view_is c.first-class.ensures.first c.head.ensures ∙ c.in-Some.is in
    (λ e. absurd (cc), λ f. absurd (not_all_empty c.args.self.now.rows c.in-Some.head front f))

pub returns-clause-head : goal.returns-clause-head
returns-clause-head g c =
    (c.in-Some.head.prec, ap (λ (v : Pacing _). slice_get (list_in v.rows c.first-class.result) 0) (sym c.self.view_is) ∙ sym c.head.ensures ∙ c.in-Some.is)

pub returns-clause-policy : goal.returns-clause-policy
returns-clause-policy g c = λ h s _.
    let d = c.args.self.now in
    let front = front_of _ d c.first-class.result c.head.result c.self.view_is c.first-class.ensures.first c.head.ensures ∙ c.in-Some.is in
    let gap = ap (λ (v : Pacing _). v.gap) c.self.view_is in
    let till = till_is _ _ c.args.now _ c.self.invariant.gap_there gap c.div_ceil.ensures in
    let now = now_is _ c.args.now _ (omega (arith, gap, c.self.invariant.gap_there)) till c.if-till-now.false in (
      first_some d.rows.first d.gap (answering g.Q.QueueRule.says d.rows) _ _ (unlabelled h) c.args.now (packets_here g.Q.QueueRule.stands g.Q.QueueRule.says d h s) front ∙ ap Some now,
      choice_is _ _ _ (c.first-class.ensures.first ∙ ap (λ (v : Pacing _). v.rows.first) c.self.view_is),
    )
