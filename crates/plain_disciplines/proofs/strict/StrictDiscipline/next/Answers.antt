use Rattle.std.proofs.Common.{◌≡◌, ◌∙◌, ℕ, [], ap, sym, subst}
use Rattle.std.specs.Prelude.{◌↔◌}
use Rattle.altq_model.specs.History.{unlabelled}
use Rattle.discipline.specs.declared.pick.Pick.{Pick}
use Rattle.discipline.specs.declared.pick.Pick.TheVariants.{Empty}
use Rattle.discipline.specs.Laws.{IsDue, NamesHead, Waits}
use Rattle.class_rows.specs.Rows.{classes_in, list_in}
use Rattle.plain_disciplines.specs.Strict.{Ordered, strict_due, strict_of}
use Rattle.plain_disciplines.proofs.StrictLemmas.{due_of_policy, names_head, waits_never}
use Rattle.plain_disciplines.proofs.strict.StrictDiscipline.next.Goals as goal

pub returns-clause-empty : goal.returns-clause-empty
returns-clause-empty g c =
    let P : Ordered g.row.Q.Denot → Type 0 = λ d. (c.pick_from.result ≡ Empty) ↔ ((class : ℕ) → list_in d.rows class ≡ []) in
    subst P c.self.view_is c.pick_from.ensures.empty

pub returns-clause-head : goal.returns-clause-head
returns-clause-head g c =
    let d = c.args.self.now in
    let due : c.pick_from.result ≡ strict_due d = c.pick_from.ensures.due ∙ ap strict_due c.self.view_is in
    let P : Pick → Type 0 = λ p. NamesHead (list_in d.rows) p in
    subst P (sym due) (names_head d.rule (list_in d.rows) (classes_in d.rows))

pub returns-clause-waits : goal.returns-clause-waits
returns-clause-waits g c =
    let d = c.args.self.now in
    let due : c.pick_from.result ≡ strict_due d = c.pick_from.ensures.due ∙ ap strict_due c.self.view_is in
    let P : Pick → Type 0 = λ p. Waits (λ t. strict_due d) c.args._now p in
    subst P (sym due) (waits_never d.rule (list_in d.rows) (classes_in d.rows) _ c.args._now)

pub returns-clause-policy : goal.returns-clause-policy
returns-clause-policy g c = λ h s _.
    let d = c.args.self.now in
    let due : c.pick_from.result ≡ strict_due d = c.pick_from.ensures.due ∙ ap strict_due c.self.view_is in
    let P : Pick → Type 0 = λ p. IsDue (strict_of g.Q.QueueRule.says d) (unlabelled h) c.args._now p in
    subst P (sym due) (due_of_policy g.Q.QueueRule.stands g.Q.QueueRule.says d h c.args._now s)

pub returns-clause-due : goal.returns-clause-due
returns-clause-due g c = c.pick_from.ensures.due ∙ ap strict_due c.self.view_is
