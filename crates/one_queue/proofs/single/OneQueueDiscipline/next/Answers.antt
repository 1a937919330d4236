use Rattle.std.proofs.Common.{◌≡◌, ◌∙◌, ℕ, [], ap, sym, subst}
use Rattle.std.specs.Prelude.{◌↔◌}
use Rattle.altq_model.specs.History.{unlabelled}
use Rattle.discipline.specs.declared.pick.Pick.{Pick}
use Rattle.discipline.specs.declared.pick.Pick.TheVariants.{Empty}
use Rattle.discipline.specs.Laws.{IsDue, NamesHead, Waits}
use Rattle.class_rows.specs.Rows.{list_in}
use Rattle.one_queue.specs.Single.{Single, due_of, policy_of}
use Rattle.one_queue.proofs.SingleLemmas.{due_of_policy, empty_is, names_head, waits_never}
use Rattle.one_queue.proofs.single.OneQueueDiscipline.next.Goals as goal

pub returns-clause-due : goal.returns-clause-due
returns-clause-due g c = c.head_of.ensures ∙ ap due_of c.self.view_is

pub returns-clause-empty : goal.returns-clause-empty
returns-clause-empty g c =
    let d = c.self.inside in
    let empty = subst (λ (p : Pick). (p ≡ Empty) ↔ ((class : ℕ) → list_in d.rows class ≡ [])) (sym c.head_of.ensures) (empty_is (list_in d.rows) d.class c.self.invariant.others) in
    subst (λ (v : Single g.row.Q.Denot). (c.head_of.result ≡ Empty) ↔ ((class : ℕ) → list_in v.rows class ≡ [])) c.self.view_is empty

pub returns-clause-head : goal.returns-clause-head
returns-clause-head g c =
    let d = c.args.self.now in
    subst (λ (p : Pick). NamesHead (list_in d.rows) p) (sym (c.head_of.ensures ∙ ap due_of c.self.view_is)) (names_head (list_in d.rows) d.class)

pub returns-clause-waits : goal.returns-clause-waits
returns-clause-waits g c =
    let d = c.args.self.now in
    subst (λ (p : Pick). Waits (λ t. due_of d) c.args._now p) (sym (c.head_of.ensures ∙ ap due_of c.self.view_is)) (waits_never d.class (list_in d.rows d.class) _ c.args._now)

pub returns-clause-policy : goal.returns-clause-policy
returns-clause-policy g c = λ h s o.
    let d = c.args.self.now in
    subst (λ (p : Pick). IsDue (policy_of g.Q.QueueRule.says d) (unlabelled h) c.args._now p) (sym (c.head_of.ensures ∙ ap due_of c.self.view_is))
    (due_of_policy g.Q.QueueRule.stands g.Q.QueueRule.says d h c.args._now s)
