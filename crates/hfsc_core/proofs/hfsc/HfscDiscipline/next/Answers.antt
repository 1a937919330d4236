use Rattle.std.proofs.Common.{◌≡◌, ◌≤◌, ◌∙◌, ap, sym, subst, ℕ, []}
use Rattle.std.specs.Prelude.{◌↔◌}
use Rattle.altq_model.specs.History.{unlabelled}
use Rattle.discipline.specs.declared.pick.Pick.{Pick}
use Rattle.discipline.specs.declared.pick.Pick.TheVariants.{Empty}
use Rattle.discipline.specs.Laws.{IsDue, NamesHead, Waits}
use Rattle.class_rows.specs.Rows.{answering, list_in}
use Rattle.hfsc_policy.specs.Events.{hfsc_history}
use Rattle.hfsc_core.specs.declared.chooser.Chosen.{Chosen}
use Rattle.hfsc_core.specs.Chooser.{chosen_now, classes_of, woken_at}
use Rattle.hfsc_core.specs.Hfsc.{HfscView, MayAsk, due_of, pick_of, policy_of}
use Rattle.hfsc_core.proofs.Due.{names_head, shown_head, waits_least, empty_is}
use Rattle.hfsc_core.proofs.Bounds.{may_ask}
use Rattle.hfsc_core.proofs.Policy.{due_is}
use Rattle.hfsc_core.proofs.Choosing.{chosen_is}
use Rattle.hfsc_core.proofs.hfsc.HfscDiscipline.next.Goals as goal

pub pick_of-requires : goal.pick_of-requires
pick_of-requires g c =
    let d = c.self.inside in
    let k = c.self.invariant.known in
    let later = subst (λ (v : HfscView g.row.Q.Denot). woken_at v.chooser ≤ c.args.now) (sym c.self.view_is) c.requires.later in
    subst (λ (p : Chosen). MayAsk d.rows p) (sym c.chosen-chosen.ensures)
    (may_ask d.rows d.chooser k.0 c.args.now (chosen_now d.chooser c.args.now) c.self.invariant.first c.self.invariant.count k.1.stands later c.requires.early
    (chosen_is d.chooser k.0 k.1.stands c.args.now later))

pub returns-clause-empty : goal.returns-clause-empty
returns-clause-empty g c =
    let d = c.self.inside in
    let k = c.self.invariant.known in
    let later = subst (λ (v : HfscView g.row.Q.Denot). woken_at v.chooser ≤ c.args.now) (sym c.self.view_is) c.requires.later in
    let due = c.pick_of.ensures ∙ ap (pick_of (list_in d.rows)) c.chosen-chosen.ensures in
    subst (λ (v : HfscView g.row.Q.Denot). (c.pick_of.result ≡ Empty) ↔ ((class : ℕ) → list_in v.rows class ≡ [])) c.self.view_is
    (subst (λ (p : Pick). (p ≡ Empty) ↔ ((class : ℕ) → list_in d.rows class ≡ [])) (sym due) (empty_is d.chooser (list_in d.rows) d.kept k.0 k.1 c.args.now later))

pub returns-clause-head : goal.returns-clause-head
returns-clause-head g c =
    let d = c.self.inside in
    let k = c.self.invariant.known in
    let later = subst (λ (v : HfscView g.row.Q.Denot). woken_at v.chooser ≤ c.args.now) (sym c.self.view_is) c.requires.later in
    let due = c.pick_of.ensures ∙ ap (pick_of (list_in d.rows)) c.chosen-chosen.ensures in
    subst (λ (v : HfscView g.row.Q.Denot). NamesHead (list_in v.rows) c.pick_of.result) c.self.view_is
    (subst (λ (p : Pick). NamesHead (list_in d.rows) p) (sym due) (names_head d.chooser (list_in d.rows) d.kept k.0 k.1 c.args.now later))

pub returns-clause-waits : goal.returns-clause-waits
returns-clause-waits g c =
    let d = c.self.inside in
    let k = c.self.invariant.known in
    let later = subst (λ (v : HfscView g.row.Q.Denot). woken_at v.chooser ≤ c.args.now) (sym c.self.view_is) c.requires.later in
    let due = c.pick_of.ensures ∙ ap (pick_of (list_in d.rows)) c.chosen-chosen.ensures in
    subst (λ (v : HfscView g.row.Q.Denot). Waits (λ t. due_of v t) c.args.now c.pick_of.result) c.self.view_is
    (subst (λ (p : Pick). Waits (λ t. pick_of (list_in d.rows) (chosen_now d.chooser t)) c.args.now p) (sym due)
    (waits_least d.chooser (list_in d.rows) d.kept k.0 k.1 c.args.now later))

pub returns-clause-policy : goal.returns-clause-policy
returns-clause-policy g c = λ h s o.
    let v = c.args.self.now in
    let due = c.pick_of.ensures ∙ ap (pick_of (list_in c.self.inside.rows)) c.chosen-chosen.ensures ∙ ap (λ (z : HfscView g.row.Q.Denot). due_of z c.args.now) c.self.view_is in
    subst (λ (p : Pick). IsDue (policy_of g.Q.QueueRule.says v) (unlabelled h) c.args.now p) (sym due)
    (due_is (classes_of v.chooser) (answering g.Q.QueueRule.says v.rows) (unlabelled h) s.chooser.tree (list_in v.rows) c.args.now (chosen_now v.chooser c.args.now)
    (λ class w. shown_head class (list_in v.rows class) h (s.recorded.shown class) w)
    (chosen_is v.chooser (hfsc_history (unlabelled h)) s.chooser c.args.now c.requires.later))
