use Rattle.std.proofs.Common.{◌≡◌, ◌≤◌, ◌∙◌, ℕ, [], ap, length, refl, subst, sym}
use Rattle.std.specs.Prelude.{Some}
use Rattle.std.specs.Prelude.{◌↔◌}
use Rattle.altq_model.specs.History.{unlabelled}
use Rattle.altq_model.specs.Link.{link}
use Rattle.discipline.specs.declared.pick.Pick.{Pick}
use Rattle.discipline.specs.declared.pick.Pick.TheVariants.{Empty}
use Rattle.discipline.specs.Laws.{IsDue, NamesHead, Waits}
use Rattle.class_rows.specs.Rows.{limit_in, list_in}
use Rattle.cbq_rounds.specs.Due.{due_in}
use Rattle.cbq_rounds.specs.Stands.{Represents, Ruling, cbq_of}
use Rattle.cbq_rounds.proofs.DueLemmas.{due_empty, due_names, due_waits}
use Rattle.cbq_sharing.proofs.HeldLemmas.{are_awake, held_fewer}
use Rattle.cbq_rounds.proofs.PolicyLemmas.{due_policy}
use Rattle.cbq_rounds.proofs.cbq.CbqDiscipline.next.Given as given
use Rattle.cbq_rounds.proofs.cbq.CbqDiscipline.next.Goals as goal
use Rattle.cbq_rounds.proofs.cbq.CbqDiscipline.next.Goals.{After-pick_of}

-- what was picked is what is due
picked : (g : given.Over) (c : After-pick_of g) → c.pick_of.result ≡ due_in c.args.self.now.shares (list_in c.args.self.now.rows) c.args.clock.now c.args.now
picked g c = c.pick_of.ensures ∙ ap (λ (d : Ruling g.row.Q.Denot). due_in d.shares (list_in d.rows) c.args.clock.now c.args.now) c.self.view_is

pub look-found-requires-clause-awake : goal.look-found-requires-clause-awake
look-found-requires-clause-awake g c =
    let rate : c.args.clock.now.rate ≡ c.self.inside.shares.rate = c.requires.rate ∙ ap (λ (v : Ruling g.row.Q.Denot). v.shares.rate) (sym c.self.view_is) in
    are_awake c.self.inside.shares (list_in c.self.inside.rows) c.args.clock.now c.args.now c.self.inside.waiting c.awake-awake.result c.wake.new.held c.self.invariant.waiting
    (held_fewer c.self.inside.shares (list_in c.self.inside.rows) c.self.inside.held c.wake.new.held c.self.invariant.held c.wake.ensures.fewer c.wake.ensures.moments)
    rate c.wake.ensures.late c.awake-awake.ensures

pub hold_refused-requires-clause-held : goal.hold_refused-requires-clause-held
hold_refused-requires-clause-held g c =
    held_fewer c.self.inside.shares (list_in c.self.inside.rows) c.self.inside.held c.wake.new.held c.self.invariant.held c.wake.ensures.fewer c.wake.ensures.moments

pub returns-clause-due : goal.returns-clause-due
returns-clause-due g c = picked g (goal.at.returns-clause-due g c).After-pick_of

pub returns-clause-empty : goal.returns-clause-empty
returns-clause-empty g c =
    let d : Ruling g.row.Q.Denot = c.args.self.now in
    let O : Ruling g.row.Q.Denot → Type 0 = λ v. (k : ℕ) → length v.shares.tree ≤ k → list_in v.rows k ≡ [] in
    let P : Pick → Type 0 = λ p. (p ≡ Empty) ↔ ((k : ℕ) → list_in d.rows k ≡ []) in
    subst P (sym (picked g (goal.at.returns-clause-empty g c).After-pick_of)) (due_empty d.shares (list_in d.rows) c.args.clock.now c.args.now c.requires.free c.requires.rate (subst O c.self.view_is c.self.invariant.others))

pub returns-clause-head : goal.returns-clause-head
returns-clause-head g c =
    let d : Ruling g.row.Q.Denot = c.args.self.now in
    let P : Pick → Type 0 = λ p. NamesHead (list_in d.rows) p in
    subst P (sym (picked g (goal.at.returns-clause-head g c).After-pick_of)) (due_names d.shares (list_in d.rows) c.args.clock.now c.args.now c.requires.free c.requires.rate)

pub returns-clause-waits : goal.returns-clause-waits
returns-clause-waits g c =
    let d : Ruling g.row.Q.Denot = c.args.self.now in
    let P : Pick → Type 0 = λ p. Waits (λ t. due_in d.shares (list_in d.rows) c.args.clock.now t) c.args.now p in
    subst P (sym (picked g (goal.at.returns-clause-waits g c).After-pick_of)) (due_waits d.shares (list_in d.rows) c.args.clock.now c.args.now c.requires.free c.requires.rate)

pub returns-clause-policy : goal.returns-clause-policy
returns-clause-policy g c = λ h s o.
    let d : Ruling g.row.Q.Denot = c.args.self.now in
    let P : Pick → Type 0 = λ p. IsDue (cbq_of g.Q.QueueRule.says d) (unlabelled h) c.args.now p in
    subst P (sym (picked g (goal.at.returns-clause-policy g c).After-pick_of))
    (due_policy g.Q.QueueRule.stands g.Q.QueueRule.says (record { ruling = d; history = h; stood = s }) c.args.clock.now
    (record { same_rate = c.requires.rate; same_link = sym o.link ∙ ap (λ (r : ℕ). link r (unlabelled h)) c.requires.rate }) c.args.now c.requires.free)

pub invariant_of-self : goal.invariant_of-self
invariant_of-self g c = record {
  first = c.self.invariant.first;
  count = c.self.invariant.count;
  credit_each = c.self.invariant.credit_each;
  classes = c.self.invariant.classes;
  sized = c.self.invariant.sized;
  others = c.self.invariant.others;
  few = c.self.invariant.few;
  waiting = c.self.invariant.waiting;
  held = c.hold_refused.ensures;
  rings = c.self.invariant.rings;
}

pub returns-clause-unchanged : goal.returns-clause-unchanged
returns-clause-unchanged g c = record {
  kind = record {
    policy = ap (λ (v : Ruling g.row.Q.Denot). cbq_of g.Q.QueueRule.says v) c.self.view_is;
    limits = ap (λ (v : Ruling g.row.Q.Denot). limit_in g.Q.QueueRule.most v.rows) c.self.view_is;
    link_rate = ap (λ (v : Ruling g.row.Q.Denot). Some v.shares.rate) c.self.view_is;
    fixed = refl;
  };
  lists = λ k. ap (λ (v : Ruling g.row.Q.Denot). list_in v.rows k) c.self.view_is;
  represents = λ h s. subst (λ (v : Ruling g.row.Q.Denot). Represents g.Q.QueueRule.stands g.Q.QueueRule.says v h) (sym c.self.view_is) s;
  due = λ clock t. ap (λ (v : Ruling g.row.Q.Denot). due_in v.shares (list_in v.rows) clock t) c.self.view_is;
  moment = refl;
  ended = ap (λ (v : Ruling g.row.Q.Denot). v.shares.ended) c.self.view_is;
}
