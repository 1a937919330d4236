use Rattle.std.proofs.Common.{◌≤◌, ◌∙◌, ◌∷◌, ap, arith, sym, subst, Bool, List, refl}
use Rattle.altq_model.specs.History.{LabelledEvent, unlabelled}
use Rattle.discipline.specs.Laws.{sent_of}
use Rattle.discipline.specs.Moments.{IsChoice}
use Rattle.class_rows.specs.Rows.{list_in}
use Rattle.hfsc_policy.specs.Events.{hfsc_history}
use Rattle.hfsc_policy.proofs.Lawful.{leaf_one}
use Rattle.hfsc_model.specs.Event.{Sent as HfscSent}
use Rattle.hfsc_core.specs.Chooser.{Represents, chosen_now, classes_of, woken_at}
use Rattle.hfsc_core.specs.Hfsc.{HfscView, HfscStands, due_of}
use Rattle.hfsc_core.proofs.Choosing.{chosen_is}
use Rattle.hfsc_core.proofs.Leaving.{has_front, may_leave, sent_is, sent_of_due, sent_stands}
use Rattle.hfsc_core.proofs.Standing.{hfsc_after, known_of, known_sent, place_high}
use Rattle.hfsc_core.proofs.hfsc.HfscDiscipline.sent.Goals as goal

pub take-requires : goal.take-requires
take-requires g c =
    let d = c.self.inside in
    let k = c.self.invariant.known in
    let s = c.args.sending in
    let later = subst (λ (v : HfscView g.row.Q.Denot). woken_at v.chooser ≤ s.start) (sym c.self.view_is) c.requires.later in
    let due = ap (λ (v : HfscView g.row.Q.Denot). due_of v s.start) c.self.view_is ∙ c.requires.due in
    let x = sent_is (classes_of d.chooser) k.0 (list_in d.rows) s.start s.class s.len s.rule s.ticket (chosen_now d.chooser s.start) (chosen_is d.chooser k.0 k.1.stands s.start later) due in
    record { some = has_front (list_in d.rows s.class) x.front x.here }

pub head_len-head-requires-clause-high : goal.head_len-head-requires-clause-high
head_len-head-requires-clause-high g c =
    let d = c.self.inside in
    let k = c.self.invariant.known in
    let s = c.args.sending in
    let later = subst (λ (v : HfscView g.row.Q.Denot). woken_at v.chooser ≤ s.start) (sym c.self.view_is) c.requires.later in
    let due = ap (λ (v : HfscView g.row.Q.Denot). due_of v s.start) c.self.view_is ∙ c.requires.due in
    let x = sent_is (classes_of d.chooser) k.0 (list_in d.rows) s.start s.class s.len s.rule s.ticket (chosen_now d.chooser s.start) (chosen_is d.chooser k.0 k.1.stands s.start later) due in
    let high = place_high d.chooser d.rows d.kept s.class c.self.invariant (leaf_one (classes_of d.chooser) s.class x.sender.is_leaf) in
    let first = c.take.ensures.same.first in
    let count = c.take.ensures.same.count in
    omega (arith, high, first, count)

pub sent-requires : goal.sent-requires
sent-requires g c =
    let d = c.self.inside in
    let k = c.self.invariant.known in
    let s = c.args.sending in
    let later = subst (λ (v : HfscView g.row.Q.Denot). woken_at v.chooser ≤ s.start) (sym c.self.view_is) c.requires.later in
    let due = ap (λ (v : HfscView g.row.Q.Denot). due_of v s.start) c.self.view_is ∙ c.requires.due in
    let x = sent_is (classes_of d.chooser) k.0 (list_in d.rows) s.start s.class s.len s.rule s.ticket (chosen_now d.chooser s.start) (chosen_is d.chooser k.0 k.1.stands s.start later) due in
    (k.0, may_leave d.chooser (list_in d.rows) (list_in c.take.new.self) d.kept s.start s.class s.len s.rule c.head_len-head.result k.0 k.1 x (c.take.ensures.lists s.class) c.head_len-head.ensures)

pub invariant_of-self : goal.invariant_of-self
invariant_of-self g c =
    let d = c.self.inside in
    let k = c.self.invariant.known in
    let s = c.args.sending in
    let later = subst (λ (v : HfscView g.row.Q.Denot). woken_at v.chooser ≤ s.start) (sym c.self.view_is) c.requires.later in
    let due = ap (λ (v : HfscView g.row.Q.Denot). due_of v s.start) c.self.view_is ∙ c.requires.due in
    let x = sent_is (classes_of d.chooser) k.0 (list_in d.rows) s.start s.class s.len s.rule s.ticket (chosen_now d.chooser s.start) (chosen_is d.chooser k.0 k.1.stands s.start later) due in
    let may = may_leave d.chooser (list_in d.rows) (list_in c.take.new.self) d.kept s.start s.class s.len s.rule c.head_len-head.result k.0 k.1 x (c.take.ensures.lists s.class) c.head_len-head.ensures in
    hfsc_after g.Q.QueueRule.most g.Q.QueueRule.says d.chooser c.sent.new.self d.rows c.take.new.self d.kept d.kept c.self.invariant c.take.ensures.same c.sent.ensures.classes
    (_, known_sent d.chooser c.sent.new.self (list_in d.rows) (list_in c.take.new.self) d.kept s.class s.len s.start _ k.0 k.1 c.take.ensures.lists (c.sent.ensures.stands k.0 s.start may))

pub returns-clause-history : goal.returns-clause-history
returns-clause-history g c =
    let i = c.self.inside in
    let s = c.args.sending in
    let later = subst (λ (v : HfscView g.row.Q.Denot). woken_at v.chooser ≤ s.start) (sym c.self.view_is) c.requires.later in
    let due = ap (λ (v : HfscView g.row.Q.Denot). due_of v s.start) c.self.view_is ∙ c.requires.due in
    let d : HfscView g.row.Q.Denot = record { chooser = i.chooser; rows = i.rows; kept = i.kept } in
    let P : HfscView g.row.Q.Denot → Type 0 = λ v. (h : List LabelledEvent) → HfscStands g.Q.QueueRule.stands g.Q.QueueRule.says v h → IsChoice s.start c.args._clock.now (unlabelled h)
    → HfscStands g.Q.QueueRule.stands g.Q.QueueRule.says (record { chooser = c.sent.new.self; rows = c.take.new.self; kept = i.kept }) (sent_of s ∷ h) in
    subst P c.self.view_is (λ h k o.
    let x = sent_of_due g.Q.QueueRule.stands g.Q.QueueRule.says g.Q.QueueRule.most d h s k later due in
    let known = known_of g.Q.QueueRule.stands g.Q.QueueRule.says g.Q.QueueRule.most d h k in
    let may = may_leave i.chooser (list_in i.rows) (list_in c.take.new.self) i.kept s.start s.class s.len s.rule c.head_len-head.result (hfsc_history (unlabelled h)) known x
    (c.take.ensures.lists s.class) c.head_len-head.ensures in
    sent_stands g.Q.QueueRule.stands g.Q.QueueRule.says g.Q.QueueRule.most d c.sent.new.self c.take.new.self h c.args._clock.now s c.take.ensures.same k
    (c.take.ensures.recorded h k.recorded _ _ refl refl) o x c.sent.ensures.classes c.sent.ensures.woken
    (subst (λ (b : Bool). Represents c.sent.new.self (HfscSent s.class s.len b s.start ∷ hfsc_history (unlabelled h))) c.is_real-real.ensures (c.sent.ensures.stands (hfsc_history (unlabelled h)) s.start may)))
