use Rattle.std.proofs.Common.{◌≤◌, ◌<◌, ◌+◌, ◌-◌, ◌^◌, ◌∙◌, ◌∷◌, sym, subst, List}
use Rattle.altq_model.specs.History.{LabelledEvent, unlabelled}
use Rattle.altq_model.specs.Play.{IsOneOf}
use Rattle.discipline.specs.Laws.{IsAnswer, arrival_with, offer_of}
use Rattle.discipline.specs.Moments.{IsOffer}
use Rattle.class_rows.specs.Rows.{list_in}
use Rattle.class_rows.proofs.RowHistory.{Offering}
use Rattle.hfsc_policy.specs.Classes.{leaves}
use Rattle.hfsc_policy.specs.Events.{hfsc_history}
use Rattle.hfsc_core.specs.Chooser.{classes_of, woken_at}
use Rattle.hfsc_core.specs.Hfsc.{HfscView, HfscStands, policy_of}
use Rattle.hfsc_core.proofs.Standing.{hfsc_after, known_kept, known_of, may_keep, offer_dropped, offer_kept, place_high}
use Rattle.hfsc_core.proofs.hfsc.HfscDiscipline.offer.Given.{Over}
use Rattle.hfsc_core.proofs.hfsc.HfscDiscipline.offer.Goals.{After-is_kept}
use Rattle.hfsc_core.proofs.hfsc.HfscDiscipline.offer.Goals as goal

pub head-requires-clause-high : goal.head-requires-clause-high
head-requires-clause-high g c =
    let d = c.self.inside in
    let of = subst (λ (v : HfscView g.row.Q.Denot). IsOneOf c.args.class (leaves (classes_of v.chooser))) (sym c.self.view_is) c.requires.class in
    place_high d.chooser d.rows d.kept c.args.class c.self.invariant of

-- the offer to the row, as it was answered
abbrev offering : (g : Over) → After-is_kept g → Offering
offering g c = record {
  class = c.args.class;
  entry = record { ticket = c.args.ticket; len = c.args.len; prec = c.args.prec };
  now = c.args.now;
  words = c.args.words.now;
  after = c.offer-verdict.new.words;
  verdict = c.offer-verdict.result;
}

pub returns-then-not-is_kept-clause-history : goal.returns-then-not-is_kept-clause-history
returns-then-not-is_kept-clause-history g c =
    let i = c.self.inside in
    let P : HfscView g.row.Q.Denot → Type 0 = λ d. (h : List LabelledEvent) → HfscStands g.Q.QueueRule.stands g.Q.QueueRule.says d h → IsOffer (arrival_with c.args.class c.args.len c.args.prec c.args.now) (unlabelled h)
    → c.args.words.now.drawn < 2 ^ 64 - 1
    → IsAnswer (policy_of g.Q.QueueRule.says d) (unlabelled h) c.args.words.now (arrival_with c.args.class c.args.len c.args.prec c.args.now) c.offer-verdict.result c.offer-verdict.new.words
    × HfscStands g.Q.QueueRule.stands g.Q.QueueRule.says (record { chooser = i.chooser; rows = c.offer-verdict.new.self; kept = i.kept })
    (offer_of (policy_of g.Q.QueueRule.says d) h c.args.ticket c.args.words.now (arrival_with c.args.class c.args.len c.args.prec c.args.now) ∷ h) in
    let x = offering g (goal.at.returns-then-not-is_kept-clause-history g c).After-is_kept in
    subst P c.self.view_is (λ h s o few. offer_dropped g.Q.QueueRule.stands g.Q.QueueRule.says g.Q.QueueRule.most
    (record { chooser = i.chooser; rows = i.rows; kept = i.kept }) c.offer-verdict.new.self h x c.offer-verdict.ensures.same s o (c.offer-verdict.ensures.recorded h s.recorded few)
    (sym c.is_kept.ensures ∙ c.if-not-is_kept.true))

pub kept-requires : goal.kept-requires
kept-requires g c =
    let d = c.self.inside in
    let k = c.self.invariant.known in
    let of = subst (λ (v : HfscView g.row.Q.Denot). IsOneOf c.args.class (leaves (classes_of v.chooser))) (sym c.self.view_is) c.requires.class in
    let later = subst (λ (v : HfscView g.row.Q.Denot). woken_at v.chooser ≤ c.args.now) (sym c.self.view_is) c.requires.later in
    let few = subst (λ (v : HfscView g.row.Q.Denot). v.kept < 4000000) (sym c.self.view_is) c.requires.few in (
      k.0,
      may_keep d.chooser (list_in d.rows) d.kept c.args.class c.args.now c.args.len c.head.result c.is_none-empty.result k.0 k.1 of c.head.ensures c.is_none-empty.ensures
          (record { least = c.requires.least; most = c.requires.most }) few later,
    )

pub invariant_of-self-2 : goal.invariant_of-self-2
invariant_of-self-2 g c =
    let d = c.self.inside in
    let k = c.self.invariant.known in
    let of = subst (λ (v : HfscView g.row.Q.Denot). IsOneOf c.args.class (leaves (classes_of v.chooser))) (sym c.self.view_is) c.requires.class in
    let later = subst (λ (v : HfscView g.row.Q.Denot). woken_at v.chooser ≤ c.args.now) (sym c.self.view_is) c.requires.later in
    let few = subst (λ (v : HfscView g.row.Q.Denot). v.kept < 4000000) (sym c.self.view_is) c.requires.few in
    let may = may_keep d.chooser (list_in d.rows) d.kept c.args.class c.args.now c.args.len c.head.result c.is_none-empty.result k.0 k.1 of c.head.ensures c.is_none-empty.ensures
    (record { least = c.requires.least; most = c.requires.most }) few later in
    hfsc_after g.Q.QueueRule.most g.Q.QueueRule.says d.chooser c.kept.new.self d.rows c.offer-verdict.new.self d.kept (d.kept + 1) c.self.invariant c.offer-verdict.ensures.same
    c.kept.ensures.classes (
      _,
      known_kept d.chooser c.kept.new.self (list_in d.rows) (list_in c.offer-verdict.new.self) d.kept c.args.class c.args.now _ c.offer-verdict.result k.0 k.1
          (sym c.is_kept.ensures ∙ c.if-not-is_kept.false) c.offer-verdict.ensures.lists (c.kept.ensures.stands k.0 may),
    )

pub returns-clause-history : goal.returns-clause-history
returns-clause-history g c =
    let i = c.self.inside in
    let of = subst (λ (v : HfscView g.row.Q.Denot). IsOneOf c.args.class (leaves (classes_of v.chooser))) (sym c.self.view_is) c.requires.class in
    let later = subst (λ (v : HfscView g.row.Q.Denot). woken_at v.chooser ≤ c.args.now) (sym c.self.view_is) c.requires.later in
    let fewer = subst (λ (v : HfscView g.row.Q.Denot). v.kept < 4000000) (sym c.self.view_is) c.requires.few in
    let P : HfscView g.row.Q.Denot → Type 0 = λ d. (h : List LabelledEvent) → HfscStands g.Q.QueueRule.stands g.Q.QueueRule.says d h → IsOffer (arrival_with c.args.class c.args.len c.args.prec c.args.now) (unlabelled h)
    → c.args.words.now.drawn < 2 ^ 64 - 1
    → IsAnswer (policy_of g.Q.QueueRule.says d) (unlabelled h) c.args.words.now (arrival_with c.args.class c.args.len c.args.prec c.args.now) c.offer-verdict.result c.offer-verdict.new.words
    × HfscStands g.Q.QueueRule.stands g.Q.QueueRule.says (record { chooser = c.kept.new.self; rows = c.offer-verdict.new.self; kept = i.kept + 1 })
    (offer_of (policy_of g.Q.QueueRule.says d) h c.args.ticket c.args.words.now (arrival_with c.args.class c.args.len c.args.prec c.args.now) ∷ h) in
    let x = offering g (goal.at.returns-clause-history g c).After-is_kept in
    subst P c.self.view_is (λ h s o few.
    let k = known_of g.Q.QueueRule.stands g.Q.QueueRule.says g.Q.QueueRule.most (record { chooser = i.chooser; rows = i.rows; kept = i.kept }) h s in
    let may = may_keep i.chooser (list_in i.rows) i.kept c.args.class c.args.now c.args.len c.head.result c.is_none-empty.result (hfsc_history (unlabelled h)) k of c.head.ensures
    c.is_none-empty.ensures (record { least = c.requires.least; most = c.requires.most }) fewer later in
    offer_kept g.Q.QueueRule.stands g.Q.QueueRule.says g.Q.QueueRule.most
    (record { chooser = i.chooser; rows = i.rows; kept = i.kept }) c.kept.new.self c.offer-verdict.new.self h x c.offer-verdict.ensures.same s o (c.offer-verdict.ensures.recorded h s.recorded few)
    (sym c.is_kept.ensures ∙ c.if-not-is_kept.false) c.kept.ensures.classes c.kept.ensures.woken (c.kept.ensures.stands (hfsc_history (unlabelled h)) may))
