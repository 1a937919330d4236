use Rattle.std.proofs.Common.{◌≡◌, ◌<◌, ◌-◌, ◌^◌, ◌∙◌, List, ◌∷◌, ap, arith, length, subst, sym}
use Rattle.altq_model.specs.History.{LabelledEvent, unlabelled}
use Rattle.leaf_queue.specs.declared.node.Entry.{Entry}
use Rattle.class_rows.specs.Rows.{list_in}
use Rattle.discipline.specs.Laws.{IsAnswer, arrival_with, entry, offer_of}
use Rattle.discipline.specs.Moments.{IsOffer}
use Rattle.cbq_model.proofs.Places.{is_below}
use Rattle.cbq_sharing.specs.Waiting.{AreSized}
use Rattle.cbq_rounds.specs.Stands.{Ruling, Represents, cbq_of}
use Rattle.cbq_sharing.proofs.HeldLemmas.{offer_held}
use Rattle.cbq_rounds.proofs.StandsLemmas.{offer_others, offer_sized, offer_stands, same_in}
use Rattle.cbq_sharing.proofs.WaitLemmas.{offer_waiting}
use Rattle.cbq_rounds.proofs.cbq.CbqDiscipline.offer.Goals as goal

pub invariant_of-self : goal.invariant_of-self
invariant_of-self g c =
    let most = g.Q.QueueRule.most in
    let d = c.self.inside.shares in
    let x = entry c.args.ticket c.args.len c.args.prec in
    let same_tree : length c.args.self.now.shares.tree ≡ length d.tree = ap (λ (v : Ruling g.row.Q.Denot). length v.shares.tree) (sym c.self.view_is) in
    let low : c.args.class < length d.tree = omega (arith, is_below c.args.class c.args.self.now.shares.tree c.requires.class, same_tree) in
    let S : List Entry → Type 0 = λ xs. AreSized xs in
    record {
      first = c.offer-verdict.ensures.same.first ∙ c.self.invariant.first;
      count = c.offer-verdict.ensures.same.count ∙ c.self.invariant.count;
      credit_each = c.self.invariant.credit_each;
      classes = same_in most g.Q.QueueRule.says c.self.inside.rows c.offer-verdict.new.self c.offer-verdict.ensures.same ∙ c.self.invariant.classes;
      sized = λ k. subst S (sym (c.offer-verdict.ensures.lists k))
          (offer_sized c.offer-verdict.result c.args.class k x (list_in c.self.inside.rows) c.requires.least c.requires.most (c.self.invariant.sized k));
      others = λ k l. c.offer-verdict.ensures.lists k
          ∙ offer_others c.offer-verdict.result c.args.class k x (list_in c.self.inside.rows) (omega (arith, low, l)) (c.self.invariant.others k l);
      few = c.self.invariant.few;
      waiting = offer_waiting c.offer-verdict.result c.args.class x c.is_kept.result c.self.inside.waiting c.put.new.self (list_in c.self.inside.rows) (list_in c.offer-verdict.new.self)
          c.self.invariant.waiting c.offer-verdict.ensures.lists c.is_kept.ensures c.put.ensures.here c.put.ensures.others;
      held = offer_held c.self.inside.shares c.offer-verdict.result c.args.class x (list_in c.self.inside.rows) (list_in c.offer-verdict.new.self) c.self.inside.held
          c.self.invariant.held c.offer-verdict.ensures.lists;
      rings = c.self.invariant.rings;
    }

pub put-requires : goal.put-requires
put-requires g c =
    let same_tree : length c.args.self.now.shares.tree ≡ length c.self.inside.shares.tree = ap (λ (v : Ruling g.row.Q.Denot). length v.shares.tree) (sym c.self.view_is) in
    omega (arith, is_below c.args.class c.args.self.now.shares.tree c.requires.class, same_tree, c.self.invariant.few)

pub returns-clause-history : goal.returns-clause-history
returns-clause-history g c =
    let P : Ruling g.row.Q.Denot → Type 0 = λ d. (h : List LabelledEvent) → Represents g.Q.QueueRule.stands g.Q.QueueRule.says d h → IsOffer (arrival_with c.args.class c.args.len c.args.prec c.args.now) (unlabelled h)
    → c.args.words.now.drawn < 2 ^ 64 - 1
    → IsAnswer (cbq_of g.Q.QueueRule.says d) (unlabelled h) c.args.words.now (arrival_with c.args.class c.args.len c.args.prec c.args.now) c.offer-verdict.result c.offer-verdict.new.words
    × Represents g.Q.QueueRule.stands g.Q.QueueRule.says (record { shares = c.self.inside.shares; rows = c.offer-verdict.new.self })
    (offer_of (cbq_of g.Q.QueueRule.says d) h c.args.ticket c.args.words.now (arrival_with c.args.class c.args.len c.args.prec c.args.now) ∷ h) in
    subst P c.self.view_is (λ h s o few. offer_stands g.Q.QueueRule.stands g.Q.QueueRule.says g.Q.QueueRule.most
    (record { shares = c.self.inside.shares; rows = c.self.inside.rows }) c.offer-verdict.new.self h
    (record {
      ticket = c.args.ticket;
      class = c.args.class;
      len = c.args.len;
      prec = c.args.prec;
      now = c.args.now;
      words = c.args.words.now;
      after = c.offer-verdict.new.words;
      verdict = c.offer-verdict.result;
    })
    c.offer-verdict.ensures.same s o (c.offer-verdict.ensures.recorded h s.recorded few))
