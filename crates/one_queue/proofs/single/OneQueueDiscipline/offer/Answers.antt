use Rattle.std.proofs.Common.{◌<◌, ◌-◌, ◌^◌, List, ◌∷◌, subst}
use Rattle.altq_model.specs.History.{LabelledEvent, unlabelled}
use Rattle.discipline.specs.Laws.{IsAnswer, arrival_with, entry, offer_of}
use Rattle.discipline.specs.Moments.{IsOffer}
use Rattle.one_queue.specs.Single.{Single, Represents, policy_of}
use Rattle.one_queue.proofs.SingleLemmas.{offer_stands}
use Rattle.one_queue.proofs.single.OneQueueDiscipline.offer.Goals as goal

pub returns-clause-history : goal.returns-clause-history
returns-clause-history g c =
    let a = arrival_with c.args.class c.args.len c.args.prec c.args.now in
    let P : Single g.row.Q.Denot → Type 0 = λ d. (h : List LabelledEvent) → Represents g.Q.QueueRule.stands g.Q.QueueRule.says d h → IsOffer a (unlabelled h)
    → c.args.words.now.drawn < 2 ^ 64 - 1
    → IsAnswer (policy_of g.Q.QueueRule.says d) (unlabelled h) c.args.words.now a c.offer.result c.offer.new.words
    × Represents g.Q.QueueRule.stands g.Q.QueueRule.says (record { class = c.self.inside.class; rows = c.offer.new.self })
    (offer_of (policy_of g.Q.QueueRule.says d) h c.args.ticket c.args.words.now a ∷ h) in
    subst P c.self.view_is (λ h s o few. offer_stands g.Q.QueueRule.stands g.Q.QueueRule.says g.Q.QueueRule.most
    (record { class = c.self.inside.class; rows = c.self.inside.rows }) c.offer.new.self h
    (record {
      class = c.args.class;
      entry = entry c.args.ticket c.args.len c.args.prec;
      now = c.args.now;
      words = c.args.words.now;
      after = c.offer.new.words;
      verdict = c.offer.result;
    })
    c.offer.ensures.same s o (c.offer.ensures.recorded h s.recorded few))
