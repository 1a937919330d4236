use Rattle.std.proofs.Common.{◌<◌, ◌-◌, ◌^◌, List, ◌∷◌, subst}
use Rattle.altq_model.specs.History.{LabelledEvent, unlabelled}
use Rattle.discipline.specs.Laws.{IsAnswer, arrival_with, entry, offer_of}
use Rattle.discipline.specs.Moments.{IsOffer}
use Rattle.plain_disciplines.specs.Paced.{Pacing, Represents, paced_of}
use Rattle.plain_disciplines.proofs.PacedLemmas.{offer_stands}
use Rattle.plain_disciplines.proofs.paced.PacedDiscipline.offer.Goals as goal

pub returns-clause-history : goal.returns-clause-history
returns-clause-history g c =
    let P : Pacing g.row.Q.Denot → Type 0 = λ d. (h : List LabelledEvent) → Represents g.Q.QueueRule.stands g.Q.QueueRule.says d h → IsOffer (arrival_with c.args.class c.args.len c.args.prec c.args.now) (unlabelled h)
    → c.args.words.now.drawn < 2 ^ 64 - 1
    → IsAnswer (paced_of g.Q.QueueRule.says d) (unlabelled h) c.args.words.now (arrival_with c.args.class c.args.len c.args.prec c.args.now) c.offer.result c.offer.new.words
    × Represents g.Q.QueueRule.stands g.Q.QueueRule.says (record { gap = c.self.inside.gap; rows = c.offer.new.self })
    (offer_of (paced_of g.Q.QueueRule.says d) h c.args.ticket c.args.words.now (arrival_with c.args.class c.args.len c.args.prec c.args.now) ∷ h) in
    subst P c.self.view_is (λ h s o few. offer_stands g.Q.QueueRule.stands g.Q.QueueRule.says g.Q.QueueRule.most
    (record { gap = c.self.inside.gap; rows = c.self.inside.rows }) c.offer.new.self h
    (record {
      class = c.args.class;
      entry = entry c.args.ticket c.args.len c.args.prec;
      now = c.args.now;
      words = c.args.words.now;
      after = c.offer.new.words;
      verdict = c.offer.result;
    })
    c.offer.ensures.same s o (c.offer.ensures.recorded h s.recorded few))
