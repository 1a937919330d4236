use Rattle.std.proofs.Common.{◌∙◌, List, ◌∷◌, ap, refl, subst}
use Rattle.altq_model.specs.History.{LabelledEvent, unlabelled}
use Rattle.discipline.specs.Laws.{sent_of}
use Rattle.discipline.specs.Moments.{IsChoice}
use Rattle.plain_disciplines.specs.Paced.{Pacing, Represents, due_of}
use Rattle.plain_disciplines.proofs.PacedLemmas.{sent_stands}
use Rattle.plain_disciplines.proofs.paced.PacedDiscipline.sent.Goals as goal

pub returns-clause-history : goal.returns-clause-history
returns-clause-history g c =
    let P : Pacing g.row.Q.Denot → Type 0 = λ d. (h : List LabelledEvent) → Represents g.Q.QueueRule.stands g.Q.QueueRule.says d h
    → IsChoice c.args.sending.start c.args._clock.now (unlabelled h)
    → Represents g.Q.QueueRule.stands g.Q.QueueRule.says (record { gap = c.self.inside.gap; rows = c.take.new.self }) (sent_of c.args.sending ∷ h) in
    subst P c.self.view_is (λ h s o. sent_stands g.Q.QueueRule.stands g.Q.QueueRule.says g.Q.QueueRule.most
    (record { gap = c.self.inside.gap; rows = c.self.inside.rows }) c.take.new.self h c.args._clock.now c.args.sending c.take.ensures.same s
    (c.take.ensures.recorded h s.recorded _ _ refl refl) (ap (λ (d : Pacing _). due_of d c.args.sending.start) c.self.view_is ∙ c.requires.due) o)
