use Rattle.std.proofs.Common.{◌∙◌, List, ◌∷◌, ap, refl, subst}
use Rattle.altq_model.specs.History.{LabelledEvent, unlabelled}
use Rattle.discipline.specs.Laws.{sent_of}
use Rattle.discipline.specs.Moments.{IsChoice}
use Rattle.class_rows.specs.Rows.{list_in}
use Rattle.one_queue.specs.Single.{Single, Represents, due_of}
use Rattle.one_queue.proofs.SingleLemmas.{sent_stands, some_due}
use Rattle.one_queue.proofs.single.OneQueueDiscipline.sent.Goals as goal

pub take-requires : goal.take-requires
take-requires g c =
    let s = c.args.sending in
    record { some = some_due (list_in c.self.inside.rows) c.self.inside.class s.ticket s.class s.len s.rule (ap due_of c.self.view_is ∙ c.requires.due) }

pub returns-clause-history : goal.returns-clause-history
returns-clause-history g c =
    let s = c.args.sending in
    let new : Single g.row.Q.Denot = record { class = c.self.inside.class; rows = c.take.new.self } in
    let P : Single g.row.Q.Denot → Type 0 = λ d. (h : List LabelledEvent) → Represents g.Q.QueueRule.stands g.Q.QueueRule.says d h → IsChoice s.start c.args._clock.now (unlabelled h)
    → Represents g.Q.QueueRule.stands g.Q.QueueRule.says new (sent_of s ∷ h) in
    subst P c.self.view_is (λ h k o. sent_stands g.Q.QueueRule.stands g.Q.QueueRule.says g.Q.QueueRule.most
    (record { class = c.self.inside.class; rows = c.self.inside.rows }) c.take.new.self h c.args._clock.now s c.take.ensures.same k
    (c.take.ensures.recorded h k.recorded _ _ refl refl) (ap due_of c.self.view_is ∙ c.requires.due) o)
