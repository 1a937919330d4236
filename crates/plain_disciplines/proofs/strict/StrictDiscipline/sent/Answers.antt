use Rattle.std.proofs.Common.{◌∙◌, List, ◌∷◌, ap, refl, subst}
use Rattle.altq_model.specs.History.{LabelledEvent, unlabelled}
use Rattle.discipline.specs.Laws.{sent_of}
use Rattle.discipline.specs.Moments.{IsChoice}
use Rattle.class_rows.specs.Rows.{classes_in, list_in}
use Rattle.plain_disciplines.specs.Strict.{Ordered, Represents, strict_due}
use Rattle.plain_disciplines.proofs.StrictLemmas.{sent_stands, some_due}
use Rattle.plain_disciplines.proofs.strict.StrictDiscipline.sent.Goals as goal

pub take-requires : goal.take-requires
take-requires g c = record {
  some = some_due c.self.inside.rule (list_in c.self.inside.rows) (classes_in c.self.inside.rows) c.args.sending.ticket c.args.sending.class c.args.sending.len
      c.args.sending.rule (ap strict_due c.self.view_is ∙ c.requires.due);
}

pub returns-clause-history : goal.returns-clause-history
returns-clause-history g c =
    let P : Ordered g.row.Q.Denot → Type 0 = λ d. (h : List LabelledEvent) → Represents g.Q.QueueRule.stands g.Q.QueueRule.says d h
    → IsChoice c.args.sending.start c.args._clock.now (unlabelled h)
    → Represents g.Q.QueueRule.stands g.Q.QueueRule.says (record { rule = c.self.inside.rule; rows = c.take.new.self }) (sent_of c.args.sending ∷ h) in
    subst P c.self.view_is (λ h s o. sent_stands g.Q.QueueRule.stands g.Q.QueueRule.says g.Q.QueueRule.most
    (record { rule = c.self.inside.rule; rows = c.self.inside.rows }) c.take.new.self h c.args._clock.now c.args.sending c.take.ensures.same s
    (c.take.ensures.recorded h s.recorded _ _ refl refl) (ap strict_due c.self.view_is ∙ c.requires.due) o)
