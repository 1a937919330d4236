use Rattle.share_report.proofs.Steps.{after_sending}
use Rattle.share_report.proofs.watched.WatchedDiscipline.sent.Goals as goal

pub returns-clause-history : goal.returns-clause-history
returns-clause-history g c = λ h s choice.
    after_sending (g.D.Discipline.view c.args.self.now.inner).represents (g.D.Discipline.view c.sent.new.self).represents (g.D.Discipline.view c.args.self.now.inner).policy (g.D.Discipline.view c.sent.new.self).policy c.args.self.now.watch c.sent-2.new.self
    c.sent.ensures.kind.policy c.sent-2.ensures.classes c.args.self.now.kept c.args.sending.ticket.0 _ h s (g.met.D.Discipline.orderly c.sent.new.self) c.sent-2.ensures.stands (c.sent.ensures.history h s.stands choice)
