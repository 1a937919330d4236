use Rattle.cbq_rounds.proofs.Keeping.{stood_for}
use Rattle.cbq_rounds.proofs.laws.classes_keep_their_rates.Goals as goal

pub returns : goal.returns
returns g c = λ h class last between first. stood_for g.Q.QueueRule.stands g.Q.QueueRule.says c.args.cbq.now h class last between first
