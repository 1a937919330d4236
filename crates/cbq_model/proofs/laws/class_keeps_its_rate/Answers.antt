use Rattle.cbq_model.proofs.Capped.{keeps_its_rate}
use Rattle.cbq_model.proofs.PlayedSendings.{played}
use Rattle.cbq_model.proofs.laws.class_keeps_its_rate.Goals as goal

pub returns-clause-rate : goal.returns-clause-rate
returns-clause-rate c = keeps_its_rate

pub returns-clause-plays : goal.returns-clause-plays
returns-clause-plays c = played
