use Rattle.cbq_estimator.proofs.Now as now
use Rattle.cbq_estimator.proofs.laws.answers_are_those_of_the_history.Goals as goal

pub returns-clause-kept : goal.returns-clause-kept
returns-clause-kept c = now.kept

pub returns-clause-ended : goal.returns-clause-ended
returns-clause-ended c = now.ended

pub returns-clause-least : goal.returns-clause-least
returns-clause-least c = now.least
