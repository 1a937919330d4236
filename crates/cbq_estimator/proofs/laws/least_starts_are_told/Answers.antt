use Rattle.cbq_estimator.proofs.Least as least
use Rattle.cbq_estimator.proofs.LinkEnds.{link_ends}
use Rattle.cbq_estimator.proofs.laws.least_starts_are_told.Goals as goal

pub returns-clause-told : goal.returns-clause-told
returns-clause-told c = least.told

pub returns-clause-stays : goal.returns-clause-stays
returns-clause-stays c = least.stays

pub returns-clause-links : goal.returns-clause-links
returns-clause-links c = link_ends
