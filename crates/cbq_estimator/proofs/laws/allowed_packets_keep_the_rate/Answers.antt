use Rattle.cbq_estimator.proofs.Rises as rises
use Rattle.cbq_estimator.proofs.laws.allowed_packets_keep_the_rate.Goals as goal

pub returns-clause-rise : goal.returns-clause-rise
returns-clause-rise c = rises.rises

pub returns-clause-rate : goal.returns-clause-rate
returns-clause-rate c = rises.keeps
