use Rattle.conf_laws.proofs.Queues.{has_queues}
use Rattle.conf_laws.proofs.laws.interfaces_have_queues.Goals as goal

pub returns : goal.returns
returns c = λ text interfaces h k i at. has_queues i ((c.configurations_fit.ensures text interfaces h).interface k i at)
