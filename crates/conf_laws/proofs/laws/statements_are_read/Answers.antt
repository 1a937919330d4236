use Rattle.conf_laws.proofs.ConfigurationsRead.{configuration_is_read}
use Rattle.conf_laws.proofs.laws.statements_are_read.Goals as goal

pub returns : goal.returns
returns c = λ interfaces fit. configuration_is_read interfaces 1 fit
