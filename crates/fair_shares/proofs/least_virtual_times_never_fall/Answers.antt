use Rattle.fair_shares.proofs.Spread.{least_never_falls, least_rises}
use Rattle.fair_shares.proofs.least_virtual_times_never_fall.Goals as goal

pub returns-clause-step : goal.returns-clause-step
returns-clause-step c = least_never_falls

pub returns-clause-stretch : goal.returns-clause-stretch
returns-clause-stretch c = least_rises
