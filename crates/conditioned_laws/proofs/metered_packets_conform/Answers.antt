use Rattle.conditioned_laws.proofs.Captures.{comes_metered, makes_metered}
use Rattle.conditioned_laws.proofs.Carried.{is_metered}
use Rattle.conditioned_laws.proofs.metered_packets_conform.Goals as goal

pub returns-clause-records : goal.returns-clause-records
returns-clause-records c = is_metered

pub returns-clause-captures : goal.returns-clause-captures
returns-clause-captures c = makes_metered

pub returns-clause-marked : goal.returns-clause-marked
returns-clause-marked c = comes_metered
