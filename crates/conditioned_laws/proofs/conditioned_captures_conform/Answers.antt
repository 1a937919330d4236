use Rattle.conditioned_laws.proofs.Captures.{source_metered, conditioned_metered, played_metered, whole_metered}
use Rattle.conditioned_laws.proofs.conditioned_captures_conform.Goals as goal

pub returns-clause-conditioned : goal.returns-clause-conditioned
returns-clause-conditioned c = conditioned_metered

pub returns-clause-whole : goal.returns-clause-whole
returns-clause-whole c = whole_metered

pub returns-clause-source : goal.returns-clause-source
returns-clause-source c = source_metered

pub returns-clause-played : goal.returns-clause-played
returns-clause-played c = played_metered
