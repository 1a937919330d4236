use Rattle.pcapng_model.proofs.OutcomeLemmas.{reads_outcome, outcome_ends}
use Rattle.pcapng_model.proofs.laws.every_pcapng_has_a_reading.Goals as goal

pub returns-clause-reads : goal.returns-clause-reads
returns-clause-reads c = reads_outcome

pub returns-clause-last : goal.returns-clause-last
returns-clause-last c = outcome_ends
