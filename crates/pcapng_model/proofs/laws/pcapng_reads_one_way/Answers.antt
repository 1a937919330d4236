use Rattle.pcapng_model.proofs.StandLemmas.{one_reading}
use Rattle.pcapng_model.proofs.laws.pcapng_reads_one_way.Goals as goal

pub returns : goal.returns
returns c = one_reading
