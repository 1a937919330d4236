use Rattle.play_laws.proofs.RunLemmas.{run_ends}
use Rattle.play_laws.proofs.ends_are_those_of_the_runs.Goals as goal

pub returns : goal.returns
returns c = record { ends = run_ends }
