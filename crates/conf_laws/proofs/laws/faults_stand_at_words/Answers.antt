use Rattle.conf_laws.proofs.WordFaults.{faults_stand}
use Rattle.conf_laws.proofs.laws.faults_stand_at_words.Goals as goal

pub returns : goal.returns
returns c = λ statements rest line words more other fault some within e. faults_stand statements rest line words more other fault some within e
