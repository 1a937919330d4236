use Rattle.conf_laws.proofs.TextFaults.{text_faults_stand}
use Rattle.conf_laws.proofs.laws.faults_stand_in_texts.Goals as goal

pub returns : goal.returns
returns c = λ text more other fault ends stands has. text_faults_stand text more other fault ends stands has
