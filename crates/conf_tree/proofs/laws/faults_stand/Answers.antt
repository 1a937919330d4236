use Rattle.std.proofs.Common.{[]}
use Rattle.conf_tree.proofs.StandingFaults.{stands}
use Rattle.conf_tree.proofs.laws.faults_stand.Goals as goal

pub returns : goal.returns
returns c = λ statements more fault h. stands [] statements more fault h
