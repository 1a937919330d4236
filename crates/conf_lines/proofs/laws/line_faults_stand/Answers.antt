use Rattle.conf_lines.proofs.LineSplit.{stands}
use Rattle.conf_lines.proofs.laws.line_faults_stand.Goals as goal

pub returns : goal.returns
returns c = stands
