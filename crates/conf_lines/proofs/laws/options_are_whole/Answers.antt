use Rattle.conf_lines.proofs.GoodSteps.{options_whole}
use Rattle.conf_lines.proofs.laws.options_are_whole.Goals as goal

pub returns : goal.returns
returns c = λ text. options_whole text
