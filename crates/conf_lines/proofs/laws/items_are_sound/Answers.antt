use Rattle.conf_lines.proofs.GoodSteps.{statements_sound}
use Rattle.conf_lines.proofs.laws.items_are_sound.Goals as goal

pub returns : goal.returns
returns c = λ text. statements_sound text
