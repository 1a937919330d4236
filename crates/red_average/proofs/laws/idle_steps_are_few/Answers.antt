use Rattle.red_average.proofs.Steps.{idled_most}
use Rattle.red_average.proofs.laws.idle_steps_are_few.Goals as goal

pub returns : goal.returns
returns c = idled_most
