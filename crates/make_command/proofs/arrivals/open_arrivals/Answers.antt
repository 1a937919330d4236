use Rattle.make_command.proofs.ArrivalsLemmas.{taken_along}
use Rattle.make_command.proofs.arrivals.open_arrivals.Goals as goal

pub returns-in-Ok-take_to-clause-along : goal.returns-in-Ok-take_to-clause-along
returns-in-Ok-take_to-clause-along g c = taken_along c.in-Ok.ensures.came c.take_to.ensures.took

pub returns-in-Err-Failed-take_to-clause-along : goal.returns-in-Err-Failed-take_to-clause-along
returns-in-Err-Failed-take_to-clause-along g c = taken_along c.in-Ok.ensures.came c.take_to.ensures.took

pub returns-clause-along : goal.returns-clause-along
returns-clause-along g c = taken_along c.in-Ok.ensures.came c.take_to.ensures.took
