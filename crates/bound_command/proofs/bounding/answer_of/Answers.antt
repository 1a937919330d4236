use Rattle.bound_command.proofs.LineLemmas.{reals_in_range}
use Rattle.bound_command.proofs.bounding.answer_of.Goals as goal

pub bound_lines-requires-clause-curves : goal.bound_lines-requires-clause-curves
bound_lines-requires-clause-curves c = reals_in_range c.args.interface.now c.requires
