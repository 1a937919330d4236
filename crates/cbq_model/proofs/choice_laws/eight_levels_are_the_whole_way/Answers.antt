use Rattle.cbq_model.proofs.WholeWays.{whole_loans, whole_way}
use Rattle.cbq_model.proofs.choice_laws.eight_levels_are_the_whole_way.Goals as goal

pub returns : goal.returns
returns c = record { paths = whole_way; lenders = whole_loans }
