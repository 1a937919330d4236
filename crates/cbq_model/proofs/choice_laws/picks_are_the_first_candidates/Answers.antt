use Rattle.cbq_model.proofs.Firsts.{is_first, one_first}
use Rattle.cbq_model.proofs.choice_laws.picks_are_the_first_candidates.Goals as goal

pub returns : goal.returns
returns c = record { pick = is_first; one = one_first }
