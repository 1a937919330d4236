use Rattle.delay_bound.proofs.Bounds.{histories_keep, keeps_bounds, plays_keep}
use Rattle.delay_bound.proofs.packets_keep_their_bounds.Goals as goal

pub returns-clause-timely : goal.returns-clause-timely
returns-clause-timely c = keeps_bounds

pub returns-clause-histories : goal.returns-clause-histories
returns-clause-histories c = histories_keep

pub returns-clause-plays : goal.returns-clause-plays
returns-clause-plays c = plays_keep
