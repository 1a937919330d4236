use Rattle.hfsc_model.proofs.Bounds.{is_late, is_timely}
use Rattle.hfsc_model.proofs.timely.timely_at_the_bound.Goals as goal

pub returns-clause-timely : goal.returns-clause-timely
returns-clause-timely c = is_timely

pub returns-clause-late : goal.returns-clause-late
returns-clause-late c = is_late
