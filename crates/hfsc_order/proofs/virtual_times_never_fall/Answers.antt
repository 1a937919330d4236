use Rattle.hfsc_order.proofs.Times.{rises, are_behind}
use Rattle.hfsc_order.proofs.virtual_times_never_fall.Goals as goal

pub returns : goal.returns
returns c = record { step = rises; history = are_behind }
