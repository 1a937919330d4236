use Rattle.hfsc_eligible.proofs.Same.{new_is}
use Rattle.hfsc_eligible.proofs.Eligible.build.Goals as goal

pub returns-clause-new : goal.returns-clause-new
returns-clause-new c = new_is _ c.args.curves.now c.in_ok-slots.ensures.new
