use Rattle.std.proofs.Common.{refl}
use Rattle.runtime_curve.specs.Running.{last_of}
use Rattle.runtime_curve.proofs.Running.new.Goals as goal

pub returns-clause-none : goal.returns-clause-none
unfolding last_of
returns-clause-none c = record { curve = refl; last = refl; up_to = refl; held = refl }

pub returns-clause-empty : goal.returns-clause-empty
unfolding last_of
returns-clause-empty c = refl
