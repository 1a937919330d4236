use Rattle.std.proofs.Common.{◌≡◌, length}
use Rattle.hfsc_eligible.specs.Heads.{AreNew}
use Rattle.hfsc_eligible.proofs.slots_of.Given as goal

abbrev pub invariant-loop-curve : goal.invariant-loop-curve
invariant-loop-curve l = (length l.slots.items ≡ l.curve-index) × AreNew l.curves l.slots.items
