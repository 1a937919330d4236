use Rattle.std.proofs.Common.{◌-◌}
use Rattle.class_rows.specs.Rows.{list_in}
use Rattle.cbq_sharing.specs.Held.{AreHeld}
use Rattle.cbq_sharing.proofs.held.hold_refused.Given as goal

abbrev pub invariant-classes : goal.invariant-classes
invariant-classes g l = AreHeld l.shares (list_in l.rows) l.held

abbrev pub decreases-classes : goal.decreases-classes
decreases-classes g l = 256 - l.from
