use Rattle.std.proofs.Common.{◌-◌}
use Rattle.class_rows.specs.Rows.{list_in}
use Rattle.cbq_rounds.specs.Looked.{HasFirst}
use Rattle.cbq_rounds.proofs.look.first_moment.Given as goal

abbrev pub invariant-classes : goal.invariant-classes
invariant-classes g l = HasFirst l.shares (list_in l.rows) l.clock l.now l.from l.till

abbrev pub decreases-classes : goal.decreases-classes
decreases-classes g l = 256 - l.from
