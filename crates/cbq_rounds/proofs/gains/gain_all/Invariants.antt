use Rattle.std.proofs.Common.{◌-◌}
use Rattle.class_rows.specs.Rows.{list_in}
use Rattle.cbq_rounds.specs.Gained.{HasGained}
use Rattle.cbq_sharing.specs.Lent.{IsLent}
use Rattle.cbq_rounds.proofs.gains.gain_all.Given as goal

abbrev pub invariant-classes : goal.invariant-classes
invariant-classes g l =
    HasGained l.fn.shares (list_in l.rows) l.clock l.sending l.from l.shares
    × IsLent l.fn.shares.tree l.fn.shares.estimates l.clock l.sending.start l.last

abbrev pub decreases-classes : goal.decreases-classes
decreases-classes g l = 256 - l.from
