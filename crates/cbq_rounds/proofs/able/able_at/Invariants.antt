use Rattle.std.proofs.Common.{◌-◌}
use Rattle.class_rows.specs.Rows.{list_in}
use Rattle.cbq_rounds.specs.Looked.{HasAsked}
use Rattle.cbq_sharing.specs.Lent.{IsLent}
use Rattle.cbq_rounds.proofs.able.able_at.Given as goal

abbrev pub invariant-classes : goal.invariant-classes
invariant-classes g l =
    HasAsked l.shares (list_in l.rows) l.clock l.now l.priority l.from l.best × IsLent l.shares.tree l.shares.estimates l.clock l.now l.last

abbrev pub decreases-classes : goal.decreases-classes
decreases-classes g l = 256 - l.from
