use Rattle.std.proofs.Common.{◌≤◌, None}
use Rattle.class_rows.specs.Rows.{list_in}
use Rattle.cbq_rounds.specs.Looked.{HasAsked}
use Rattle.cbq_rounds.proofs.able.first_able.Given as goal

abbrev pub invariant-levels : goal.invariant-levels
invariant-levels g l = HasAsked l.shares (list_in l.rows) l.clock l.now l.level 256 None × l.level ≤ 8

abbrev pub decreases-levels : goal.decreases-levels
decreases-levels g l = l.level
