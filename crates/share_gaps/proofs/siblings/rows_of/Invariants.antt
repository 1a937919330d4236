use Rattle.std.proofs.Common.{◌≡◌}
use Rattle.std.specs.List.{range_with_len}
use Rattle.share_gaps.specs.Rows.{rows_from}
use Rattle.share_gaps.proofs.siblings.rows_of.Given as goal

abbrev pub invariant-loop-first : goal.invariant-loop-first
invariant-loop-first l = l.all.items ≡ rows_from l.classes (range_with_len 0 l.first)
