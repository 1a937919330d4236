use Rattle.std.proofs.Common.{◌≡◌, ◌++◌, map}
use Rattle.std.specs.List.{filter, range_with_len}
use Rattle.share_gaps.specs.Rows.{are_siblings, pair}
use Rattle.share_gaps.proofs.siblings.add_rows.Given as goal

abbrev pub invariant-loop-second : goal.invariant-loop-second
invariant-loop-second l = l.rows.items ≡ l.initial.rows.items ++ filter (are_siblings l.classes) (map (pair l.first) (range_with_len 0 l.second))
