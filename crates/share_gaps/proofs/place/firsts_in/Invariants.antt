use Rattle.std.proofs.Common.{◌≡◌}
use Rattle.std.specs.Prelude.{slice_get}
use Rattle.std.specs.List.{filter, range_with_len}
use Rattle.share_gaps.specs.Rows.{first_in}
use Rattle.share_gaps.proofs.place.firsts_in.Given as goal

abbrev pub invariant-loop-row : goal.invariant-loop-row
invariant-loop-row l = l.rows.items ≡ filter (λ i. first_in l.path (slice_get l.siblings i)) (range_with_len 0 l.row)
