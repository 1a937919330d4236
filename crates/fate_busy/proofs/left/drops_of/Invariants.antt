use Rattle.std.proofs.Common.{◌≡◌, vec_len}
use Rattle.fate_judge.proofs.Walking.{before_at}
use Rattle.fate_busy.specs.Busy.{AreDropped}
use Rattle.fate_busy.proofs.left.drops_of.Given as goal

abbrev pub invariant-loop-row : goal.invariant-loop-row
invariant-loop-row l = record {
  count : vec_len l.drops.gone ≡ l.count;
  dropped : AreDropped l.drops.gone.items (before_at l.rows l.row-index);
}
