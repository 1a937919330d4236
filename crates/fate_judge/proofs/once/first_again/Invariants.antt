use Rattle.std.proofs.Common.{◌≡◌, vec_len}
use Rattle.fate_judge.specs.Tests.{AreSeen, IsNewPacket}
use Rattle.fate_judge.proofs.Walking.{EachBelow, before_at}
use Rattle.fate_judge.proofs.once.first_again.Given as goal

abbrev pub invariant-loop-i : goal.invariant-loop-i
invariant-loop-i l = record {
  stands : AreSeen l.seen.numbers.items (before_at l.rows l.i);
  each : EachBelow IsNewPacket l.rows l.i;
  count : vec_len l.seen.numbers ≡ l.count;
}
