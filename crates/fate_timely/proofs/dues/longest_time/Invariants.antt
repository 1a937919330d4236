use Rattle.std.proofs.Common.{◌≡◌, ◌<◌, ◌^◌, take}
use Rattle.fate_timely.specs.Timely.{longest_sent}
use Rattle.fate_timely.proofs.dues.longest_time.Given as goal

abbrev pub invariant-loop-row : goal.invariant-loop-row
invariant-loop-row l = record {
  value : l.longest ≡ longest_sent (take l.row-index l.rows);
  fits : l.longest < 2 ^ 32;
}
