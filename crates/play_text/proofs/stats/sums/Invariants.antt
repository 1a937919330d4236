use Rattle.std.proofs.Common.{◌≡◌, take}
use Rattle.play_text.specs.Statistics.{sum_of}
use Rattle.play_text.proofs.StatsLemmas.{IsUnder}
use Rattle.play_text.proofs.stats.sums.Given as goal

abbrev pub invariant-loop-i : goal.invariant-loop-i
invariant-loop-i l = record {
  sum : l.sum ≡ sum_of (take l.i l.counts);
  under : IsUnder l.i l.sum;
}
