use Rattle.std.proofs.Common.{◌≡◌, ◌++◌, take}
use Rattle.csv.specs.Writing.{writer_under}
use Rattle.play_text.specs.Ready.{IsReady}
use Rattle.play_text.specs.Statistics.{count_rows, stats_header}
use Rattle.play_text.proofs.stats.stats_text.Given as goal

abbrev pub invariant-loop-i : goal.invariant-loop-i
invariant-loop-i l = record {
  ready : IsReady l.writer;
  text : (writer_under l.writer).items ≡ stats_header ++ count_rows (take l.i l.names) (take l.i l.counts);
}
