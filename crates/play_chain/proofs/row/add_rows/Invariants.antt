use Rattle.std.proofs.Common.{◌++◌}
use Rattle.csv.specs.Writing.{writer_pending, writer_under}
use Rattle.play_chain.specs.Tables.{in_tables}
use Rattle.play_chain.specs.Written.{Continues, IsBetweenRows}
use Rattle.play_chain.proofs.row.add_rows.Given as goal

abbrev pub invariant-rows : goal.invariant-rows
invariant-rows l = record {
  between : IsBetweenRows l.writer;
  text : Continues ((writer_under l.fn.writer).items ++ writer_pending l.fn.writer) ((writer_under l.writer).items ++ writer_pending l.writer)
      l.from l.number (in_tables l.firsts l.seconds);
}
