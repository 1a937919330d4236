use Rattle.std.proofs.Common.{◌≤◌, ◌-◌, ◌++◌}
use Rattle.std.specs.Prelude.{IsSome}
use Rattle.play_base.specs.View.{SameCounts, Wrote}
use Rattle.play_chain.specs.Stands.{bound, rows_to}
use Rattle.play_chain.specs.Text.{path_header}
use Rattle.chain_command.proofs.paths.write_rows.Given as goal

abbrev pub invariant-loop-from : goal.invariant-loop-from
invariant-loop-from g l = record {
  within : l.from ≤ bound l.path;
  there : IsSome ((g.F.Files.view l.files).part l.file);
  wrote : Wrote (g.F.Files.view l.fn.files) (g.F.Files.view l.files) l.file (path_header ++ rows_to l.path l.from);
  no_fault : SameCounts (g.F.Files.view l.fn.files) (g.F.Files.view l.files);
}

abbrev pub decreases-loop-from : goal.decreases-loop-from
decreases-loop-from g l = bound l.path - l.from
