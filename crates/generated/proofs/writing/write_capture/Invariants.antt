use Rattle.std.proofs.Common.{◌≡◌, ◌≤◌, ◌-◌}
use Rattle.std.specs.Prelude.{IsSome}
use Rattle.play_base.specs.View.{SameCounts, Wrote}
use Rattle.generated.specs.Packets.{generated_capture}
use Rattle.generated.proofs.writing.write_capture.Given as goal

abbrev pub invariant-loop-made : goal.invariant-loop-made
invariant-loop-made g l = record {
  within : l.made ≤ l.count;
  seed : l.generator.seed ≡ l.seed;
  made : l.generator.made ≡ l.made;
  there : IsSome ((g.F.Files.view l.files).part l.file);
  wrote : Wrote (g.F.Files.view l.fn.files) (g.F.Files.view l.files) l.file (generated_capture l.seed l.made);
  counts : SameCounts (g.F.Files.view l.fn.files) (g.F.Files.view l.files);
}

abbrev pub decreases-loop-made : goal.decreases-loop-made
decreases-loop-made g l = l.count - l.made
