use Rattle.std.proofs.Common.{◌-◌, ◌≤◌, length, take}
use Rattle.std.specs.Prelude.{IsSome}
use Rattle.play_base.specs.View.{SameCounts, Wrote}
use Rattle.play_base.proofs.writing.write_all.Given as goal

abbrev pub invariant-loop-at : goal.invariant-loop-at
invariant-loop-at g l = record {
  within : l.at ≤ length l.bytes;
  there : IsSome ((g.F.Files.view l.files).part l.file);
  wrote : Wrote (g.F.Files.view l.fn.files) (g.F.Files.view l.files) l.file (take l.at l.bytes);
  counts : SameCounts (g.F.Files.view l.fn.files) (g.F.Files.view l.files);
}

abbrev pub decreases-loop-at : goal.decreases-loop-at
decreases-loop-at g l = length l.bytes - l.at
