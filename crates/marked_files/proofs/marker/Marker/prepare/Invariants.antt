use Rattle.std.proofs.Common.{◌-◌, IsSome, length}
use Rattle.play_base.specs.View.{SameCounts}
use Rattle.marked_files.specs.Taking.{HasTaken}
use Rattle.marked_files.proofs.marker.Marker.prepare.Given as goal

abbrev pub invariant-loop-self : goal.invariant-loop-self
invariant-loop-self g l = record {
  there : IsSome ((g.F.Files.view l.files).part l.file);
  taken : HasTaken g.C.Classify.placed (g.F.Files.view l.fn.files) (g.F.Files.view l.files) l.file l.fn.self l.self;
  counts : SameCounts (g.F.Files.view l.fn.files) (g.F.Files.view l.files);
}

abbrev pub decreases-loop-self : goal.decreases-loop-self
decreases-loop-self g l = 262160 - length l.self.held.pending
