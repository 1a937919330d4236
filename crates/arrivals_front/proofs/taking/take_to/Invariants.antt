use Rattle.std.proofs.Common.{◌≤◌, ◌-◌, length, vec_len}
use Rattle.std.specs.Prelude.{IsSome}
use Rattle.play_base.specs.View.{SameCounts}
use Rattle.arrivals_front.specs.Taking.{Gained}
use Rattle.arrivals_front.proofs.taking.take_to.Given as goal

abbrev pub invariant-loop-piece : goal.invariant-loop-piece
invariant-loop-piece g l = record {
  few : length l.taken.items ≤ l.wanted;
  there : IsSome ((g.F.Files.view l.files).part l.file);
  gained : Gained (g.F.Files.view l.fn.files) (g.F.Files.view l.files) l.file l.fn.taken.items l.taken.items;
  no_fault : SameCounts (g.F.Files.view l.fn.files) (g.F.Files.view l.files);
}

abbrev pub decreases-loop-piece : goal.decreases-loop-piece
decreases-loop-piece g l = l.wanted - vec_len l.taken
