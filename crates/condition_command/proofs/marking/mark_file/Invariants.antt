use Rattle.std.proofs.Common.{◌≡◌, ◌+◌, ◌-◌, ◌^◌, length}
use Rattle.play_base.specs.View.{SameCounts}
use Rattle.marked_files.specs.Standing.{Waits, reach}
use Rattle.condition_command.specs.Moving.{IsOn}
use Rattle.condition_command.proofs.marking.mark_file.Given as goal

abbrev pub invariant-turns : goal.invariant-turns
invariant-turns g l = record {
  on : IsOn (g.F.Files.view l.fn.files) (g.F.Files.view l.files) l.from l.to l.fn.marker l.marker;
  given : length l.marker.held.ready ≡ 0;
  waits : Waits l.marker;
  counts : SameCounts (g.F.Files.view l.fn.files) (g.F.Files.view l.files);
}

abbrev pub decreases-turns : goal.decreases-turns
decreases-turns g l = (2 ^ 30 + 24 + 262161) - reach l.marker
