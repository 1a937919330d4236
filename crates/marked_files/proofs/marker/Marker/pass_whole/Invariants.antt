use Rattle.std.proofs.Common.{◌≡◌, length}
use Rattle.marked_files.specs.Standing.{KeepsStanding}
use Rattle.marked_files.specs.Taking.{holds}
use Rattle.marked_files.proofs.marker.Marker.pass_whole.Given as goal

abbrev pub invariant-loop-stage : goal.invariant-loop-stage
invariant-loop-stage g l = record {
  stands : KeepsStanding g.C.Classify.placed l.fn.self l.self;
  many : holds l.self ≡ holds l.fn.self;
  stage : l.stage ≡ l.self.stage;
}

abbrev pub decreases-loop-stage : goal.decreases-loop-stage
decreases-loop-stage g l = length l.self.held.pending
