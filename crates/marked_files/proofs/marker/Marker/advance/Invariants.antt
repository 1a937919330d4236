use Rattle.std.proofs.Common.{length}
use Rattle.marked_files.specs.Taking.{KeepsGiven}
use Rattle.marked_files.proofs.marker.Marker.advance.Given as goal

abbrev pub invariant-loop : goal.invariant-loop
invariant-loop g l = KeepsGiven g.C.Classify.placed l.fn.self l.self

abbrev pub decreases-loop : goal.decreases-loop
decreases-loop g l = length l.self.held.pending
