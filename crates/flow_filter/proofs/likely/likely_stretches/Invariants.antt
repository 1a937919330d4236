use Rattle.flow_filter.specs.Filed.{EntriesAreInOrder}
use Rattle.flow_filter.specs.Search.{AreStretches}
use Rattle.flow_filter.proofs.likely.likely_stretches.Given as goal

-- those so far
abbrev pub invariant-loop-one : goal.invariant-loop-one
invariant-loop-one l = EntriesAreInOrder l.filed → AreStretches l.filed l.likely.items
