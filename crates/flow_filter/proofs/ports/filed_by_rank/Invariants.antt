use Rattle.flow_filter.specs.Filed.{IsFiledByRank}
use Rattle.flow_filter.proofs.ports.filed_by_rank.Given as goal

-- those so far
abbrev pub invariant-loop-rank : goal.invariant-loop-rank
invariant-loop-rank l = IsFiledByRank l.filters l.places l.group l.rank l.entries.items
