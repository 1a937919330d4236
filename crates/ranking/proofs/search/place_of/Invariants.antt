use Rattle.std.proofs.Common.{◌-◌}
use Rattle.ranking.specs.Keys.{all_keys}
use Rattle.ranking.specs.Search.{IsFound}
use Rattle.ranking.proofs.search.place_of.Given as goal

abbrev pub invariant-loop-low : goal.invariant-loop-low
invariant-loop-low l = IsFound (all_keys l.keys) l.order l.class l.low l.high

abbrev pub decreases-loop-low : goal.decreases-loop-low
decreases-loop-low l = l.high - l.low
