use Rattle.std.proofs.Common.{◌-◌, ◌≤◌, ◌<◌}
use Rattle.ranking.specs.Keys.{all_keys}
use Rattle.std.specs.List.{remove}
use Rattle.ranking.specs.Search.{IsFound}
use Rattle.ranking.proofs.search.place_beside.Given as goal

abbrev pub invariant-loop-least : goal.invariant-loop-least
invariant-loop-least l = record {
  found : IsFound (all_keys l.keys) (remove l.order l.from) l.class l.least l.most;
  above : l.least ≤ l.middle;
  below : l.least < l.most → l.middle < l.most;
}

abbrev pub decreases-loop-least : goal.decreases-loop-least
decreases-loop-least l = l.most - l.least
