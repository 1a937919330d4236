use Rattle.std.proofs.Common.{◌≡◌, ◌<◌, length}
use Rattle.std.specs.Prelude.{◌-◌}
use Rattle.hfsc_share.specs.Shares.{down}
use Rattle.hfsc_share.proofs.Shares.leaf_below.Given as goal

abbrev pub invariant-loop : goal.invariant-loop
invariant-loop l = record {
  low : l.class < length l.self.nodes.items;
  way : down (8 - l.counter) l.self.groups.items l.now l.class ≡ down 8 l.self.groups.items l.now 0;
}
