use Rattle.std.proofs.Common.{◌≡◌, ◌++◌, length, take, drop}
use Rattle.conf_tree.specs.Masks.{prefix}
use Rattle.conf_tree.proofs.masks.prefix.Given as goal

abbrev pub invariant-loop-i : goal.invariant-loop-i
invariant-loop-i l = record {
  sized : length l.masked ≡ 16;
  done : take l.i l.masked ++ prefix l.left (drop l.i l.address) ≡ prefix l.bits l.address;
}
