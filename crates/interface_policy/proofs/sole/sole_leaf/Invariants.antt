use Rattle.interface_policy.proofs.Leaves.{AreCounted, first_leaves}
use Rattle.interface_policy.proofs.sole.sole_leaf.Given as goal

abbrev pub invariant-loop-number : goal.invariant-loop-number
invariant-loop-number l = AreCounted (first_leaves l.classes l.number) l.number l.count l.last
