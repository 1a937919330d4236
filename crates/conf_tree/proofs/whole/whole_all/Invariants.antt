use Rattle.std.proofs.Common.{◌≡◌, map}
use Rattle.conf_tree.specs.Whole.{whole}
use Rattle.conf_tree.proofs.whole.whole_all.Given as goal

abbrev pub invariant-loop-draft : goal.invariant-loop-draft
invariant-loop-draft l = l.interfaces.items ≡ map whole l.yielded
