use Rattle.std.proofs.Common.{◌≡◌, map}
use Rattle.conf_tree.proofs.whole.bare_classes.Given as goal

abbrev pub invariant-loop-branch : goal.invariant-loop-branch
invariant-loop-branch l = l.classes.items ≡ map (λ b. b.class) l.yielded
