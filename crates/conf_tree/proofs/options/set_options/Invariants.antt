use Rattle.std.proofs.Common.{◌≡◌, length}
use Rattle.conf_tree.specs.Options.{set_options}
use Rattle.conf_tree.proofs.options.set_options.Given as goal

abbrev pub invariant-loop-left : goal.invariant-loop-left
invariant-loop-left l = set_options l.scope l.settings l.left ≡ set_options l.scope l.fn.unset l.items

abbrev pub decreases-loop-left : goal.decreases-loop-left
decreases-loop-left l = length l.left
