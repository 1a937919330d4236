use Rattle.std.proofs.Common.{◌≡◌, length}
use Rattle.conf_tree.specs.Options.{rate_by_options}
use Rattle.conf_tree.proofs.options.rate_by_options.Given as goal

abbrev pub invariant-loop-left : goal.invariant-loop-left
invariant-loop-left l = rate_by_options l.rate l.left ≡ rate_by_options l.unset l.items

abbrev pub decreases-loop-left : goal.decreases-loop-left
decreases-loop-left l = length l.left
