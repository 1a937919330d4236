use Rattle.std.proofs.Common.{◌≡◌, None, drop}
use Rattle.conf_tree.specs.Options.{kind_by_options}
use Rattle.conf_tree.proofs.options.kind_by_options.Given as goal

abbrev pub invariant-loop-item : goal.invariant-loop-item
invariant-loop-item l = kind_by_options l.kind (drop l.item-index l.items) ≡ kind_by_options None l.items
