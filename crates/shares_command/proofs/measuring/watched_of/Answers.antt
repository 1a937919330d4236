use Rattle.std.proofs.Common.{◌∙◌, List, ap}
use Rattle.conf_tree.specs.declared.class.Class.{Class}
use Rattle.interface_policy.specs.Classes.{hfsc_classes}
use Rattle.shares_command.proofs.LineLemmas.{tree_over}
use Rattle.shares_command.proofs.measuring.watched_of.Goals as goal

pub build-requires-clause-tree : goal.build-requires-clause-tree
build-requires-clause-tree c =
    tree_over c.args.interface.now c.as_slice-2.result.now c.requires.fit c.requires.kind
    (c.as_slice-2.ensures.value ∙ c.in_ok-classes.ensures ∙ ap (λ (ks : List Class). hfsc_classes ks) c.as_slice.ensures)
