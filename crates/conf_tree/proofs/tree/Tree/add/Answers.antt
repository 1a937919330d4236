use Rattle.std.proofs.Common.{◌∙◌}
use Rattle.conf_tree.proofs.Positions.{number_names}
use Rattle.conf_tree.specs.Tree.{interface_name}
use Rattle.conf_tree.proofs.tree.Tree.add.Goals as goal

pub add_with-requires : goal.add_with-requires
add_with-requires c =
    number_names interface_name c.draft.inside.name.now c.self.inside.names c.self.inside.interfaces.items c.self.invariant
    ∙ (rw (← c.self.view_is, ← c.draft.view_is) at c.requires)
