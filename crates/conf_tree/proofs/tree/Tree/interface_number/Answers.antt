use Rattle.std.proofs.Common.{◌∙◌}
use Rattle.conf_tree.proofs.Positions.{number_names}
use Rattle.conf_tree.specs.Tree.{interface_name}
use Rattle.conf_tree.proofs.tree.Tree.interface_number.Goals as goal

pub returns : goal.returns
returns c =
    rw (← c.self.view_is) (c.number.ensures.number ∙ number_names interface_name c.args.name.now c.self.inside.names c.self.inside.interfaces.items c.self.invariant)
