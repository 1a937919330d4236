use Rattle.std.proofs.Common.{◌∙◌}
use Rattle.conf_tree.proofs.Positions.{number_names}
use Rattle.conf_tree.specs.Tree.{class_name}
use Rattle.conf_tree.proofs.draft.Draft.class_number.Goals as goal

pub returns-in-Some : goal.returns-in-Some
returns-in-Some c =
    rw (← c.self.view_is) (c.in-Some.ensures.number ∙ number_names class_name c.args.name.now c.self.inside.names c.self.inside.classes.items c.self.invariant.0)

pub returns-in-None : goal.returns-in-None
returns-in-None c =
    rw (← c.self.view_is) (c.in-None.ensures.number ∙ number_names class_name c.args.name.now c.self.inside.names c.self.inside.classes.items c.self.invariant.0)
