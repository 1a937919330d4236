use Rattle.std.proofs.Common.{◌≡◌, ◌∙◌}
use Rattle.conf_tree.proofs.Positions.{number_names}
use Rattle.conf_tree.specs.Tree.{class_name}
use Rattle.conf_tree.proofs.draft.Draft.add_class.Goals as goal

pub add_with-requires : goal.add_with-requires
add_with-requires c =
    let read = rw c.as_slice.ensures at c.in-Some.ensures in
    let named = c.requires.named in
    let same : c.in-Some.name.now ≡ c.args.branch.class.name = cc in
    let new = rw (← c.self.view_is) at c.requires.new in
    number_names class_name c.in-Some.name.now c.self.inside.names c.self.inside.classes.items c.self.invariant.0 ∙ rw same new
