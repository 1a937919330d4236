use Rattle.std.proofs.Common.{ap}
use Rattle.std.proofs.Math.Seq.{map-set_same}
use Rattle.conf_tree.specs.Tree.{class_name}
use Rattle.conf_tree.proofs.draft.name_parent.Goals as goal

pub returns-then-parent-len-clause-names : goal.returns-then-parent-len-clause-names
returns-then-parent-len-clause-names c =
    let d = c.index_mut-branch.result.now in
    map-set_same class_name c.args.classes.now.items c.in-Some.parent _ d (ap class_name c.index_mut-branch.ensures.value)
