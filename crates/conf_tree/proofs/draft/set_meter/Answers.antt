use Rattle.std.proofs.Common.{ap}
use Rattle.std.proofs.Math.Seq.{map-set_same}
use Rattle.conf_tree.specs.Tree.{class_name}
use Rattle.conf_tree.proofs.draft.set_meter.Goals as goal

pub returns-then-class-len-clause-names : goal.returns-then-class-len-clause-names
returns-then-class-len-clause-names c =
    let d = c.index_mut-branch.result.now in
    map-set_same class_name c.args.classes.now.items c.args.class _ d (ap class_name c.index_mut-branch.ensures.value)
