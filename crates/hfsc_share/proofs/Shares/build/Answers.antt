use Rattle.std.proofs.Common.{refl}
use Rattle.hfsc_groups.proofs.New.{new_holds, new_limits, new_parents}
use Rattle.hfsc_share.proofs.New.{new_stands, new_is}
use Rattle.hfsc_share.proofs.Shares.build.Goals as goal

pub invariant_of-result : goal.invariant_of-result
invariant_of-result c = record {
  groups_hold = new_holds c.args.classes.now c.in_ok-nodes.nodes.items c.in_ok-groups.groups.items c.in_ok-nodes.ensures c.in_ok-groups.ensures;
  parents_first = new_parents c.args.classes.now c.in_ok-nodes.nodes.items c.requires.classes c.in_ok-nodes.ensures;
  limits_by = new_limits c.args.classes.now c.in_ok-nodes.nodes.items c.in_ok-nodes.ensures;
}

pub returns-clause-stands : goal.returns-clause-stands
returns-clause-stands c = new_stands _ c.args.classes.now c.requires.classes c.in_ok-nodes.ensures

pub returns-clause-new : goal.returns-clause-new
returns-clause-new c = new_is _ c.args.classes.now c.in_ok-nodes.ensures refl
