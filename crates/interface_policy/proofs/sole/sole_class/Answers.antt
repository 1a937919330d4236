use Rattle.std.proofs.Common.{List, sym, subst}
use Rattle.std.specs.Prelude.{All, IfSome}
use Rattle.conf_tree.specs.declared.class.Class.{Class}
use Rattle.hfsc_order.specs.Queue.{IsOneQueue}
use Rattle.interface_policy.specs.Classes.{hfsc_classes}
use Rattle.interface_policy.specs.Sole.{OnlyShares}
use Rattle.interface_policy.proofs.Leaves.{only_share, sole_is_one}
use Rattle.interface_policy.proofs.sole.sole_class.Goals as goal

pub returns-then-not-all_only_share-clause-none : goal.returns-then-not-all_only_share-clause-none
returns-then-not-all_only_share-clause-none c = λ l q.
    let all = subst (λ (classes : List Class). All OnlyShares classes) (sym c.as_slice-classes.ensures) (only_share c.args.interface.now.classes q.no_limits q.no_real_time) in
    let yes = c.all_only_share.ensures.1 all in
    let no = c.if-not-all_only_share.true in
    cc

pub returns-clause-sole : goal.returns-clause-sole
returns-clause-sole c =
    let all = c.all_only_share.ensures.0 c.if-not-all_only_share.false in
    subst (λ (classes : List Class). IfSome c.sole_leaf.result (IsOneQueue (hfsc_classes classes))) c.as_slice-classes.ensures
    (sole_is_one c.as_slice-classes.result.now c.sole_leaf.result all c.sole_leaf.ensures.sole)
