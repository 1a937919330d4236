use Rattle.std.proofs.Common.{◌≤◌, ◌∙◌, List, sym, subst, ap}
use Rattle.std.specs.Prelude.{All}
use Rattle.conf_tree.specs.declared.class.Class.{Class}
use Rattle.cbq_model.specs.declared.CbqClass.{CbqClass}
use Rattle.cbq_model.specs.Ways.{IsEightDeep}
use Rattle.cbq_sharing.specs.Fresh.{IsClass}
use Rattle.interface_policy.specs.Classes.{cbq_classes}
use Rattle.interface_policy.proofs.EightDeep.{eight_deep}
use Rattle.interface_policy.proofs.Numbers.{are_cbq_classes, limits_allowed}
use Rattle.interface_policy.proofs.disciplines.cbq_of.Goals as goal

pub queues_of-requires-clause-limits : goal.queues_of-requires-clause-limits
queues_of-requires-clause-limits c =
    subst (λ (classes : List Class). All (λ (x : Class). (1 ≤ x.limit) × (x.limit ≤ 10000)) classes) (sym c.as_slice-2.ensures) (limits_allowed c.args.interface.now c.requires.fit)

pub build-requires-clause-tree : goal.build-requires-clause-tree
build-requires-clause-tree c =
    subst IsEightDeep (sym (c.as_slice-3.ensures.value ∙ c.in_ok-classes.ensures ∙ ap cbq_classes c.as_slice.ensures)) (eight_deep c.args.interface.now c.requires.fit)

pub build-requires-clause-classes : goal.build-requires-clause-classes
build-requires-clause-classes c =
    subst (λ (classes : List CbqClass). All IsClass classes) (sym (c.as_slice-3.ensures.value ∙ c.in_ok-classes.ensures ∙ ap cbq_classes c.as_slice.ensures)) (are_cbq_classes c.args.interface.now c.requires.fit c.requires.kind)
