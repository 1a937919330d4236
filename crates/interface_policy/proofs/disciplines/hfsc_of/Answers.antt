use Rattle.std.proofs.Common.{◌≤◌, ◌∙◌, List, sym, subst, ap}
use Rattle.std.specs.Prelude.{All}
use Rattle.conf_tree.specs.declared.class.Class.{Class}
use Rattle.hfsc_core.specs.Chooser.{MayBuild}
use Rattle.interface_policy.specs.Classes.{hfsc_classes}
use Rattle.interface_policy.proofs.Numbers.{limits_allowed}
use Rattle.interface_policy.proofs.Trees.{may_build}
use Rattle.interface_policy.proofs.disciplines.hfsc_of.Goals as goal

pub queues_of-requires-clause-limits : goal.queues_of-requires-clause-limits
queues_of-requires-clause-limits c =
    subst (λ (classes : List Class). All (λ (x : Class). (1 ≤ x.limit) × (x.limit ≤ 10000)) classes) (sym c.as_slice-2.ensures) (limits_allowed c.args.interface.now c.requires.fit)

pub build-requires-clause-classes : goal.build-requires-clause-classes
build-requires-clause-classes c =
    subst MayBuild (sym (c.as_slice-3.ensures.value ∙ c.in_ok-classes.ensures ∙ ap hfsc_classes c.as_slice.ensures)) (may_build c.args.interface.now c.requires.fit c.requires.kind)
