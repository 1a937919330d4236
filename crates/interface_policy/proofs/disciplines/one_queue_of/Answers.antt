use Rattle.std.proofs.Common.{◌≡◌, ◌≤◌, ◌∙◌, ◌∷◌, [], List, length, map, ap, arith, sym, subst}
use Rattle.std.specs.Prelude.{All, IfOk}
use Rattle.altq_model.specs.declared.Rule.TheVariants.{Share}
use Rattle.altq_model.specs.Play.{Policy}
use Rattle.altq_model.specs.Policies.{strict}
use Rattle.class_rows.specs.Rows.{answering}
use Rattle.conf_tree.specs.declared.class.Class.{Class}
use Rattle.conf_tree.specs.declared.interface.Kind.{Kind}
use Rattle.leaf_queue.specs.Queue.{Saying, by_queues}
use Rattle.rio_precedence.specs.Any.{says_of}
use Rattle.interface_policy.specs.Classes.{hfsc_classes}
use Rattle.interface_policy.specs.Policy.{answering_of, policy_by, queue_says}
use Rattle.interface_policy.proofs.Leaves.{sole_low}
use Rattle.interface_policy.proofs.Numbers.{limits_allowed}
use Rattle.interface_policy.proofs.Trees.{class_tree}
use Rattle.interface_policy.proofs.disciplines.one_queue_of.Goals as goal

pub queues_of-requires-clause-limits : goal.queues_of-requires-clause-limits
queues_of-requires-clause-limits c =
    subst (λ (classes : List Class). All (λ (x : Class). (1 ≤ x.limit) × (x.limit ≤ 10000)) classes) (sym c.as_slice.ensures) (limits_allowed c.args.interface.now c.requires.fit)

pub build-requires-clause-class : goal.build-requires-clause-class
build-requires-clause-class c =
    let low = sole_low c.args.interface.now.classes c.args.class c.requires.one in
    let count = c.in_ok-queues.ensures.count ∙ ap (λ (classes : List Class). length classes) c.as_slice.ensures in
    omega (arith, low, count)

pub returns-clause-policy : goal.returns-clause-policy
returns-clause-policy c =
    let i = c.args.interface.now in
    let says = c.in_ok-queues.ensures.says ∙ ap (λ (classes : List Class). map (queue_says i.rate) classes) c.as_slice.ensures in
    let queue = ap (λ (all : List Saying). strict (c.args.class ∷ []) Share (by_queues 0 all)) says in
    let hfsc = sym (c.one_leaf_is_one_queue.ensures (hfsc_classes i.classes) c.args.class (answering_of i) (class_tree i c.requires.fit c.requires.kind) c.requires.one) in
    let kind = sym (ap (λ (k : Kind). policy_by k i) c.requires.kind) in
    subst (λ (p : Policy). IfOk c.build.result (λ d. strict (d.class ∷ []) Share (answering says_of d.rows) ≡ p)) (queue ∙ hfsc ∙ kind) c.build.ensures.policy
