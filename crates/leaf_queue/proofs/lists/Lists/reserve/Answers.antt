use Rattle.std.proofs.Common.{◌≡◌, ◌∙◌, ap, subst, sym, List, replicate, rules}
use Rattle.leaf_queue.specs.declared.node.Row.{Row}
use Rattle.leaf_queue.specs.Linked.{IsLinked, empty_row}
use Rattle.leaf_queue.proofs.Rows.{linked_none, lists_none}
use Rattle.leaf_queue.proofs.lists.Lists.reserve.Goals as goal

pub invariant_of-result : goal.invariant_of-result
invariant_of-result c =
    let rows : c.in_ok-rows.rows.items ≡ replicate c.args.classes empty_row =
    c.in_ok-rows.ensures.items_if_clones_equal (λ y h. search rules) ∙ ap (replicate c.args.classes) c.idle_row.ensures in
    let P : List Row → Type 0 = λ rs. IsLinked c.in_ok-nodes.nodes rs c.args.n in
    subst P (sym rows) (linked_none c.in_ok-nodes.nodes c.args.classes c.args.n c.in_ok-nodes.ensures.empty c.in_ok-nodes.ensures.room c.in_ok-nodes.ensures.small)

pub returns-clause-empty : goal.returns-clause-empty
returns-clause-empty c =
    let rows : c.in_ok-rows.rows.items ≡ replicate c.args.classes empty_row =
    c.in_ok-rows.ensures.items_if_clones_equal (λ y h. search rules) ∙ ap (replicate c.args.classes) c.idle_row.ensures in
    simp (rows, lists_none)
