use Rattle.std.proofs.Common.{ap, arith}
use Rattle.std.specs.Prelude.{is_some}
use Rattle.leaf_queue.specs.Lists.{Listed}
use Rattle.leaf_queue.proofs.Rows.{at_row, found, no_head, row_head, popped_linked, popped_lists, popped_head, popped_counted}
use Rattle.leaf_queue.proofs.lists.Lists.pop.Goals as goal

pub returns-then-row-eq0-clause-head : goal.returns-then-row-eq0-clause-head
returns-then-row-eq0-clause-head c =
    let lists = ap (λ (v : Listed). v.lists) c.self.view_is in
    no_head c.self.inside.nodes c.self.inside.rows.items c.args.self.now.lists c.args.class c.index.result.now lists
    (found c.self.inside.nodes c.self.inside.rows.items c.args.self.now.lists c.args.class c.index.result.now lists c.requires c.index.ensures)
    (omega arith)

pub remove-node-requires : goal.remove-node-requires
remove-node-requires c =
    let row = at_row c.self.inside.nodes c.self.inside.rows.items c.args.self.now.lists c.self.inside.room c.args.class c.index.result.now
    (ap (λ (v : Listed). v.lists) c.self.view_is) c.self.invariant c.requires c.index.ensures in
    ap is_some (row_head _ c.index-2.result row c.if-row-eq0.false c.index-2.ensures)

pub without_first-requires-clause-best : goal.without_first-requires-clause-best
without_first-requires-clause-best c =
    let row = at_row c.self.inside.nodes c.self.inside.rows.items c.args.self.now.lists c.self.inside.room c.args.class c.index.result.now
    (ap (λ (v : Listed). v.lists) c.self.view_is) c.self.invariant c.requires c.index.ensures in
    (popped_counted _ _ c.index-2.result row c.if-row-eq0.false c.index-2.ensures c.remove-node.ensures.value).0

pub without_first-requires-clause-middle : goal.without_first-requires-clause-middle
without_first-requires-clause-middle c =
    let row = at_row c.self.inside.nodes c.self.inside.rows.items c.args.self.now.lists c.self.inside.room c.args.class c.index.result.now
    (ap (λ (v : Listed). v.lists) c.self.view_is) c.self.invariant c.requires c.index.ensures in
    (popped_counted _ _ c.index-2.result row c.if-row-eq0.false c.index-2.ensures c.remove-node.ensures.value).1

pub invariant_of-self : goal.invariant_of-self
invariant_of-self c =
    let row = at_row c.self.inside.nodes c.self.inside.rows.items c.args.self.now.lists c.self.inside.room c.args.class c.index.result.now
    (ap (λ (v : Listed). v.lists) c.self.view_is) c.self.invariant c.requires c.index.ensures in
    popped_linked _ _ _ _ _ row c.if-row-eq0.false c.index-2.ensures c.remove-node.ensures.value c.remove-node.ensures.updates
    c.remove-node.ensures.len c.remove-node.ensures.capacity c.without_first.ensures

pub returns-clause-head : goal.returns-clause-head
returns-clause-head c =
    let row = at_row c.self.inside.nodes c.self.inside.rows.items c.args.self.now.lists c.self.inside.room c.args.class c.index.result.now
    (ap (λ (v : Listed). v.lists) c.self.view_is) c.self.invariant c.requires c.index.ensures in
    popped_head _ _ _ row c.if-row-eq0.false c.index-2.ensures c.remove-node.ensures.value

pub returns-clause-lists : goal.returns-clause-lists
returns-clause-lists c =
    let row = at_row c.self.inside.nodes c.self.inside.rows.items c.args.self.now.lists c.self.inside.room c.args.class c.index.result.now
    (ap (λ (v : Listed). v.lists) c.self.view_is) c.self.invariant c.requires c.index.ensures in
    popped_lists _ _ _ _ _ row c.if-row-eq0.false c.index-2.ensures c.remove-node.ensures.value c.remove-node.ensures.updates
    c.without_first.ensures
