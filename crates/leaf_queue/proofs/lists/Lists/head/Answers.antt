use Rattle.std.proofs.Common.{◌∙◌, ◌-◌, ap, arith}
use Rattle.leaf_queue.specs.Lists.{Listed}
use Rattle.leaf_queue.proofs.Rows.{found, no_head, head_is}
use Rattle.leaf_queue.proofs.lists.Lists.head.Goals as goal

pub returns-then-row-eq0 : goal.returns-then-row-eq0
returns-then-row-eq0 c =
    let lists = ap (λ (v : Listed). v.lists) c.self.view_is in
    no_head c.self.inside.nodes c.self.inside.rows.items c.args.self.now.lists c.args.class c.index-row.result.now lists
    (found c.self.inside.nodes c.self.inside.rows.items c.args.self.now.lists c.args.class c.index-row.result.now lists c.requires c.index-row.ensures)
    (omega arith)

pub returns : goal.returns
returns c =
    let lists = ap (λ (v : Listed). v.lists) c.self.view_is in
    let k = c.index-row.result.now.waiting.all - 1 in
    c.entry_in.ensures ∙ head_is c.self.inside.nodes c.self.inside.rows.items c.args.self.now.lists c.self.inside.room c.args.class c.index-row.result.now k lists
    c.self.invariant
    (found c.self.inside.nodes c.self.inside.rows.items c.args.self.now.lists c.args.class c.index-row.result.now lists c.requires c.index-row.ensures)
    (omega arith)
