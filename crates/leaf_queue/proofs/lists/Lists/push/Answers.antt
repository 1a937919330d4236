use Rattle.std.proofs.Common.{◌<◌, ◌^◌, ap, arith}
use Rattle.leaf_queue.specs.Lists.{Listed}
use Rattle.leaf_queue.proofs.Rows.{at_row, row_last, row_room, row_counted, pushed_linked, pushed_lists}
use Rattle.leaf_queue.proofs.lists.Lists.push.Goals as goal

pub insert_reserved-requires : goal.insert_reserved-requires
insert_reserved-requires c =
    let row = at_row c.self.inside.nodes c.self.inside.rows.items c.args.self.now.lists c.self.inside.room c.args.class c.index.result.now
    (ap (λ (v : Listed). v.lists) c.self.view_is) c.self.invariant c.requires.class c.index.ensures in
    (row_room _ row (omega (arith, ap (λ (v : Listed). v.room) c.self.view_is))).0

pub link-requires : goal.link-requires
link-requires c =
    let row = at_row c.self.inside.nodes c.self.inside.rows.items c.args.self.now.lists c.self.inside.room c.args.class c.index.result.now
    (ap (λ (v : Listed). v.lists) c.self.view_is) c.self.invariant c.requires.class c.index.ensures in
    λ some. row_last _ _ _ _ row some c.insert_reserved.ensures.was_vacant c.insert_reserved.ensures.updates

pub appended-requires-clause-counted : goal.appended-requires-clause-counted
appended-requires-clause-counted c =
    let row = at_row c.self.inside.nodes c.self.inside.rows.items c.args.self.now.lists c.self.inside.room c.args.class c.index.result.now
    (ap (λ (v : Listed). v.lists) c.self.view_is) c.self.invariant c.requires.class c.index.ensures in
    row_counted _ row

pub appended-requires-clause-room : goal.appended-requires-clause-room
appended-requires-clause-room c =
    let row = at_row c.self.inside.nodes c.self.inside.rows.items c.args.self.now.lists c.self.inside.room c.args.class c.index.result.now
    (ap (λ (v : Listed). v.lists) c.self.view_is) c.self.invariant c.requires.class c.index.ensures in
    let room = ap (λ (v : Listed). v.room) c.self.view_is in
    let small : c.self.inside.room < 2 ^ 32 = omega (arith, c.self.invariant.there, c.self.invariant.small) in
    omega (arith, (row_room _ row (omega (arith, room))).1)

pub invariant_of-self : goal.invariant_of-self
invariant_of-self c =
    let row = at_row c.self.inside.nodes c.self.inside.rows.items c.args.self.now.lists c.self.inside.room c.args.class c.index.result.now
    (ap (λ (v : Listed). v.lists) c.self.view_is) c.self.invariant c.requires.class c.index.ensures in
    pushed_linked _ _ _ _ _ _ row c.insert_reserved.ensures.was_vacant c.insert_reserved.ensures.updates
    c.insert_reserved.ensures.len c.insert_reserved.ensures.capacity c.link.ensures c.appended.ensures

pub returns-clause-lists : goal.returns-clause-lists
returns-clause-lists c =
    let row = at_row c.self.inside.nodes c.self.inside.rows.items c.args.self.now.lists c.self.inside.room c.args.class c.index.result.now
    (ap (λ (v : Listed). v.lists) c.self.view_is) c.self.invariant c.requires.class c.index.ensures in
    pushed_lists _ _ _ _ _ _ row c.insert_reserved.ensures.was_vacant c.insert_reserved.ensures.updates
    c.insert_reserved.ensures.len c.insert_reserved.ensures.capacity c.link.ensures c.appended.ensures
