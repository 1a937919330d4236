use Rattle.std.proofs.Common.{◌<◌, ◌+◌, sym, arith, ◌∙◌}
use Rattle.std.specs.Prelude.{◌-◌}
use Rattle.hfsc_groups.proofs.Places.{get_read}
use Rattle.hfsc_share.proofs.Picks.{has_keys, first_low, down_more, down_none}
use Rattle.hfsc_share.proofs.Shares.leaf_below.Goals as goal

pub first_open-requires : goal.first_open-requires
first_open-requires c =
    let low = c.loop.invariant.low in
    let count = c.args.self.now.groups_hold.count in
    let at = get_read c.args.self.now.groups.items c.loop.class c.index.result.now (omega arith) c.index.ensures in
    has_keys c.args.self.now.nodes.items c.loop.class c.index.result.now (c.args.self.now.groups_hold.each c.loop.class c.index.result.now at)

pub returns-in-None : goal.returns-in-None
returns-in-None c =
    let low = c.loop.invariant.low in
    let count = c.args.self.now.groups_hold.count in
    let at = get_read c.args.self.now.groups.items c.loop.class c.index.result.now (omega arith) c.index.ensures in
    sym (down_none c.args.self.now.groups.items c.index.result.now c.args.now c.loop.class (8 - c.loop.counter) at (sym c.first_open.ensures ∙ c.in-None.is)) ∙ c.loop.invariant.way

pub loop-preserved : goal.loop-preserved
loop-preserved c =
    let low = c.loop.invariant.low in
    let count = c.args.self.now.groups_hold.count in
    let at = get_read c.args.self.now.groups.items c.loop.class c.index.result.now (omega arith) c.index.ensures in
    let found = sym c.first_open.ensures ∙ c.in-Some.is in
    let more : c.loop.counter < 8 = c.loop-test.true in
    record {
      low = first_low c.args.self.now.nodes.items c.loop.class c.args.now c.in-Some.child c.index.result.now (c.args.self.now.groups_hold.each c.loop.class c.index.result.now at) found;
      way = sym (down_more c.args.self.now.groups.items c.index.result.now c.args.now c.loop.class c.in-Some.child (8 - (c.loop.counter + 1)) (8 - c.loop.counter) at found (omega arith))
          ∙ c.loop.invariant.way;
    }
