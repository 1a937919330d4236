use Rattle.std.proofs.Common.{ap, sym, arith, ◌∙◌}
use Rattle.hfsc_groups.specs.Node.{parent_in}
use Rattle.hfsc_groups.proofs.Places.{get_read}
use Rattle.hfsc_share.specs.Walk.{start_below}
use Rattle.hfsc_share.proofs.Shares.start_of.Goals as goal

pub start_below-requires : goal.start_below-requires
start_below-requires c = λ p e.
    let at = get_read c.args.self.now.nodes.items c.args.class c.index-node.result.now c.requires c.index-node.ensures in
    let up = c.args.self.now.parents_first c.args.class p (ap parent_in at ∙ sym c.parent.ensures ∙ e) in
    let low = c.requires in
    omega arith

pub returns : goal.returns
returns c =
    let at = get_read c.args.self.now.nodes.items c.args.class c.index-node.result.now c.requires c.index-node.ensures in
    c.start_below.ensures ∙ ap (start_below c.args.self.now.nodes.items c.args.self.now.groups.items) (c.parent.ensures ∙ sym (ap parent_in at))
