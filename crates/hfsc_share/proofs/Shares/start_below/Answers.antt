use Rattle.std.proofs.Common.{ℕ, ap, sym, ◌∙◌, arith}
use Rattle.std.specs.Prelude.{Option}
use Rattle.hfsc_groups.specs.declared.group.Group.{Group}
use Rattle.hfsc_groups.specs.Group.{time_key}
use Rattle.hfsc_groups.proofs.Places.{get_read}
use Rattle.hfsc_groups.proofs.Lists.{ranked_low}
use Rattle.hfsc_share.specs.Walk.{start_below, start_of}
use Rattle.hfsc_share.proofs.Shares.start_below.Goals as goal

pub start_in-requires : goal.start_in-requires
start_in-requires c = λ d i.
    let low = c.requires c.in-Some.parent c.in-Some.is in
    let count = c.args.self.now.groups_hold.count in
    let at = get_read c.args.self.now.groups.items c.in-Some.parent c.index.result.now (omega arith) c.index.ensures in
    let holds = c.args.self.now.groups_hold.each c.in-Some.parent c.index.result.now at in
    ranked_low c.args.self.now.nodes.items c.in-Some.parent d time_key c.index.result.now.times holds.times i

pub returns-in-Some : goal.returns-in-Some
returns-in-Some c =
    let low = c.requires c.in-Some.parent c.in-Some.is in
    let count = c.args.self.now.groups_hold.count in
    let at = get_read c.args.self.now.groups.items c.in-Some.parent c.index.result.now (omega arith) c.index.ensures in
    c.start_in.ensures
    ∙ sym (ap (λ (o : Option Group). start_of c.args.self.now.nodes.items o) at)
    ∙ sym (ap (λ (o : Option ℕ). start_below c.args.self.now.nodes.items c.args.self.now.groups.items o) c.in-Some.is)
