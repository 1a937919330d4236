use Rattle.hfsc_share.proofs.Picks.{order_is, stands_stand}
use Rattle.std.proofs.Common.{ℕ, None, Some, List, [], sym, ap, subst, arith, ◌∙◌}
use Rattle.std.specs.Prelude.{Option, ◌&&◌}
use Rattle.ranking.specs.Order.{IsOrderOf}
use Rattle.hfsc_model.specs.Tree.{is_child}
use Rattle.hfsc_model.specs.Share.{active, virtual_time}
use Rattle.hfsc_groups.specs.declared.group.Group.{Group}
use Rattle.hfsc_groups.specs.Group.{ranked_in}
use Rattle.hfsc_groups.proofs.Places.{get_read}
use Rattle.hfsc_share.proofs.Shares.ranked.Goals as goal

pub returns-clause-order : goal.returns-clause-order
returns-clause-order c = λ cs h stands.
    let low = c.requires in
    let count = c.args.self.now.groups_hold.count in
    let at = get_read c.args.self.now.groups.items c.args.parent c.index.result.now (omega arith) c.index.ensures in
    subst (λ (xs : List ℕ). IsOrderOf (λ d. Some (virtual_time cs h d)) (λ d. is_child cs c.args.parent d && active cs h d) xs) (sym c.ranked.ensures)
    (order_is cs h c.args.self.now.woken c.args.parent c.args.self.now.nodes.items c.index.result.now (stands_stand c.args.self.now cs h c.args.parent stands)
    (c.args.self.now.groups_hold.each c.args.parent c.index.result.now at))

pub returns-clause-is : goal.returns-clause-is
returns-clause-is c =
    let low = c.requires in
    let count = c.args.self.now.groups_hold.count in
    let at = get_read c.args.self.now.groups.items c.args.parent c.index.result.now (omega arith) c.index.ensures in
    c.ranked.ensures ∙ sym (ap (λ (o : Option Group). elim o [ None ↦ [] | Some g ↦ ranked_in g ]) at)
