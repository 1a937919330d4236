use Rattle.std.proofs.Common.{true, refl, ap, sym, subst, ◌∙◌}
use Rattle.std.specs.Prelude.{Option, slice_set}
use Rattle.runtime_curve.specs.declared.Running.{Running}
use Rattle.hfsc_groups.specs.Curves.{IsBy}
use Rattle.hfsc_groups.specs.Node.{active_in, parent_in}
use Rattle.hfsc_groups.proofs.Places.{get_read}
use Rattle.hfsc_groups.proofs.Held.{held_ranked, is_put, limits_put, may_change, parent_within, parents_put}
use Rattle.hfsc_share.specs.Walk.{start_below}
use Rattle.hfsc_share.proofs.Steps.{awake_by, stepped, set_active, wake_step, has_group, reopened_by}
use Rattle.hfsc_share.proofs.Shares.begin_in.Goals as goal

pub wake-requires : goal.wake-requires
wake-requires c =
    c.args.self.now.limits_by c.args.class c.index_mut-node.result.now
    (get_read c.args.self.now.nodes.items c.args.class c.index_mut-node.result.now c.requires c.index_mut-node.ensures.value)

pub rank-requires : goal.rank-requires
rank-requires c =
    let at = get_read c.args.self.now.nodes.items c.args.class c.index_mut-node.result.now c.requires c.index_mut-node.ensures.value in
    let put = is_put c.args.self.now.nodes.items c.args.class c.index_mut-node.result.now c.wake.new.self c.reopen.new.self c.requires at c.wake.ensures.parent c.wake.ensures.later c.reopen.ensures.parent c.reopen.ensures.time in
    record {
      low = λ p e. parent_within c.args.self.now.nodes.items c.args.self.now.groups.items c.args.class p c.requires c.args.self.now.parents_first c.args.self.now.groups_hold (sym put.parent ∙ e);
      may = λ p g e held. may_change c.args.self.now.nodes.items c.args.class p g c.is_active-was.result (sym put.parent ∙ e) (ap active_in at ∙ sym c.is_active-was.ensures)
          (c.args.self.now.groups_hold.each p g held);
    }

pub invariant_of-self : goal.invariant_of-self
invariant_of-self c =
    let at = get_read c.args.self.now.nodes.items c.args.class c.index_mut-node.result.now c.requires c.index_mut-node.ensures.value in
    let put = is_put c.args.self.now.nodes.items c.args.class c.index_mut-node.result.now c.wake.new.self c.reopen.new.self c.requires at c.wake.ensures.parent c.wake.ensures.later c.reopen.ensures.parent c.reopen.ensures.time in
    record {
      groups_hold = held_ranked c.args.self.now.nodes.items c.args.self.now.groups.items c.rank.new.groups.items c.args.class c.reopen.new.self put
          c.args.self.now.parents_first c.args.self.now.groups_hold c.rank.ensures;
      parents_first = parents_put c.args.self.now.nodes.items c.args.class c.reopen.new.self put c.args.self.now.parents_first;
      limits_by = limits_put c.args.self.now.woken c.args.self.now.nodes.items c.args.class c.reopen.new.self put
          (subst (λ (k : Option Running). IsBy c.args.self.now.woken k) (sym c.reopen.ensures.limit) c.wake.ensures.by)
          c.args.self.now.limits_by;
    }

pub returns-clause-walks : goal.returns-clause-walks
returns-clause-walks c =
    let at = get_read c.args.self.now.nodes.items c.args.class c.index_mut-node.result.now c.requires c.index_mut-node.ensures.value in
    λ cs h leaf len l w.
    wake_step cs h c.args.self.now.woken leaf len
    (record {
      nodes = c.args.self.now.nodes.items;
      groups = c.args.self.now.groups.items;
      class = c.args.class;
      before = c.index_mut-node.result.now;
      after = c.wake.new.self;
      opened = c.reopen.new.self;
    })
    c.parent.result l w
    (record {
      taking = record {
        holds = c.args.self.now.groups_hold;
        within = c.requires;
        at = at;
        reopened = reopened_by c.args.self.now.woken c.args.class c.args.self.now.groups.items c.index.result.now c.wake.new.self c.reopen.new.self
            (has_group c.args.self.now.nodes.items c.args.self.now.groups.items c.args.class c.args.self.now.groups_hold c.requires) c.index.ensures c.reopen.ensures;
      };
      awake = awake_by c.args.self.now.woken c.start_of-start.result _ c.index_mut-node.result.now c.wake.new.self
          (λ a. c.start_of-start.ensures ∙ ap (start_below c.args.self.now.nodes.items c.args.self.now.groups.items) (ap parent_in at))
          c.wake.ensures;
    })
    (c.parent.ensures ∙ c.reopen.ensures.parent ∙ c.wake.ensures.parent)

pub returns-clause-step : goal.returns-clause-step
returns-clause-step c =
    let at = get_read c.args.self.now.nodes.items c.args.class c.index_mut-node.result.now c.requires c.index_mut-node.ensures.value in
    let put = is_put c.args.self.now.nodes.items c.args.class c.index_mut-node.result.now c.wake.new.self c.reopen.new.self c.requires at c.wake.ensures.parent c.wake.ensures.later c.reopen.ensures.parent c.reopen.ensures.time in
    stepped c.args.self.now.nodes.items (slice_set c.args.self.now.nodes.items c.args.class c.reopen.new.self) c.args.class c.reopen.new.self c.requires put.parent refl

pub returns-clause-active : goal.returns-clause-active
returns-clause-active c =
    set_active c.args.self.now.nodes.items (slice_set c.args.self.now.nodes.items c.args.class c.reopen.new.self) c.args.class c.reopen.new.self true c.requires refl
    (c.reopen.ensures.active ∙ c.wake.ensures.active)

pub returns-clause-parent : goal.returns-clause-parent
returns-clause-parent c = λ p e.
    let at = get_read c.args.self.now.nodes.items c.args.class c.index_mut-node.result.now c.requires c.index_mut-node.ensures.value in
    ap parent_in at ∙ sym (c.parent.ensures ∙ c.reopen.ensures.parent ∙ c.wake.ensures.parent) ∙ e
