use Rattle.std.proofs.Common.{◌≡◌, Bool, true, false, refl, ap, sym, subst, ◌∙◌}
use Rattle.std.specs.Prelude.{Option, ◌||◌, ◌&&◌, slice_set}
use Rattle.runtime_curve.specs.declared.Running.{Running}
use Rattle.hfsc_groups.specs.declared.node.Node.{Node}
use Rattle.hfsc_groups.specs.Curves.{IsBy}
use Rattle.play_base.specs.Units.{units}
use Rattle.hfsc_groups.specs.Node.{active_in}
use Rattle.hfsc_groups.proofs.Places.{get_read}
use Rattle.hfsc_groups.proofs.Held.{held_ranked, is_put, limits_put, may_change, parent_within, parents_put}
use Rattle.hfsc_share.proofs.Steps.{stepped, set_active, serve_step, has_group, reopened_by, served_by, none_ranked}
use Rattle.hfsc_share.proofs.Shares.serve_class.Goals as goal

pub rank-requires : goal.rank-requires
rank-requires c =
    let at = get_read c.args.self.now.nodes.items c.args.class c.index_mut-node.result.now c.requires.class c.index_mut-node.ensures.value in
    let put = is_put c.args.self.now.nodes.items c.args.class c.index_mut-node.result.now c.serve.new.self c.reopen.new.self c.requires.class at c.serve.ensures.parent c.serve.ensures.later c.reopen.ensures.parent c.reopen.ensures.time in
    record {
      low = λ p e. parent_within c.args.self.now.nodes.items c.args.self.now.groups.items c.args.class p c.requires.class c.args.self.now.parents_first c.args.self.now.groups_hold (sym put.parent ∙ e);
      may = λ p g e held. may_change c.args.self.now.nodes.items c.args.class p g c.is_active-was.result (sym put.parent ∙ e) (ap active_in at ∙ sym c.is_active-was.ensures)
          (c.args.self.now.groups_hold.each p g held);
    }

pub invariant_of-self : goal.invariant_of-self
invariant_of-self c =
    let at = get_read c.args.self.now.nodes.items c.args.class c.index_mut-node.result.now c.requires.class c.index_mut-node.ensures.value in
    let put = is_put c.args.self.now.nodes.items c.args.class c.index_mut-node.result.now c.serve.new.self c.reopen.new.self c.requires.class at c.serve.ensures.parent c.serve.ensures.later c.reopen.ensures.parent c.reopen.ensures.time in
    record {
      groups_hold = held_ranked c.args.self.now.nodes.items c.args.self.now.groups.items c.rank.new.groups.items c.args.class c.reopen.new.self put
          c.args.self.now.parents_first c.args.self.now.groups_hold c.rank.ensures;
      parents_first = parents_put c.args.self.now.nodes.items c.args.class c.reopen.new.self put c.args.self.now.parents_first;
      limits_by = limits_put c.args.self.now.woken c.args.self.now.nodes.items c.args.class c.reopen.new.self put
          (subst (λ (k : Option Running). IsBy c.args.self.now.woken k) (sym (c.reopen.ensures.limit ∙ c.serve.ensures.limit))
          (c.args.self.now.limits_by c.args.class c.index_mut-node.result.now at))
          c.args.self.now.limits_by;
    }

pub returns-clause-walks : goal.returns-clause-walks
returns-clause-walks c =
    let at = get_read c.args.self.now.nodes.items c.args.class c.index_mut-node.result.now c.requires.class c.index_mut-node.ensures.value in
    λ cs h leaf len real start l e f w.
    serve_step cs h c.args.self.now.woken leaf len real start c.args.waits
    (record {
      nodes = c.args.self.now.nodes.items;
      groups = c.args.self.now.groups.items;
      class = c.args.class;
      before = c.index_mut-node.result.now;
      after = c.serve.new.self;
      opened = c.reopen.new.self;
    })
    c.parent.result l f w
    (record {
      taking = record {
        holds = c.args.self.now.groups_hold;
        within = c.requires.class;
        at = at;
        reopened = reopened_by c.args.self.now.woken c.args.class c.args.self.now.groups.items c.index.result.now c.serve.new.self c.reopen.new.self
            (has_group c.args.self.now.nodes.items c.args.self.now.groups.items c.args.class c.args.self.now.groups_hold c.requires.class) c.index.ensures c.reopen.ensures;
      };
      served = served_by c.args.amount (units len) c.waits_below-waits.result _ c.index_mut-node.result.now c.serve.new.self e c.waits_below-waits.ensures c.serve.ensures;
    })
    (c.parent.ensures ∙ c.reopen.ensures.parent ∙ c.serve.ensures.parent)

pub returns-clause-step : goal.returns-clause-step
returns-clause-step c =
    let at = get_read c.args.self.now.nodes.items c.args.class c.index_mut-node.result.now c.requires.class c.index_mut-node.ensures.value in
    let put = is_put c.args.self.now.nodes.items c.args.class c.index_mut-node.result.now c.serve.new.self c.reopen.new.self c.requires.class at c.serve.ensures.parent c.serve.ensures.later c.reopen.ensures.parent c.reopen.ensures.time in
    stepped c.args.self.now.nodes.items (slice_set c.args.self.now.nodes.items c.args.class c.reopen.new.self) c.args.class c.reopen.new.self c.requires.class put.parent refl

pub returns-clause-active : goal.returns-clause-active
returns-clause-active c =
    let at = get_read c.args.self.now.nodes.items c.args.class c.index_mut-node.result.now c.requires.class c.index_mut-node.ensures.value in
    λ l.
    let none = none_ranked c.args.self.now.nodes.items c.args.self.now.groups.items c.args.class c.args.self.now.groups_hold l in
    set_active c.args.self.now.nodes.items (slice_set c.args.self.now.nodes.items c.args.class c.reopen.new.self) c.args.class c.reopen.new.self _ c.requires.class refl
    (c.reopen.ensures.active ∙ c.serve.ensures.active
    ∙ ap (λ (b : Bool). c.index_mut-node.result.now.active && b) (c.waits_below-waits.ensures ∙ ap (λ (b : Bool). c.args.waits || b) none ∙ or_false c.args.waits)
    ∙ sym (ap (λ (o : Option Node). active_in o && c.args.waits) at))
  where
    or_false : (b : Bool) → (b || false) ≡ b
    or_false true = refl
    or_false false = refl

pub returns-clause-parent : goal.returns-clause-parent
returns-clause-parent c =
    let at = get_read c.args.self.now.nodes.items c.args.class c.index_mut-node.result.now c.requires.class c.index_mut-node.ensures.value in
    let put = is_put c.args.self.now.nodes.items c.args.class c.index_mut-node.result.now c.serve.new.self c.reopen.new.self c.requires.class at c.serve.ensures.parent c.serve.ensures.later c.reopen.ensures.parent c.reopen.ensures.time in
    c.parent.ensures ∙ put.parent
