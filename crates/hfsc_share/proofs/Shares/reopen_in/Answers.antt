use Rattle.std.proofs.Common.{◌≡◌, ◌∷◌, ℕ, Bool, List, true, false, None, Some, eqb, refl, ap, sym, subst, arith, ◌∙◌}
use Rattle.std.proofs.lemmas.Bool.Decides.{nat_tests}
use Rattle.std.specs.Option.{option_eq}
use Rattle.std.specs.Prelude.{Option, slice_get, slice_set, if◌then◌else◌}
use Rattle.runtime_curve.specs.declared.Running.{Running}
use Rattle.hfsc_groups.specs.Curves.{IsBy}
use Rattle.hfsc_groups.specs.Node.{active_in, parent_in}
use Rattle.hfsc_model.specs.declared.HfscClass.{HfscClass}
use Rattle.hfsc_model.specs.Event.{HfscHistory, Enqueued}
use Rattle.hfsc_groups.proofs.Places.{get_read}
use Rattle.hfsc_groups.proofs.Held.{held_ranked, is_put, limits_put, may_change, parent_within, parents_put}
use Rattle.hfsc_groups.specs.declared.node.Node.{Node}
use Rattle.hfsc_groups.proofs.Staying.{same_ranked}
use Rattle.hfsc_share.specs.Walk.{IsLeafThat, Walks}
use Rattle.hfsc_share.proofs.Steps.{Taking, IsTaking, active_awake, stepped, set_active, wake_step, has_group, reopened_by}
use Rattle.hfsc_share.proofs.Stopping.{stops}
use Rattle.hfsc_share.proofs.Shares.reopen_in.Goals as goal

pub rank_unless-requires-clause-change : goal.rank_unless-requires-clause-change
rank_unless-requires-clause-change c =
    let x = c.index_mut-node.result.now in
    let at = get_read c.args.self.now.nodes.items c.args.class x c.requires.class c.index_mut-node.ensures.value in
    let put = is_put c.args.self.now.nodes.items c.args.class x x c.reopen.new.self c.requires.class at refl (omega arith) c.reopen.ensures.parent c.reopen.ensures.time in
    record {
      low = λ p e. parent_within c.args.self.now.nodes.items c.args.self.now.groups.items c.args.class p c.requires.class c.args.self.now.parents_first c.args.self.now.groups_hold (sym put.parent ∙ e);
      may = λ p g e held. may_change c.args.self.now.nodes.items c.args.class p g true (sym put.parent ∙ e) c.requires.active (c.args.self.now.groups_hold.each p g held);
    }

equal : (a b : Option ℕ) → option_eq eqb a b ≡ true → a ≡ b
equal None None e = refl
equal None (Some y) e = absurd cc
equal (Some x) None e = absurd cc
equal (Some x) (Some y) e = let same : x ≡ y = grind (arith, nat_tests, e) in ap (λ n. Some n) same

pub rank_unless-requires-clause-same : goal.rank_unless-requires-clause-same
rank_unless-requires-clause-same c = λ e.
    let x = c.index_mut-node.result.now in
    let at = get_read c.args.self.now.nodes.items c.args.class x c.requires.class c.index_mut-node.ensures.value in
    let was : x.active ≡ true = sym (ap active_in at) ∙ c.requires.active in
    same_ranked c.args.self.now.nodes.items c.args.self.now.groups.items c.args.class x c.reopen.new.self at c.args.self.now.groups_hold
    (λ p f. parent_within c.args.self.now.nodes.items c.args.self.now.groups.items c.args.class p c.requires.class c.args.self.now.parents_first c.args.self.now.groups_hold (ap parent_in at ∙ f))
    was
    (record {
      parent = c.reopen.ensures.parent;
      active = c.reopen.ensures.active;
      time = c.reopen.ensures.time;
      opens = sym c.opens.ensures ∙ equal c.opens.result c.opens-opens.result (sym c.eq-same.ensures ∙ e) ∙ c.opens-opens.ensures;
    })

pub invariant_of-self : goal.invariant_of-self
invariant_of-self c =
    let x = c.index_mut-node.result.now in
    let at = get_read c.args.self.now.nodes.items c.args.class x c.requires.class c.index_mut-node.ensures.value in
    let put = is_put c.args.self.now.nodes.items c.args.class x x c.reopen.new.self c.requires.class at refl (omega arith) c.reopen.ensures.parent c.reopen.ensures.time in
    record {
      groups_hold = held_ranked c.args.self.now.nodes.items c.args.self.now.groups.items c.rank_unless.new.groups.items c.args.class c.reopen.new.self put
          c.args.self.now.parents_first c.args.self.now.groups_hold c.rank_unless.ensures;
      parents_first = parents_put c.args.self.now.nodes.items c.args.class c.reopen.new.self put c.args.self.now.parents_first;
      limits_by = limits_put c.args.self.now.woken c.args.self.now.nodes.items c.args.class c.reopen.new.self put
          (subst (λ (k : Option Running). IsBy c.args.self.now.woken k) (sym c.reopen.ensures.limit) (c.args.self.now.limits_by c.args.class x at))
          c.args.self.now.limits_by;
    }

pub returns-clause-walks : goal.returns-clause-walks
returns-clause-walks c = λ cs h leaf len l w.
    subst (λ (o : Option ℕ). Walks cs h (Enqueued leaf c.args.self.now.woken len ∷ h) c.args.self.now.woken leaf o (slice_set c.args.self.now.nodes.items c.args.class c.reopen.new.self))
    (sym c.parent_unless.ensures)
    (went cs h leaf len l w c.eq-same.result refl)
  where
    x : Node
    x = c.index_mut-node.result.now

    at : slice_get c.args.self.now.nodes.items c.args.class ≡ Some x
    at = get_read c.args.self.now.nodes.items c.args.class x c.requires.class c.index_mut-node.ensures.value

    was : x.active ≡ true
    was = sym (ap active_in at) ∙ c.requires.active

    t : Taking
    t = record {
      nodes = c.args.self.now.nodes.items;
      groups = c.args.self.now.groups.items;
      class = c.args.class;
      before = x;
      after = x;
      opened = c.reopen.new.self;
    }

    taking : IsTaking c.args.self.now.woken t
    taking = record {
      holds = c.args.self.now.groups_hold;
      within = c.requires.class;
      at = at;
      reopened = reopened_by c.args.self.now.woken c.args.class c.args.self.now.groups.items c.index.result.now x c.reopen.new.self
          (has_group c.args.self.now.nodes.items c.args.self.now.groups.items c.args.class c.args.self.now.groups_hold c.requires.class) c.index.ensures c.reopen.ensures;
    }

    stepped_up : (cs : List HfscClass) (h : HfscHistory) (leaf len : ℕ) → IsLeafThat cs h leaf false
        → Walks cs h (Enqueued leaf c.args.self.now.woken len ∷ h) c.args.self.now.woken leaf (Some c.args.class) c.args.self.now.nodes.items
        → Walks cs h (Enqueued leaf c.args.self.now.woken len ∷ h) c.args.self.now.woken leaf x.parent (slice_set c.args.self.now.nodes.items c.args.class c.reopen.new.self)
    stepped_up cs h leaf len l w =
        wake_step cs h c.args.self.now.woken leaf len t x.parent l w
        (record { taking = taking; awake = active_awake c.args.self.now.woken _ x was (c.args.self.now.limits_by c.args.class x at) }) refl

    went : (cs : List HfscClass) (h : HfscHistory) (leaf len : ℕ) → IsLeafThat cs h leaf false
        → Walks cs h (Enqueued leaf c.args.self.now.woken len ∷ h) c.args.self.now.woken leaf (Some c.args.class) c.args.self.now.nodes.items
        → (b : Bool) → c.eq-same.result ≡ b
        → Walks cs h (Enqueued leaf c.args.self.now.woken len ∷ h) c.args.self.now.woken leaf (if b then None else c.reopen.new.self.parent)
        (slice_set c.args.self.now.nodes.items c.args.class c.reopen.new.self)
    went cs h leaf len l w false e =
        subst (λ (o : Option ℕ). Walks cs h (Enqueued leaf c.args.self.now.woken len ∷ h) c.args.self.now.woken leaf o (slice_set c.args.self.now.nodes.items c.args.class c.reopen.new.self))
        (sym c.reopen.ensures.parent) (stepped_up cs h leaf len l w)
    went cs h leaf len l w true e =
        stops (record { classes = cs; history = h; leaf = leaf; at = c.args.self.now.woken; len = len }) c.args.self.now.woken t l
        (record {
          taking = taking;
          was = was;
          is = c.reopen.ensures.active ∙ was;
          opens = sym c.opens.ensures ∙ equal c.opens.result c.opens-opens.result (sym c.eq-same.ensures ∙ e) ∙ c.opens-opens.ensures;
        })
        w (stepped_up cs h leaf len l w)

pub returns-clause-step : goal.returns-clause-step
returns-clause-step c =
    let x = c.index_mut-node.result.now in
    let at = get_read c.args.self.now.nodes.items c.args.class x c.requires.class c.index_mut-node.ensures.value in
    let put = is_put c.args.self.now.nodes.items c.args.class x x c.reopen.new.self c.requires.class at refl (omega arith) c.reopen.ensures.parent c.reopen.ensures.time in
    stepped c.args.self.now.nodes.items (slice_set c.args.self.now.nodes.items c.args.class c.reopen.new.self) c.args.class c.reopen.new.self c.requires.class put.parent refl

pub returns-clause-active : goal.returns-clause-active
returns-clause-active c =
    let at = get_read c.args.self.now.nodes.items c.args.class c.index_mut-node.result.now c.requires.class c.index_mut-node.ensures.value in
    set_active c.args.self.now.nodes.items (slice_set c.args.self.now.nodes.items c.args.class c.reopen.new.self) c.args.class c.reopen.new.self true c.requires.class refl
    (c.reopen.ensures.active ∙ sym (ap active_in at) ∙ c.requires.active)

pub returns-clause-parent : goal.returns-clause-parent
returns-clause-parent c = λ p e.
    up c.eq-same.result p (sym c.parent_unless.ensures ∙ e)
  where
    up : (b : Bool) (p : ℕ) → (if b then None else c.reopen.new.self.parent) ≡ Some p → parent_in (slice_get c.args.self.now.nodes.items c.args.class) ≡ Some p
    up true p e = absurd cc
    up false p e =
        let at = get_read c.args.self.now.nodes.items c.args.class c.index_mut-node.result.now c.requires.class c.index_mut-node.ensures.value in
        ap parent_in at ∙ sym c.reopen.ensures.parent ∙ e
