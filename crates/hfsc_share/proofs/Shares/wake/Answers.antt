use Rattle.std.proofs.Common.{◌∷◌, ℕ, Some, true, false, subst, ◌∙◌}
use Rattle.std.specs.Prelude.{Option}
use Rattle.hfsc_model.specs.Event.{Enqueued}
use Rattle.hfsc_share.specs.Walk.{IsOnWay, Walks}
use Rattle.hfsc_share.proofs.Steps.{leaf_that, on_first, on_next, wake_begins, walk_ends}
use Rattle.hfsc_share.proofs.Shares.wake.Goals as goal

pub loop-next-init : goal.loop-next-init
loop-next-init c = record {
  walks = λ cs h len stands small.
      c.wake_class-next.ensures.walks cs h c.args.leaf len
      (leaf_that c.args.self.now cs h c.args.leaf false stands c.requires.class c.requires.leaf c.requires.idle)
      (wake_begins c.args.self.now cs h c.args.leaf c.args.at len stands c.requires.later small);
  way = on_first c.args.leaf true c.wake_class-next.result c.args.self.now.nodes.items c.wake_class-next.new.self.nodes.items c.requires.class c.args.self.now.parents_first
      c.wake_class-next.ensures.step c.wake_class-next.ensures.active c.wake_class-next.ensures.parent;
  woken = c.wake_class-next.ensures.woken;
}

pub loop-next-preserved : goal.loop-next-preserved
loop-next-preserved c = record {
  walks = λ cs h len stands small.
      subst (λ n. Walks cs h (Enqueued c.args.leaf n len ∷ h) n c.args.leaf (Some c.in-Some.class) c.loop-next.self.nodes.items
      → Walks cs h (Enqueued c.args.leaf n len ∷ h) n c.args.leaf c.wake_class-next-in-Some.result c.wake_class-next-in-Some.new.self.nodes.items) c.loop-next.invariant.woken
      (c.wake_class-next-in-Some.ensures.walks cs h c.args.leaf len
      (leaf_that c.args.self.now cs h c.args.leaf false stands c.requires.class c.requires.leaf c.requires.idle))
      (subst (λ (o : Option ℕ). Walks cs h (Enqueued c.args.leaf c.args.at len ∷ h) c.args.at c.args.leaf o c.loop-next.self.nodes.items) c.in-Some.is
      (c.loop-next.invariant.walks cs h len stands small));
  way = on_next c.args.leaf c.in-Some.class true c.wake_class-next-in-Some.result c.args.self.now.nodes.items c.loop-next.self.nodes.items c.wake_class-next-in-Some.new.self.nodes.items
      (subst (λ (o : Option ℕ). IsOnWay c.args.leaf true o c.args.self.now.nodes.items c.loop-next.self.nodes.items) c.in-Some.is c.loop-next.invariant.way)
      c.requires.leaf c.loop-next.self.parents_first c.wake_class-next-in-Some.ensures.step c.wake_class-next-in-Some.ensures.parent;
  woken = c.wake_class-next-in-Some.ensures.woken ∙ c.loop-next.invariant.woken;
}

pub returns-clause-stands : goal.returns-clause-stands
returns-clause-stands c = λ cs h len stands small.
    walk_ends c.loop-next.self cs h (Enqueued c.args.leaf c.args.at len ∷ h) c.args.at c.args.leaf
    (subst (λ (o : Option ℕ). Walks cs h (Enqueued c.args.leaf c.args.at len ∷ h) c.args.at c.args.leaf o c.loop-next.self.nodes.items) c.in_default.is
    (c.loop-next.invariant.walks cs h len stands small))
    c.loop-next.invariant.woken
