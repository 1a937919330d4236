use Rattle.std.proofs.Common.{◌∷◌, ℕ, Bool, Some, true, subst, sym, ap, ◌∙◌}
use Rattle.std.specs.Prelude.{Option, ◌&&◌, not}
use Rattle.play_base.specs.Units.{units}
use Rattle.ranking.proofs.Ranks.{same_test}
use Rattle.hfsc_model.specs.Event.{Sent}
use Rattle.hfsc_groups.specs.Classes.{waits_in}
use Rattle.hfsc_share.specs.Walk.{IsOnWay, Walks}
use Rattle.hfsc_share.proofs.Steps.{leaf_that, not_here, on_first, on_next, service_begins, walk_ends}
use Rattle.hfsc_share.proofs.Shares.served.Goals as goal

pub loop-next-init : goal.loop-next-init
loop-next-init c = record {
  walks = λ cs h real start stands waits small.
      c.serve_class-next.ensures.walks cs h c.args.leaf c.args.len real start
      (leaf_that c.args.self.now cs h c.args.leaf true stands c.requires.class c.requires.leaf c.requires.waits)
      (c.units-amount.ensures ∙ ap (λ n. units n) c.from.ensures)
      (sym (ap (λ (b : Bool). b && waits_in (Sent c.args.leaf c.args.len real start ∷ h) c.args.leaf) (same_test c.args.leaf) ∙ waits))
      (service_begins c.args.self.now cs h c.args.leaf c.args.len real start stands small);
  way = on_first c.args.leaf (not c.args.empty) c.serve_class-next.result c.args.self.now.nodes.items c.serve_class-next.new.self.nodes.items c.requires.class c.args.self.now.parents_first
      c.serve_class-next.ensures.step (c.serve_class-next.ensures.active c.requires.leaf ∙ ap (λ (b : Bool). b && not c.args.empty) c.requires.waits) (λ p e. sym c.serve_class-next.ensures.parent ∙ e);
  woken = c.serve_class-next.ensures.woken;
}

pub loop-next-preserved : goal.loop-next-preserved
loop-next-preserved c =
    let way : IsOnWay c.args.leaf (not c.args.empty) (Some c.in-Some.class) c.args.self.now.nodes.items c.loop-next.self.nodes.items
    = subst (λ (o : Option ℕ). IsOnWay c.args.leaf (not c.args.empty) o c.args.self.now.nodes.items c.loop-next.self.nodes.items) c.in-Some.is c.loop-next.invariant.way in
    record {
      walks = λ cs h real start stands waits small.
          subst (λ n. Walks cs h (Sent c.args.leaf c.args.len real start ∷ h) n c.args.leaf (Some c.in-Some.class) c.loop-next.self.nodes.items
          → Walks cs h (Sent c.args.leaf c.args.len real start ∷ h) n c.args.leaf c.serve_class-next-in-Some.result c.serve_class-next-in-Some.new.self.nodes.items) c.loop-next.invariant.woken
          (c.serve_class-next-in-Some.ensures.walks cs h c.args.leaf c.args.len real start
          (leaf_that c.args.self.now cs h c.args.leaf true stands c.requires.class c.requires.leaf c.requires.waits)
          (c.units-amount.ensures ∙ ap (λ n. units n) c.from.ensures)
          (not_here c.args.leaf c.in-Some.class (waits_in (Sent c.args.leaf c.args.len real start ∷ h) c.args.leaf) (not c.args.empty) c.args.self.now.nodes.items c.loop-next.self.nodes.items way c.requires.leaf))
          (subst (λ (o : Option ℕ). Walks cs h (Sent c.args.leaf c.args.len real start ∷ h) c.args.self.now.woken c.args.leaf o c.loop-next.self.nodes.items) c.in-Some.is
          (c.loop-next.invariant.walks cs h real start stands waits small));
      way = on_next c.args.leaf c.in-Some.class (not c.args.empty) c.serve_class-next-in-Some.result c.args.self.now.nodes.items c.loop-next.self.nodes.items c.serve_class-next-in-Some.new.self.nodes.items
          way c.requires.leaf c.loop-next.self.parents_first c.serve_class-next-in-Some.ensures.step (λ p e. sym c.serve_class-next-in-Some.ensures.parent ∙ e);
      woken = c.serve_class-next-in-Some.ensures.woken ∙ c.loop-next.invariant.woken;
    }

pub returns-clause-stands : goal.returns-clause-stands
returns-clause-stands c = λ cs h real start stands waits small.
    walk_ends c.loop-next.self cs h (Sent c.args.leaf c.args.len real start ∷ h) c.args.self.now.woken c.args.leaf
    (subst (λ (o : Option ℕ). Walks cs h (Sent c.args.leaf c.args.len real start ∷ h) c.args.self.now.woken c.args.leaf o c.loop-next.self.nodes.items) c.in_default.is
    (c.loop-next.invariant.walks cs h real start stands waits small))
    c.loop-next.invariant.woken
