use Rattle.std.proofs.Common.{◌<◌, ◌-◌, ◌∙◌, ℕ, ap, arith, min, sym}
use Rattle.std.specs.declared.option.Option.{Option}
use Rattle.cbq_model.specs.Tree.{lenders_up}
use Rattle.cbq_sharing.specs.Shared.{Shared, least_with, own_now}
use Rattle.cbq_sharing.proofs.Places.{one_lender}
use Rattle.cbq_sharing.proofs.sharing.Shares.+least_start.Goals as goal

pub returns : goal.returns
returns t c =
    let d : Shared = c.args.self.now in
    let f : ℕ → ℕ = own_now d.tree d.estimates c.args.clock.now.rate c.args.clock.now.link c.args.now c.args.len in
    let some : 0 < c.args.levels = omega (arith, c.if-levels-eq0.false) in
    c.least_start.ensures
    ∙ ap (λ (n : ℕ). least_with f n (lenders_up (c.args.levels - 1) d.tree c.lender-next.result)) (c.min.ensures ∙ ap (λ (n : ℕ). min c.args.start n) c.own_start-own.ensures)
    ∙ ap (λ (o : Option ℕ). least_with f (min c.args.start (f c.in-Some.class)) (lenders_up (c.args.levels - 1) d.tree o)) c.lender-next.ensures.lender
    ∙ sym (one_lender f c.args.start c.args.levels c.in-Some.class d.tree some)
    ∙ ap (λ (o : Option ℕ). least_with f c.args.start (lenders_up c.args.levels d.tree o)) (sym c.in-Some.is)
