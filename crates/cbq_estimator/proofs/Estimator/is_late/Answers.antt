-- A packet that ends late enough.
use Rattle.std.proofs.Common.{◌≡◌, ◌≤◌, ◌+◌, ◌∙◌, ℕ, ap, arith, unwrap_or}
use Rattle.std.specs.Prelude.{◌-◌, ◌*◌, nat_le}
use Rattle.play_base.specs.Units.{units}
use Rattle.cbq_estimator.specs.Estimate.{Estimate}
use Rattle.cbq_estimator.specs.Starts.{enough}
use Rattle.cbq_estimator.proofs.Starting.{units_late}
use Rattle.cbq_estimator.proofs.Estimator.is_late.Goals as goal

pub returns-then-end-least : goal.returns-then-end-least
returns-then-end-least c =
    let e : Estimate = c.args.self.now in
    let from : c.earliest-least.result ≡ unwrap_or e.last 0 + enough e.average = c.earliest-least.ensures.value in
    let rate : ℕ = c.self.inside.rate in
    let same : rate ≡ e.pace.rate = ap (λ (x : Estimate). x.pace.rate) c.self.view_is in
    let less : c.earliest-least.result ≤ c.args.end = omega (arith, c.if-end-least.true) in
    let amount : c.from.result * c.from-2.result ≡ units c.args.len =
    ap (λ (n : ℕ). n * c.from-2.result) c.from.ensures ∙ ap (λ (n : ℕ). c.args.len * n) c.from-2.ensures ∙ omega arith in
    let most : c.from-then-end-least.result * c.from-then-end-least-2.result ≡ (c.args.end - (unwrap_or e.last 0 + enough e.average)) * e.pace.rate =
    ap (λ (n : ℕ). n * c.from-then-end-least-2.result) c.from-then-end-least.ensures
    ∙ ap (λ (n : ℕ). (c.args.end - c.earliest-least.result) * n) (c.from-then-end-least-2.ensures ∙ same)
    ∙ ap (λ (n : ℕ). (c.args.end - n) * e.pace.rate) from in
    ap (λ (n : ℕ). nat_le n (c.from-then-end-least.result * c.from-then-end-least-2.result)) amount
    ∙ ap (λ (n : ℕ). nat_le (units c.args.len) n) most
    ∙ units_late c.args.end (unwrap_or e.last 0) (enough e.average) c.args.len e.pace.rate (omega (arith, same, c.self.invariant.least_rate)) (omega (arith, less, from))
