use Rattle.std.proofs.Common.{◌≡◌, ℕ, ◌≤◌, ◌-◌, ◌^◌, ◌∙◌, ap, arith}
use Rattle.std.proofs.lemmas.Nat.Bits.{ones_shl}
use Rattle.flow_filter.proofs.entry.first_ones.Goals as goal

pub returns-else-bits-eq0 : goal.returns-else-bits-eq0
returns-else-bits-eq0 c =
    let few : 128 - c.min.result ≤ 128 = omega arith in
    let same : 128 - c.min.result ≡ 128 - c.args.bits = omega (arith, c.min.ensures) in
    ones_shl 128 (128 - c.min.result) few ∙ ap (λ (k : ℕ). 2 ^ 128 - 2 ^ k) same
