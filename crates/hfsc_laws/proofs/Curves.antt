-- How amounts of curves compare, and a quotient rounded up.
use Rattle.std.proofs.Common.{◌≡◌, ◌≤◌, ◌<◌, ◌+◌, ◌-◌, ◌*◌, ℕ, min, Bool, true, false, refl, ap, arith}
use Rattle.std.specs.Prelude.{nat_le, cond}
use Rattle.std.proofs.lemmas.Nat.{mul-le, div_below}
use Rattle.play_base.specs.Units.{ceil_div}
use Rattle.service_curve.specs.declared.Curve.{Curve}
use Rattle.service_curve.specs.Curve.{amount, straight}
use Rattle.runtime_curve.specs.Opening.{eligible_curve}

falling : (m1 m2 whole rest a b c d e : ℕ) → m2 ≤ m1 → a + c ≡ whole + e → rest ≡ b + d + e
    → m1 * whole + m2 * rest ≤ (m1 * a + m2 * b) + (m1 * c + m2 * d)
falling m1 m2 whole rest a b c d e h p q =
    let one = mul-le m2 e m1 e h (omega arith) in
    let two = ap (λ z. m1 * z) p in
    let three = ap (λ z. m2 * z) q in
    omega arith

rising : (m1 m2 whole rest x c d e : ℕ) → m1 ≤ m2 → whole ≡ c + e → rest + e ≡ x + d
    → m1 * whole + m2 * rest ≤ m2 * x + (m1 * c + m2 * d)
rising m1 m2 whole rest x c d e h p q =
    let one = mul-le m1 e m2 e h (omega arith) in
    let two = ap (λ z. m1 * z) p in
    let three = ap (λ z. m2 * z) q in
    omega arith

add_falling : (s : Curve) (x y : ℕ) → s.m2 ≤ s.m1 → amount s (x + y) ≤ amount s x + amount s y
add_falling s x y h =
    falling s.m1 s.m2 (min (x + y) s.d) ((x + y) - s.d) (min x s.d) (x - s.d) (min y s.d) (y - s.d) ((min x s.d + min y s.d) - min (x + y) s.d)
    h (omega arith) (omega arith)

add_rising : (s : Curve) (x y : ℕ) → s.m1 ≤ s.m2 → amount s (x + y) ≤ amount (straight s.m2) x + amount s y
add_rising s x y h =
    let one = rising s.m1 s.m2 (min (x + y) s.d) ((x + y) - s.d) x (min y s.d) (y - s.d) (min (x + y) s.d - min y s.d) h (omega arith) (omega arith) in
    let none : min x 0 ≡ 0 = omega arith in
    let all : x - 0 ≡ x = omega arith in
    let two = ap (λ z. s.m2 * z) none in
    let three = ap (λ z. s.m2 * z) all in
    omega arith

-- after a time x the curve gives at most what made packets eligible in x, and then what it gives from its start
pub amount_add : (s : Curve) (x y : ℕ) → amount s (x + y) ≤ amount (eligible_curve s) x + amount s y
amount_add s x y = go (nat_le s.m2 s.m1) refl
  where
    go : (b : Bool) → nat_le s.m2 s.m1 ≡ b → amount s (x + y) ≤ amount (cond b s (straight s.m2)) x + amount s y
    go true e = add_falling s x y (grind (arith, e))
    go false e = add_rising s x y (grind (arith, e))

pub le_ceil : (rate amount : ℕ) → 0 < rate → amount ≤ rate * ceil_div amount rate
le_ceil rate amount h = omega arith

pub ceil_le : (rate amount y : ℕ) → 0 < rate → amount ≤ rate * y → ceil_div amount rate ≤ y
ceil_le rate amount y h k =
    let one : amount + (rate - 1) < (y + 1) * rate = omega arith in
    let two = div_below (amount + (rate - 1)) rate (y + 1) h one in
    omega arith
