-- Past the moment at which it gives a burst, a curve gives at least what its second slope gives.
use Rattle.std.proofs.Common.{◌≡◌, ◌≤◌, ◌<◌, ◌+◌, ◌-◌, ◌*◌, ◌⊎◌, inl, inr, ℕ, min, Some, ap, subst, sym, arith}
use Rattle.std.proofs.lemmas.Bool.{cases_lt}
use Rattle.std.proofs.lemmas.Nat.{mul-le}
use Rattle.play_base.specs.Units.{units}
use Rattle.service_curve.specs.declared.Curve.{Curve}
use Rattle.service_curve.specs.Curve.{amount, first}
use Rattle.service_curve.specs.Moment.{HasCome}
use Rattle.service_curve.proofs.Amounts.{amount_after, amount_before}
use Rattle.service_curve.proofs.Firsts.{first_reaches}
use Rattle.runtime_curve.specs.Opening.{RisesFromZero}

falls : (m1 m2 a b e f whole rest : ℕ) → m2 ≤ m1 → whole ≡ a + e → rest ≡ b + f → (m1 * a + m2 * b) + m2 * (e + f) ≤ m1 * whole + m2 * rest
falls m1 m2 a b e f whole rest h p q =
    let one = mul-le m2 e m1 e h (omega arith) in
    let two = ap (λ z. m1 * z) p in
    let three = ap (λ z. m2 * z) q in
    omega arith

-- a curve whose slope falls
grows_falling : (s : Curve) (t x : ℕ) → s.m2 ≤ s.m1 → amount s t + s.m2 * x ≤ amount s (t + x)
grows_falling s t x h =
    let e : ℕ = min (t + x) s.d - min t s.d in
    let all : x ≡ e + (x - e) = omega arith in
    let one = falls s.m1 s.m2 (min t s.d) (t - s.d) e (x - e) (min (t + x) s.d) ((t + x) - s.d) h (omega arith) (omega arith) in
    let two = ap (λ z. s.m2 * z) all in
    omega arith

-- past its bend
grows_after : (s : Curve) (t x : ℕ) → s.d ≤ t → amount s t + s.m2 * x ≤ amount s (t + x)
grows_after s t x h =
    let one = amount_after s t h in
    let two = amount_after s (t + x) (omega arith) in
    let sum : (t + x) - s.d ≡ (t - s.d) + x = omega arith in
    let three = ap (λ z. s.m2 * z) sum in
    omega arith

-- a curve that rises from 0 gives nothing before its bend
past_bend : (s : Curve) (t : ℕ) → s.m1 ≡ 0 → 1 ≤ amount s t → s.d ≤ t
past_bend s t z h = go (cases_lt t s.d)
  where
    go : (t < s.d) ⊎ (s.d ≤ t) → s.d ≤ t
    go (inl a) =
        let one = amount_before s t (omega arith) in
        let two = ap (λ n. n * t) z in
        absurd (omega arith)
    go (inr a) = a

grows : (s : Curve) (t x : ℕ) → RisesFromZero s → 1 ≤ amount s t → amount s t + s.m2 * x ≤ amount s (t + x)
grows s t x r h = go (cases_lt s.m1 s.m2)
  where
    go : (s.m1 < s.m2) ⊎ (s.m2 ≤ s.m1) → amount s t + s.m2 * x ≤ amount s (t + x)
    go (inl a) = grows_after s t x (past_bend s t (r a) h)
    go (inr a) = grows_falling s t x a

reached : (s : Curve) (x t : ℕ) → first s x ≡ Some t → x ≤ amount s t
reached s x t e = first_reaches s x t (subst (λ o. HasCome o t) (sym e) (omega arith))

-- a burst and what a rate gives in a time
pub burst_served : (s : Curve) (rate burst t x : ℕ) → RisesFromZero s → rate ≤ s.m2 → 1 ≤ burst → first s (units burst) ≡ Some t
    → units burst + rate * x ≤ amount s (t + x)
burst_served s rate burst t x r k b e =
    let one = reached s (units burst) t e in
    let two = grows s t x r (omega arith) in
    let three = mul-le rate x s.m2 x k (omega arith) in
    omega arith
