-- What a curve gives in longer and shorter times.
use Rattle.std.proofs.Common.{◌≡◌, ◌≤◌, ◌<◌, ◌+◌, ◌-◌, ◌*◌, ◌⊎◌, inl, inr, ℕ, min, ap, arith}
use Rattle.std.proofs.lemmas.Bool.{cases_lt}
use Rattle.std.proofs.lemmas.Nat.{mul-le}
use Rattle.service_curve.specs.declared.Curve.{Curve}
use Rattle.service_curve.specs.Curve.{amount, curve, straight}

-- a product grows with its second factor
pub mul_mono : (m x y : ℕ) → x ≤ y → m * x ≤ m * y
mul_mono m x y h = mul-le m x m y (omega arith) h

-- a longer time gives no less
pub amount_mono : (s : Curve) (x y : ℕ) → x ≤ y → amount s x ≤ amount s y
amount_mono s x y h =
    let before = mul_mono s.m1 (min x s.d) (min y s.d) (omega arith) in
    let after = mul_mono s.m2 (x - s.d) (y - s.d) (omega arith) in
    omega arith

-- up to the bend only the first slope counts
pub amount_before : (s : Curve) (t : ℕ) → t ≤ s.d → amount s t ≡ s.m1 * t
amount_before s t h =
    let whole : min t s.d ≡ t = omega arith in
    let none : t - s.d ≡ 0 = omega arith in
    let one = ap (λ n. s.m1 * n) whole in
    let two = ap (λ n. s.m2 * n) none in
    omega arith

-- from the bend on the first piece stands whole
pub amount_after : (s : Curve) (t : ℕ) → s.d ≤ t → amount s t ≡ s.m1 * s.d + s.m2 * (t - s.d)
amount_after s t h =
    let piece : min t s.d ≡ s.d = omega arith in
    let one = ap (λ n. s.m1 * n) piece in
    omega arith

-- no time gives nothing
pub amount_none : (s : Curve) → amount s 0 ≡ 0
amount_none s = let one = amount_before s 0 (omega arith) in omega arith

-- where a curve gave something, time has passed
pub time_passed : (s : Curve) (from to : ℕ) → 0 < amount s (to - from) → from < to
time_passed s from to h = go (cases_lt from to)
  where
    go : (from < to) ⊎ (to ≤ from) → from < to
    go (inl a) = a
    go (inr a) =
        let none : to - from ≡ 0 = omega arith in
        let one = ap (λ n. amount s n) none in
        let two = amount_none s in
        absurd (omega arith)

-- the line of one slope
pub amount_straight : (m t : ℕ) → amount (straight m) t ≡ m * t
amount_straight m t =
    let one = amount_after (straight m) t (omega arith) in
    let all : t - 0 ≡ t = omega arith in
    let two = ap (λ n. m * n) all in
    omega arith

-- a curve without a first piece, or with one slope, is a line
pub straight_without_piece : (m1 d m2 t : ℕ) → d ≡ 0 → amount (straight m2) t ≡ amount (curve m1 d m2) t
straight_without_piece m1 d m2 t h =
    let one = amount_straight m2 t in
    let two = amount_after (curve m1 d m2) t (omega arith) in
    let none = ap (λ n. m1 * n) h in
    let rest : t - d ≡ t = omega arith in
    let three = ap (λ n. m2 * n) rest in
    omega arith

pub straight_of_one_slope : (m1 d m2 t : ℕ) → m1 ≡ m2 → amount (straight m2) t ≡ amount (curve m1 d m2) t
straight_of_one_slope m1 d m2 t h =
    let one = amount_straight m2 t in
    let sum : t ≡ min t d + (t - d) = omega arith in
    let two = ap (λ n. m2 * n) sum in
    let three = ap (λ n. n * min t d) h in
    omega arith
