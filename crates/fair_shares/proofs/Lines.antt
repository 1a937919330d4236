-- The virtual time of a class whose curve is a line: it rises with the total along the line through the last activation.
use Rattle.std.proofs.Common.{◌≡◌, ◌≤◌, ◌<◌, ◌+◌, ◌-◌, ◌*◌, ◌⊎◌, inl, inr, ℕ, List, [], ◌∷◌, Some, ap, arith}
use Rattle.std.proofs.lemmas.Bool.{cases_lt}
use Rattle.service_curve.specs.declared.Curve.{Curve}
use Rattle.service_curve.specs.Curve.{amount, time_at}
use Rattle.service_curve.proofs.Amounts.{amount_after}
use Rattle.service_curve.proofs.Firsts.{time_reaches}
use Rattle.runtime_curve.specs.declared.Opening.{Opening}
use Rattle.runtime_curve.specs.Opening.{Reaches, opening}
use Rattle.runtime_curve.proofs.TwoLines.{times_after}
use Rattle.hfsc_model.specs.Share.{virtual_time_of}
use Rattle.fair_shares.specs.Sharing.{IsLine}
use Rattle.fair_shares.proofs.Moves.{time_is_first, time_reached}

-- the slope of a line that reaches every amount is not 0
pub line_rises : (s : Curve) (r : ℕ) → IsLine s r → 1 ≤ s.m2 → 1 ≤ r
line_rises s r is some = go (cases_lt 0 r)
  where
    go : (0 < r) ⊎ (r ≤ 0) → 1 ≤ r
    go (inl y) = omega (arith, y)
    go (inr n) =
        let given = is (s.d + 1) in
        let none : r * (s.d + 1) ≡ 0 * (s.d + 1) = let zero_is : r ≡ 0 = omega (arith, n) in ap (λ m. m * (s.d + 1)) zero_is in
        let whole = amount_after s (s.d + 1) (omega arith) in
        let last : (s.d + 1) - s.d ≡ 1 = omega arith in
        let slope = ap (λ m. s.m2 * m) last in
        absurd (omega (arith, given, none, whole, slope, some))

-- the line through an activation passes this virtual time at this total, but for less than one nanosecond
pub record IsOn (r : ℕ) (o : Opening) (u v : ℕ) : Type 0 where
  pub low : u + r * o.at ≤ o.count + r * v
  pub high : r * v + o.count < u + r * o.at + r

-- the line through the last activation is nowhere above that through another
pub record IsBelow (r : ℕ) (o p : Opening) : Type 0 where
  pub line : r * p.at + o.count ≤ r * o.at + p.count
  pub at : p.at ≤ o.at

abbrev pub AreAbove : (r : ℕ) → Opening → List Opening → Type 0
AreAbove r o [] = Unit {0}
AreAbove r o (p ∷ ps) = IsBelow r o p × AreAbove r o ps

abbrev pub IsChain : (r : ℕ) → List Opening → (u : ℕ) → Type 0
IsChain r [] u = Unit {0}
IsChain r (o ∷ os) u = (o.count ≤ u) × AreAbove r o os

-- the times that the units since the last activation take
above_reach : (s : Curve) (r : ℕ) (o : Opening) (os : List Opening) (u t : ℕ) → IsLine s r → o.at ≤ t → u + r * o.at ≤ o.count + r * t → AreAbove r o os
    → Reaches s os t u
above_reach s r o [] u t is le k a = tt
above_reach s r o (p ∷ ps) u t is le k a =
    let x = a.0.line in
    let y = a.0.at in
    let given = is (t - p.at) in
    let apart = times_after r t p.at (omega (arith, y, le)) in
    (omega (arith, x, given, apart, k), above_reach s r o ps u t is le k a.1)

pub on_line : (s : Curve) (r : ℕ) (o : Opening) (os : List Opening) (u : ℕ) → IsLine s r → 1 ≤ s.m2 → IsChain r (o ∷ os) u
    → IsOn r o u (virtual_time_of (Some s) (o ∷ os) u)
on_line s r o os u is some chain = record { low = low; high = high }
  where
    v : ℕ
    v = virtual_time_of (Some s) (o ∷ os) u

    slope : 1 ≤ r
    slope = line_rises s r is some

    low : u + r * o.at ≤ o.count + r * virtual_time_of (Some s) (o ∷ os) u
    low =
        let reached = (time_reached s o os u some).0 in
        let given = is (virtual_time_of (Some s) (o ∷ os) u - o.at) in
        let apart = times_after r (virtual_time_of (Some s) (o ∷ os) u) o.at (omega arith) in
        omega (arith, reached, given, apart)

    since : ℕ
    since = time_at r (u - o.count)

    enough : u - o.count ≤ r * time_at r (u - o.count)
    enough = time_reaches r (u - o.count) (time_at r (u - o.count)) (omega (arith, slope)) (omega arith)

    little : r * time_at r (u - o.count) < (u - o.count) + r
    little = omega (arith, slope)

    high : r * virtual_time_of (Some s) (o ∷ os) u + o.count < u + r * o.at + r
    high =
        let there = chain.0 in
        let given = is (o.at + time_at r (u - o.count) - o.at) in
        let back : o.at + time_at r (u - o.count) - o.at ≡ time_at r (u - o.count) = omega arith in
        let turned = ap (λ n. r * n) back in
        let reach : u ≤ o.count + amount s (o.at + time_at r (u - o.count) - o.at) = omega (arith, given, turned, enough, there) in
        let far : u + r * o.at ≤ o.count + r * (o.at + time_at r (u - o.count)) = omega (arith, enough, there) in
        let most = time_is_first s o os u (o.at + time_at r (u - o.count)) (omega arith)
        (reach, above_reach s r o os u (o.at + time_at r (u - o.count)) is (omega arith) far chain.1) in
        let product : r * virtual_time_of (Some s) (o ∷ os) u ≤ r * (o.at + time_at r (u - o.count)) = grind (arith, times_le r _ _ most) in
        omega (arith, product, little, there)
      where
        times_le : (r x y : ℕ) → x ≤ y → r * x ≤ r * y
        times_le r x y le = let one = times_after r y x le in omega (arith, one)

-- a new activation, no earlier than the virtual time, goes on with the chain
opened_above : (r : ℕ) (o n : Opening) (os : List Opening) → IsBelow r n o → AreAbove r o os → AreAbove r n os
opened_above r o n [] b a = tt
opened_above r o n (p ∷ ps) b a =
    let x = b.line in
    let y = b.at in
    let z = a.0.line in
    let w = a.0.at in
    (record { line = omega (arith, x, z); at = omega (arith, y, w) }, opened_above r o n ps b a.1)

pub chain_opens : (s : Curve) (r : ℕ) (os : List Opening) (u v : ℕ) → IsLine s r → 1 ≤ s.m2 → IsChain r os u → virtual_time_of (Some s) os u ≤ v
    → IsChain r (opening v u ∷ os) u
chain_opens s r [] u v is some chain le = (omega arith, tt)
chain_opens s r (o ∷ os) u v is some chain le =
    let on = on_line s r o os u is some chain in
    let low = on.low in
    let apart = times_after r v (virtual_time_of (Some s) (o ∷ os) u) le in
    let below : IsBelow r (opening v u) o = record { line = omega (arith, low, apart); at = omega (arith, le) } in
    (omega arith, (below, opened_above r o (opening v u) os below chain.1))

pub chain_grows : (r : ℕ) (os : List Opening) (u w : ℕ) → u ≤ w → IsChain r os u → IsChain r os w
chain_grows r [] u w le chain = tt
chain_grows r (o ∷ os) u w le chain = let there = chain.0 in (omega (arith, there, le), chain.1)
