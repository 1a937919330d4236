-- By how much a packet moves a virtual time.
use Rattle.std.proofs.Common.{◌≡◌, ◌≤◌, ◌+◌, ◌-◌, ◌*◌, ℕ, min, Bool, true, false, List, [], ◌∷◌, None, Some, refl, ap, arith}
use Rattle.std.specs.Prelude.{Option, nat_le, nat_lt, ◌==◌, if◌then◌else◌}
use Rattle.std.proofs.lemmas.Bool.Decides.{nat_tests}
use Rattle.service_curve.specs.declared.Curve.{Curve}
use Rattle.service_curve.specs.Curve.{amount, first, time_at}
use Rattle.service_curve.specs.Moment.{HasCome}
use Rattle.service_curve.proofs.Amounts.{mul_mono}
use Rattle.service_curve.proofs.Firsts.{time_reaches}
use Rattle.runtime_curve.specs.declared.Opening.{Opening}
use Rattle.runtime_curve.specs.Opening.{Reaches}
use Rattle.runtime_curve.specs.Deadline.{deadline, later_of, reached_at, shifted}
use Rattle.runtime_curve.proofs.Deadlines.{deadline_came, deadline_comes}
use Rattle.hfsc_model.specs.Share.{or_zero, virtual_time_of}
use Rattle.fair_shares.specs.Sharing.{bend_of, step_of}

-- a later time by the step gives the amount more, wherever the curve stands
falls : (s : Curve) (t time more : ℕ) → s.m2 ≤ s.m1 → more ≤ s.m2 * time → amount s t + more ≤ amount s (t + time)
falls s t time more le k =
    let a = min (t + time) s.d - min t s.d in
    let b = (t + time - s.d) - (t - s.d) in
    let one : min (t + time) s.d ≡ min t s.d + a = omega arith in
    let two : (t + time) - s.d ≡ (t - s.d) + b = omega arith in
    let sum : time ≡ a + b = omega arith in
    let p = ap (λ n. s.m1 * n) one in
    let q = ap (λ n. s.m2 * n) two in
    let r = ap (λ n. s.m2 * n) sum in
    let steep : s.m2 * a ≤ s.m1 * a = grind (arith, mul_mono a s.m2 s.m1 le) in
    omega (arith, p, q, r, steep, k)

rises : (s : Curve) (t time more : ℕ) → more ≤ s.m2 * time → amount s t + more ≤ amount s (t + (time + s.d))
rises s t time more k =
    let one : min (t + (time + s.d)) s.d ≡ s.d = omega arith in
    let two : (t + (time + s.d)) - s.d ≡ t + time = omega arith in
    let p = ap (λ n. s.m1 * n) one in
    let q = ap (λ n. s.m2 * n) two in
    let low = mul_mono s.m1 (min t s.d) s.d (omega arith) in
    let flat = mul_mono s.m2 (t - s.d) t (omega arith) in
    omega (arith, p, q, low, flat, k)

pub amount_moves : (s : Curve) (t more : ℕ) → 1 ≤ s.m2 → amount s t + more ≤ amount s (t + (time_at s.m2 more + bend_of s))
amount_moves s t more some = go (nat_lt s.m1 s.m2) refl
  where
    enough : more ≤ s.m2 * time_at s.m2 more
    enough = time_reaches s.m2 more (time_at s.m2 more) (omega (arith, some)) (omega arith)

    go : (b : Bool) → nat_lt s.m1 s.m2 ≡ b → amount s t + more ≤ amount s (t + (time_at s.m2 more + (if b then s.d else 0)))
    go true e = rises s t (time_at s.m2 more) more enough
    go false e = falls s t (time_at s.m2 more + 0) more (grind (arith, nat_tests, e)) (omega (arith, enough))

-- a curve whose second slope is not 0 reaches every amount
abbrev IsThere : Option ℕ → Type 0
IsThere o = HasCome o (or_zero o)

first_there : (s : Curve) (x : ℕ) → 1 ≤ s.m2 → IsThere (first s x)
first_there s x some = go (nat_le x (s.m1 * s.d)) (s.m2 == 0) refl
  where
    go : (b z : Bool) → (s.m2 == 0) ≡ z
        → IsThere (if b then Some (time_at s.m1 x) else if z then None else Some (s.d + time_at s.m2 (x - s.m1 * s.d)))
    go true z e = omega arith
    go false true e = absurd (grind (arith, nat_tests, e, some))
    go false false e = omega arith

shifted_there : (at : ℕ) (o : Option ℕ) → IsThere o → IsThere (shifted at o)
shifted_there at None x = x
shifted_there at (Some t) x = omega arith

later_there : (a b : Option ℕ) → IsThere a → IsThere b → IsThere (later_of a b)
later_there None b x y = x
later_there (Some t) None x y = y
later_there (Some t) (Some u) x y = omega arith

reached_there : (s : Curve) (o : Opening) (u : ℕ) → 1 ≤ s.m2 → IsThere (reached_at s o u)
reached_there s o u some = go (nat_le u o.count)
  where
    go : (b : Bool) → IsThere (if b then Some 0 else shifted o.at (first s (u - o.count)))
    go true = omega arith
    go false = shifted_there o.at (first s (u - o.count)) (first_there s (u - o.count) some)

deadline_there : (s : Curve) (os : List Opening) (u : ℕ) → 1 ≤ s.m2 → IsThere (deadline s os u)
deadline_there s [] u some = omega arith
deadline_there s (o ∷ os) u some = later_there (reached_at s o u) (deadline s os u) (reached_there s o u some) (deadline_there s os u some)

come_by : (o : Option ℕ) (t u : ℕ) → t ≤ u → HasCome o t → HasCome o u
come_by None t u le x = x
come_by (Some v) t u le x = omega (arith, x, le)

come_zero : (o : Option ℕ) (t : ℕ) → HasCome o t → or_zero o ≤ t
come_zero None t x = absurd x
come_zero (Some v) t x = x

-- at its virtual time a class is allowed its total by each activation
pub time_reached : (s : Curve) (o : Opening) (os : List Opening) (u : ℕ) → 1 ≤ s.m2 → Reaches s (o ∷ os) (virtual_time_of (Some s) (o ∷ os) u) u
time_reached s o os u some =
    deadline_came s (o ∷ os) (virtual_time_of (Some s) (o ∷ os) u) u
    (come_by (deadline s (o ∷ os) u) (or_zero (deadline s (o ∷ os) u)) (virtual_time_of (Some s) (o ∷ os) u) (omega arith) (deadline_there s (o ∷ os) u some))

-- and it is the first such time that is not before the last activation
pub time_is_first : (s : Curve) (o : Opening) (os : List Opening) (u t : ℕ) → o.at ≤ t → Reaches s (o ∷ os) t u → virtual_time_of (Some s) (o ∷ os) u ≤ t
time_is_first s o os u t le r =
    let most = come_zero (deadline s (o ∷ os) u) t (deadline_comes s (o ∷ os) t u r) in
    omega (arith, le, most)

-- no activation is later than a virtual time
abbrev pub AreBy : (v : ℕ) → List Opening → Type 0
AreBy v [] = Unit {0}
AreBy v (o ∷ os) = (o.at ≤ v) × AreBy v os

pub by_more : (v w : ℕ) (os : List Opening) → v ≤ w → AreBy v os → AreBy w os
by_more v w [] le b = tt
by_more v w (o ∷ os) le b = (omega (arith, le, b.0), by_more v w os le b.1)

moved : (s : Curve) (os : List Opening) (v u more step : ℕ) → ((t : ℕ) → amount s t + more ≤ amount s (t + step)) → AreBy v os → Reaches s os v u
    → Reaches s os (v + step) (u + more)
moved s [] v u more step gives b r = tt
moved s (o ∷ os) v u more step gives b r =
    let since : v + step - o.at ≡ (v - o.at) + step = omega (arith, b.0) in
    let same = ap (λ n. amount s n) since in
    let given = gives (v - o.at) in
    let was = r.0 in
    (omega (arith, same, given, was), moved s os v u more step gives b.1 r.1)

-- a packet moves a virtual time by at most the step
pub time_moves : (s : Option Curve) (os : List Opening) (u more : ℕ) → ((k : Curve) → s ≡ Some k → 1 ≤ k.m2) → AreBy (virtual_time_of s os u) os
    → virtual_time_of s os (u + more) ≤ virtual_time_of s os u + step_of s more
time_moves s [] u more some b = omega arith
time_moves None (o ∷ os) u more some b = omega arith
time_moves (Some s) (o ∷ os) u more some b =
    let v = virtual_time_of (Some s) (o ∷ os) u in
    let step = time_at s.m2 more + bend_of s in
    time_is_first s o os (u + more) (v + step) (omega arith)
    (moved s (o ∷ os) v u more step (λ t. amount_moves s t more (some s refl)) b (time_reached s o os u (some s refl)))
