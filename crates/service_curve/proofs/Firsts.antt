-- The computed moments are the first ones.
use Rattle.std.proofs.Common.{◌≡◌, ◌≤◌, ◌<◌, ◌+◌, ◌-◌, ◌*◌, ◌/◌, ◌%◌, ◌⊎◌, inl, inr, ℕ, Bool, true, false, refl, ap, sym, subst, arith, ◌∙◌}
use Rattle.std.specs.Prelude.{nat_le, ◌==◌, if◌then◌else◌, Option, None, Some}
use Rattle.std.proofs.lemmas.Bool.{cases_lt}
use Rattle.std.proofs.lemmas.Nat.{div_below, div-add-mod', div-mul-add, mod_below}
use Rattle.service_curve.specs.declared.Curve.{Curve}
use Rattle.service_curve.specs.Curve.{amount, time_at, first}
use Rattle.service_curve.specs.Moment.{IsFirst, HasCome}
use Rattle.service_curve.proofs.Amounts.{mul_mono, amount_before, amount_after}

-- a quotient rounded up is the least number whose product reaches the amount
pub time_comes : (rate x y : ℕ) → 0 < rate → x ≤ rate * y → time_at rate x ≤ y
time_comes rate x y h k =
    let one : x + (rate - 1) < (y + 1) * rate = omega arith in
    let two = div_below (x + (rate - 1)) rate (y + 1) h one in
    omega arith

pub time_reaches : (rate x y : ℕ) → 0 < rate → time_at rate x ≤ y → x ≤ rate * y
time_reaches rate x y h k =
    let one : x ≤ rate * time_at rate x = omega arith in
    let two = mul_mono rate (time_at rate x) y k in
    omega arith

-- an amount that the first piece gives
before_comes : (s : Curve) (x t : ℕ) → x ≤ s.m1 * s.d → x ≤ amount s t → time_at s.m1 x ≤ t
before_comes s x t h k = go (cases_lt 0 s.m1) (cases_lt s.d t)
  where
    go : (0 < s.m1) ⊎ (s.m1 ≤ 0) → (s.d < t) ⊎ (t ≤ s.d) → time_at s.m1 x ≤ t
    go (inl z) (inl a) = let one = time_comes s.m1 x s.d z h in omega arith
    go (inl z) (inr a) = let one = amount_before s t a in time_comes s.m1 x t z (omega arith)
    go (inr z) b =
        let flat : s.m1 ≡ 0 = omega arith in
        let one = ap (λ n. n * s.d) flat in
        let nothing : x ≡ 0 = omega arith in
        let two : time_at s.m1 x ≡ time_at 0 0 = ap (λ n. time_at s.m1 n) nothing ∙ ap (λ n. time_at n 0) flat in
        omega arith

before_reaches : (s : Curve) (x t : ℕ) → x ≤ s.m1 * s.d → time_at s.m1 x ≤ t → x ≤ amount s t
before_reaches s x t h k = go (cases_lt 0 s.m1) (cases_lt s.d t)
  where
    go : (0 < s.m1) ⊎ (s.m1 ≤ 0) → (s.d < t) ⊎ (t ≤ s.d) → x ≤ amount s t
    go (inl z) (inl a) = let one = amount_after s t (omega arith) in omega arith
    go (inl z) (inr a) = let one = amount_before s t a in let two = time_reaches s.m1 x t z k in omega arith
    go (inr z) b =
        let flat : s.m1 ≡ 0 = omega arith in
        let one = ap (λ n. n * s.d) flat in
        omega arith

-- an amount that the first piece does not give
after_comes : (s : Curve) (x t : ℕ) → s.m1 * s.d < x → x ≤ amount s t → (0 < s.m2) × (s.d + time_at s.m2 (x - s.m1 * s.d) ≤ t)
after_comes s x t h k = go (cases_lt 0 s.m2) (cases_lt s.d t)
  where
    go : (0 < s.m2) ⊎ (s.m2 ≤ 0) → (s.d < t) ⊎ (t ≤ s.d) → (0 < s.m2) × (s.d + time_at s.m2 (x - s.m1 * s.d) ≤ t)
    go z (inr a) =
        let one = amount_before s t a in
        let two = mul_mono s.m1 t s.d a in
        absurd (omega arith)
    go (inl z) (inl a) =
        let one = amount_after s t (omega arith) in
        let two = time_comes s.m2 (x - s.m1 * s.d) (t - s.d) z (omega arith) in
        (z, omega arith)
    go (inr z) (inl a) =
        let one = amount_after s t (omega arith) in
        let flat : s.m2 ≡ 0 = omega arith in
        let two = ap (λ n. n * (t - s.d)) flat in
        absurd (omega arith)

after_reaches : (s : Curve) (x t : ℕ) → s.m1 * s.d < x → 0 < s.m2 → s.d + time_at s.m2 (x - s.m1 * s.d) ≤ t → x ≤ amount s t
after_reaches s x t h z k =
    let one = amount_after s t (omega arith) in
    let two = time_reaches s.m2 (x - s.m1 * s.d) (t - s.d) z (omega arith) in
    omega arith

-- `first` has come exactly where the curve gives the amount
pub first_comes : (s : Curve) (x t : ℕ) → x ≤ amount s t → HasCome (first s x) t
first_comes s x t h = go (nat_le x (s.m1 * s.d)) (s.m2 == 0) refl refl
  where
    go : (a b : Bool) → nat_le x (s.m1 * s.d) ≡ a → (s.m2 == 0) ≡ b
        → HasCome (if a then Some (time_at s.m1 x) else if b then None else Some (s.d + time_at s.m2 (x - s.m1 * s.d))) t
    go true b e f = before_comes s x t (grind (arith, e)) h
    go false true e f = let two = after_comes s x t (grind (arith, e)) h in absurd (grind (arith, f, two.0))
    go false false e f = (after_comes s x t (grind (arith, e)) h).1

pub first_reaches : (s : Curve) (x t : ℕ) → HasCome (first s x) t → x ≤ amount s t
first_reaches s x t = go (nat_le x (s.m1 * s.d)) (s.m2 == 0) refl refl
  where
    go : (a b : Bool) → nat_le x (s.m1 * s.d) ≡ a → (s.m2 == 0) ≡ b
        → HasCome (if a then Some (time_at s.m1 x) else if b then None else Some (s.d + time_at s.m2 (x - s.m1 * s.d))) t → x ≤ amount s t
    go true b e f h = before_reaches s x t (grind (arith, e)) h
    go false true e f h = absurd h
    go false false e f h = after_reaches s x t (grind (arith, e)) (grind (arith, f)) h

-- a moment that has come exactly where P holds is the first one of P
pub first_of : (P : ℕ → Type 0) (o : Option ℕ) → ((t : ℕ) → P t → HasCome o t) → ((t : ℕ) → HasCome o t → P t) → IsFirst P o
first_of P None f g = f
first_of P (Some u) f g = (g u (omega arith), f)

-- there is one first moment
pub first_is_one : (P : ℕ → Type 0) (a b : Option ℕ) → IsFirst P a → IsFirst P b → a ≡ b
first_is_one P None None f g = refl
first_is_one P None (Some y) f g = absurd (f y g.0)
first_is_one P (Some x) None f g = absurd (g x f.0)
first_is_one P (Some x) (Some y) f g =
    let one = f.1 y g.0 in
    let two = g.1 x f.0 in
    let e : x ≡ y = omega arith in
    ap Some e

-- `first` is the first moment at which the curve gives the amount
pub first_is_first : (s : Curve) (x : ℕ) → IsFirst (λ t. x ≤ amount s t) (first s x)
first_is_first s x = first_of (λ t. x ≤ amount s t) (first s x) (first_comes s x) (first_reaches s x)

-- so is what is equal to it
pub equals_first : (s : Curve) (x : ℕ) (o : Option ℕ) → o ≡ first s x → IsFirst (λ t. x ≤ amount s t) o
equals_first s x o e = subst (λ (y : Option ℕ). IsFirst (λ t. x ≤ amount s t) y) (sym e) (first_is_first s x)

-- a quotient rounded up is one more than the quotient of one less
pub time_more : (slope wanted : ℕ) → 0 < slope → 1 ≤ wanted → (wanted - 1) / slope + 1 ≡ time_at slope wanted
time_more slope wanted h k =
    let parts : (wanted - 1) / slope * slope + (wanted - 1) % slope ≡ wanted - 1 = div-add-mod' (wanted - 1) slope in
    let small : (wanted - 1) % slope < slope = mod_below (wanted - 1) slope h in
    let sum : wanted + (slope - 1) ≡ ((wanted - 1) / slope + 1) * slope + (wanted - 1) % slope = omega (arith, parts, h, k) in
    sym (ap (λ n. n / slope) sum ∙ div-mul-add ((wanted - 1) / slope + 1) slope ((wanted - 1) % slope) small)
