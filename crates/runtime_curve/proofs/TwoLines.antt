-- The least over all openings is the least over two of them: the lowest by the first slope and the lowest by the second.
use Rattle.std.proofs.Common.{◌≡◌, ◌≤◌, ◌<◌, ◌+◌, ◌-◌, ◌*◌, ◌⊎◌, inl, inr, ℕ, min, max, true, List, [], ◌∷◌, None, Some, refl, ap, sym, subst, arith}
use Rattle.std.specs.declared.option.Option.{Option}
use Rattle.std.proofs.lemmas.Bool.{cases_lt}
use Rattle.std.proofs.lemmas.Bool.Decides.{nat_tests}
use Rattle.std.proofs.lemmas.Nat.{mul-le}
use Rattle.std.specs.Prelude.{nat_le}
use Rattle.service_curve.specs.declared.Curve.{Curve}
use Rattle.service_curve.specs.Curve.{amount}
use Rattle.service_curve.specs.Moment.{HasCome}
use Rattle.service_curve.proofs.Amounts.{mul_mono, time_passed}
use Rattle.runtime_curve.specs.declared.Opening.{Opening}
use Rattle.runtime_curve.specs.Opening.{line, Reaches, RisesFromZero, eligible_curve}
use Rattle.runtime_curve.specs.Deadline.{deadline, later_of, reached_at}
use Rattle.runtime_curve.specs.declared.held.HeldOpenings.{HeldOpenings}
use Rattle.runtime_curve.specs.Held.{Lower, LowerThanAll, IsOneOf, IsUpTo, AreUpTo, StandFor}
use Rattle.runtime_curve.proofs.Deadlines.{deadline_comes, deadline_came}

-- bounds of an amount by both slopes, where the slope falls
under_first : (s : Curve) (y : ℕ) → s.m2 ≤ s.m1 → amount s y ≤ s.m1 * y
under_first s y h =
    let sum : y ≡ min y s.d + (y - s.d) = omega arith in
    let one = ap (λ n. s.m1 * n) sum in
    let two = mul-le s.m2 (y - s.d) s.m1 (y - s.d) h (omega arith) in
    omega arith

under_second : (s : Curve) (y : ℕ) → s.m2 ≤ s.m1 → amount s y + s.m2 * s.d ≤ s.m1 * s.d + s.m2 * y
under_second s y h =
    let sum : s.d ≡ min y s.d + (s.d - min y s.d) = omega arith in
    let one = ap (λ n. s.m1 * n) sum in
    let two = mul-le s.m2 (s.d - min y s.d) s.m1 (s.d - min y s.d) h (omega arith) in
    let rest : (y - s.d) + s.d ≡ y + (s.d - min y s.d) = omega arith in
    let three = ap (λ n. s.m2 * n) rest in
    omega arith

-- an amount is one of the two
is_first : (s : Curve) (y : ℕ) → y ≤ s.d → amount s y ≡ s.m1 * y
is_first s y h =
    let one : min y s.d ≡ y = omega arith in
    let two : y - s.d ≡ 0 = omega arith in
    let three = ap (λ n. s.m1 * n) one in
    let four = ap (λ n. s.m2 * n) two in
    omega arith

is_second : (s : Curve) (y : ℕ) → s.d ≤ y → amount s y + s.m2 * s.d ≡ s.m1 * s.d + s.m2 * y
is_second s y h =
    let one : min y s.d ≡ s.d = omega arith in
    let two : (y - s.d) + s.d ≡ y = omega arith in
    let three = ap (λ n. s.m1 * n) one in
    let four = ap (λ n. s.m2 * n) two in
    omega arith

-- a product of a difference, where it is one
pub times_after : (m t a : ℕ) → a ≤ t → m * (t - a) + m * a ≡ m * t
times_after m t a h = let one : (t - a) + a ≡ t = omega arith in let two = ap (λ n. m * n) one in omega arith

-- by a moment after it, the line of an opening with a falling slope
pub falling_line : (s : Curve) (p q o : Opening) (t x : ℕ) → s.m2 ≤ s.m1 → p.at ≤ t → q.at ≤ t → o.at ≤ t
    → Lower s.m1 p o → Lower s.m2 q o → x ≤ line s t p → x ≤ line s t q → x ≤ line s t o
falling_line s p q o t x h a b c low lower f g = go (cases_lt (t - o.at) s.d)
  where
    one : amount s (t - p.at) ≤ s.m1 * (t - p.at)
    one = under_first s (t - p.at) h

    two : amount s (t - q.at) + s.m2 * s.d ≤ s.m1 * s.d + s.m2 * (t - q.at)
    two = under_second s (t - q.at) h

    first : s.m1 * (t - p.at) + s.m1 * p.at ≡ s.m1 * t
    first = times_after s.m1 t p.at a

    second : s.m2 * (t - q.at) + s.m2 * q.at ≡ s.m2 * t
    second = times_after s.m2 t q.at b

    third : s.m1 * (t - o.at) + s.m1 * o.at ≡ s.m1 * t
    third = times_after s.m1 t o.at c

    fourth : s.m2 * (t - o.at) + s.m2 * o.at ≡ s.m2 * t
    fourth = times_after s.m2 t o.at c

    go : (t - o.at < s.d) ⊎ (s.d ≤ t - o.at) → x ≤ line s t o
    go (inl z) = let e = is_first s (t - o.at) (omega arith) in omega (arith, one, first, third, low, f, e)
    go (inr z) = let e = is_second s (t - o.at) z in omega (arith, two, second, fourth, lower, g, e)

-- an opening below a count that it reaches has come
passed : (s : Curve) (o : Opening) (t x : ℕ) → o.count < x → x ≤ line s t o → o.at < t
passed s o t x h k = time_passed s o.at t (omega arith)

-- by the first slope alone an opening below a count comes before it
comes_first : (m t x : ℕ) (o : Opening) → o.count < x → x + m * o.at ≤ o.count + m * t → o.at < t
comes_first m t x o h k = go (cases_lt o.at t)
  where
    go : (o.at < t) ⊎ (t ≤ o.at) → o.at < t
    go (inl a) = a
    go (inr a) = let one = mul_mono m t o.at a in absurd (omega arith)

falling_reach : (s : Curve) (p q o : Opening) (t x : ℕ) → s.m2 ≤ s.m1 → p.count < x → q.count < x → o.count < x
    → Lower s.m1 p o → Lower s.m2 q o → x ≤ line s t p → x ≤ line s t q → x ≤ line s t o
falling_reach s p q o t x h a b c low lower f g =
    let pt = passed s p t x a f in
    let qt = passed s q t x b g in
    let one = under_first s (t - p.at) h in
    let first = times_after s.m1 t p.at (omega arith) in
    let ot = comes_first s.m1 t x o c (omega arith) in
    falling_line s p q o t x h (omega arith) (omega arith) (omega arith) low lower f g

-- a curve whose first slope is 0
from_none : (s : Curve) (y : ℕ) → s.m1 ≡ 0 → amount s y ≡ s.m2 * (y - s.d)
from_none s y e = let one = ap (λ n. n * min y s.d) e in omega arith

waited : (s : Curve) (y : ℕ) → s.m1 ≡ 0 → 0 < amount s y → s.d < y
waited s y e h = go (cases_lt s.d y)
  where
    go : (s.d < y) ⊎ (y ≤ s.d) → s.d < y
    go (inl a) = a
    go (inr a) =
        let one = from_none s y e in
        let two : y - s.d ≡ 0 = omega arith in
        let three = ap (λ n. s.m2 * n) two in
        absurd (omega arith)

rising_reach : (s : Curve) (q o : Opening) (t x : ℕ) → s.m1 ≡ 0 → q.count < x → o.count < x → Lower s.m2 q o → x ≤ line s t q → x ≤ line s t o
rising_reach s q o t x e b c lower g =
    let qt = waited s (t - q.at) e (omega arith) in
    let one = from_none s (t - q.at) e in
    let sum : (t - q.at - s.d) + (q.at + s.d) ≡ t = omega arith in
    let two = ap (λ n. s.m2 * n) sum in
    let ot = comes_first s.m2 (t - s.d) x o c (let r : (t - q.at - s.d) + q.at ≡ t - s.d = omega arith in let u = ap (λ n. s.m2 * n) r in omega arith) in
    let three = from_none s (t - o.at) e in
    let sums : (t - o.at - s.d) + (o.at + s.d) ≡ t = omega arith in
    let four = ap (λ n. s.m2 * n) sums in
    omega arith

slopes : (s : Curve) → RisesFromZero s → (s.m2 ≤ s.m1) ⊎ (s.m1 ≡ 0)
slopes s f = go (cases_lt s.m1 s.m2)
  where
    go : (s.m1 < s.m2) ⊎ (s.m2 ≤ s.m1) → (s.m2 ≤ s.m1) ⊎ (s.m1 ≡ 0)
    go (inl a) = inr (f a)
    go (inr a) = inl a

fall_reach : (s : Curve) (h : HeldOpenings) (t x : ℕ) (os : List Opening) → s.m2 ≤ s.m1 → h.steep.count < x → h.flat.count < x → h.last.count < x
    → AreUpTo h.last os → LowerThanAll s.m1 h.steep os → LowerThanAll s.m2 h.flat os → x ≤ line s t h.steep → x ≤ line s t h.flat → Reaches s os t x
fall_reach s h t x [] k a b c n low lower f g = tt
fall_reach s h t x (o ∷ os) k a b c n low lower f g =
    let below : o.count ≤ h.last.count = n.0.count in
    (falling_reach s h.steep h.flat o t x k a b (omega arith) low.0 lower.0 f g, fall_reach s h t x os k a b c n.1 low.1 lower.1 f g)

rise_reach : (s : Curve) (h : HeldOpenings) (t x : ℕ) (os : List Opening) → s.m1 ≡ 0 → h.flat.count < x → h.last.count < x
    → AreUpTo h.last os → LowerThanAll s.m2 h.flat os → x ≤ line s t h.flat → Reaches s os t x
rise_reach s h t x [] e b c n lower g = tt
rise_reach s h t x (o ∷ os) e b c n lower g =
    let below : o.count ≤ h.last.count = n.0.count in
    (rising_reach s h.flat o t x e b (omega arith) lower.0 g, rise_reach s h t x os e b c n.1 lower.1 g)

pub one_of : (s : Curve) (p : Opening) (t x : ℕ) (os : List Opening) → IsOneOf p os → Reaches s os t x → x ≤ line s t p
one_of s p t x [] i r = absurd i
one_of s p t x (o ∷ os) (inl e) r = subst (λ (y : Opening). x ≤ line s t y) (sym e) r.0
one_of s p t x (o ∷ os) (inr i) r = one_of s p t x os i r.1

pub up_to_last : (p last : Opening) (os : List Opening) → IsOneOf p os → AreUpTo last os → IsUpTo last p
up_to_last p last [] i n = absurd i
up_to_last p last (o ∷ os) (inl e) n = subst (λ (y : Opening). IsUpTo last y) (sym e) n.0
up_to_last p last (o ∷ os) (inr i) n = up_to_last p last os i n.1

pub same_moment : (a b : Option ℕ) → ((t : ℕ) → HasCome a t → HasCome b t) → ((t : ℕ) → HasCome b t → HasCome a t) → a ≡ b
same_moment None None f g = refl
same_moment None (Some y) f g = absurd (g y (omega arith))
same_moment (Some x) None f g = absurd (f x (omega arith))
same_moment (Some x) (Some y) f g = let one = f x (omega arith) in let two = g y (omega arith) in let e : x ≡ y = omega arith in ap Some e

-- the deadline over two openings that stand for all is that over all
pub two_deadline : (s : Curve) (h : HeldOpenings) (os : List Opening) (x : ℕ) → RisesFromZero s → StandFor s h os → h.last.count < x
    → deadline s (h.steep ∷ h.flat ∷ []) x ≡ deadline s os x
two_deadline s h os x k y n =
    same_moment (deadline s (h.steep ∷ h.flat ∷ []) x) (deadline s os x)
    (λ t c. let r = deadline_came s (h.steep ∷ h.flat ∷ []) t x c in
    deadline_comes s os t x (all_reach (slopes s k) t r.0 r.1.0))
    (λ t c. let r = deadline_came s os t x c in
    deadline_comes s (h.steep ∷ h.flat ∷ []) t x (one_of s h.steep t x os y.steep_in r, (one_of s h.flat t x os y.flat_in r, tt)))
  where
    pc : h.steep.count ≤ h.last.count
    pc = (up_to_last h.steep h.last os y.steep_in y.up_to).count

    qc : h.flat.count ≤ h.last.count
    qc = (up_to_last h.flat h.last os y.flat_in y.up_to).count

    all_reach : (s.m2 ≤ s.m1) ⊎ (s.m1 ≡ 0) → (t : ℕ) → x ≤ line s t h.steep → x ≤ line s t h.flat → Reaches s os t x
    all_reach (inl f) t p q = fall_reach s h t x os f (omega (arith, pc)) (omega (arith, qc)) n y.up_to (y.steep_low f) y.flat_low p q
    all_reach (inr e) t p q = rise_reach s h t x os e (omega (arith, qc)) n y.up_to y.flat_low q

-- two openings that are one
later_itself : (o : Option ℕ) → o ≡ later_of o (later_of o (Some 0))
later_itself None = refl
later_itself (Some t) = ap (λ n. Some n) (let e : t ≡ max t (max t 0) = omega arith in e)

pub one_line : (s : Curve) (p q : Opening) (x : ℕ) → p ≡ q → reached_at s q x ≡ deadline s (p ∷ q ∷ []) x
one_line s p q x e = subst (λ (o : Opening). reached_at s q x ≡ deadline s (o ∷ q ∷ []) x) (sym e) (later_itself (reached_at s q x))

-- a slope that falls makes eligible by itself
pub falls : (s : Curve) → (s.m1 ≤ s.m2 → ⊥) → eligible_curve s ≡ s
falls s h = let e : nat_le s.m2 s.m1 ≡ true = grind (arith, nat_tests, h) in rw e refl

pub rises_not : (s : Curve) → s.m2 ≤ s.m1 → eligible_curve s ≡ s
rises_not s h = let e : nat_le s.m2 s.m1 ≡ true = grind (arith, nat_tests, h) in rw e refl
