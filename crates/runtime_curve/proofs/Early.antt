-- What makes packets eligible, by two openings that stand for all.
use Rattle.std.proofs.Common.{◌≡◌, ◌≤◌, ◌-◌, ◌*◌, ℕ, min, Bool, true, false, List, [], ◌∷◌, Some, refl, ap, sym, arith, ◌∙◌}
use Rattle.std.specs.Prelude.{nat_le, if◌then◌else◌}
use Rattle.std.specs.declared.option.Option.{Option}
use Rattle.service_curve.specs.declared.Curve.{Curve}
use Rattle.service_curve.specs.Curve.{amount, straight}
use Rattle.service_curve.specs.Moment.{IsFirst, HasCome}
use Rattle.service_curve.proofs.Firsts.{first_of}
use Rattle.runtime_curve.specs.declared.Opening.{Opening}
use Rattle.runtime_curve.specs.declared.held.HeldOpenings.{HeldOpenings}
use Rattle.runtime_curve.specs.Opening.{line, Reaches, least_over, IsAtLeast, eligible_curve, IsFrom}
use Rattle.runtime_curve.specs.Deadline.{deadline, reaches, from_last, soonest}
use Rattle.runtime_curve.specs.Held.{Lower, LowerThanAll, AreUpTo, StandFor}
use Rattle.runtime_curve.proofs.Reaching.{reaches_true, true_reaches, least_reaches, least_reached}
use Rattle.runtime_curve.proofs.Deadlines.{deadline_comes, deadline_came, later_comes, later_came}
use Rattle.runtime_curve.proofs.TwoLines.{falling_line, times_after, one_of, up_to_last, same_moment}

-- no opening is later than a moment
abbrev ComeBy : ℕ → List Opening → Type 0
ComeBy t [] = Unit {0}
ComeBy t (o ∷ os) = (o.at ≤ t) × ComeBy t os

come_by : (last : Opening) (t : ℕ) (os : List Opening) → AreUpTo last os → last.at ≤ t → ComeBy t os
come_by last t [] x h = tt
come_by last t (o ∷ os) x h = let one : o.at ≤ last.at = x.0.at in (omega arith, come_by last t os x.1 h)

along : (m y : ℕ) → amount (straight m) y ≡ m * y
along m y =
    let none : min y 0 ≡ 0 = omega arith in
    let all : y - 0 ≡ y = omega arith in
    let two = ap (λ z. m * z) none in
    let three = ap (λ z. m * z) all in
    omega arith

straight_line : (m : ℕ) (q o : Opening) (t x : ℕ) → q.at ≤ t → o.at ≤ t → Lower m q o → x ≤ line (straight m) t q → x ≤ line (straight m) t o
straight_line m q o t x a b low f =
    let one = along m (t - q.at) in
    let two = along m (t - o.at) in
    let three = times_after m t q.at a in
    let four = times_after m t o.at b in
    omega arith

falling_all : (s : Curve) (p q : Opening) (t x : ℕ) (os : List Opening) → s.m2 ≤ s.m1 → p.at ≤ t → q.at ≤ t → ComeBy t os
    → LowerThanAll s.m1 p os → LowerThanAll s.m2 q os → x ≤ line s t p → x ≤ line s t q → Reaches s os t x
falling_all s p q t x [] h a b c low lower f g = tt
falling_all s p q t x (o ∷ os) h a b c low lower f g =
    (falling_line s p q o t x h a b c.0 low.0 lower.0 f g, falling_all s p q t x os h a b c.1 low.1 lower.1 f g)

straight_all : (m : ℕ) (q : Opening) (t x : ℕ) (os : List Opening) → q.at ≤ t → ComeBy t os → LowerThanAll m q os → x ≤ line (straight m) t q → Reaches (straight m) os t x
straight_all m q t x [] a c low f = tt
straight_all m q t x (o ∷ os) a c low f = (straight_line m q o t x a c.0 low.0 f, straight_all m q t x os a c.1 low.1 f)

same_truth : (a b : Bool) → (a ≡ true → b ≡ true) → (b ≡ true → a ≡ true) → a ≡ b
same_truth true true f g = refl
same_truth true false f g = sym (f refl)
same_truth false true f g = g refl
same_truth false false f g = refl

-- at a moment that no opening is later than, two openings that stand for all reach what all reach
both_for_all : (s : Curve) (h : HeldOpenings) (os : List Opening) (t x : ℕ) → StandFor s h os → h.last.at ≤ t
    → Reaches (eligible_curve s) (h.steep ∷ h.flat ∷ []) t x → Reaches (eligible_curve s) os t x
both_for_all s h os t x y k = go (nat_le s.m2 s.m1) refl
  where
    come : ComeBy t os
    come = come_by h.last t os y.up_to k

    pt : h.steep.at ≤ t
    pt = let one : h.steep.at ≤ h.last.at = (up_to_last h.steep h.last os y.steep_in y.up_to).at in omega arith

    qt : h.flat.at ≤ t
    qt = let one : h.flat.at ≤ h.last.at = (up_to_last h.flat h.last os y.flat_in y.up_to).at in omega arith

    go : (b : Bool) → nat_le s.m2 s.m1 ≡ b → Reaches (if b then s else straight s.m2) (h.steep ∷ h.flat ∷ []) t x → Reaches (if b then s else straight s.m2) os t x
    go true e r = falling_all s h.steep h.flat t x os (grind (arith, e)) pt qt come (y.steep_low (grind (arith, e))) y.flat_low r.0 r.1.0
    go false e r = straight_all s.m2 h.flat t x os qt come y.flat_low r.1.0

all_for_both : (s e : Curve) (h : HeldOpenings) (os : List Opening) (t x : ℕ) → StandFor s h os → Reaches e os t x → Reaches e (h.steep ∷ h.flat ∷ []) t x
all_for_both s e h os t x y r = (one_of e h.steep t x os y.steep_in r, (one_of e h.flat t x os y.flat_in r, tt))

pub two_eligible : (s : Curve) (h : HeldOpenings) (os : List Opening) (t x : ℕ) → StandFor s h os → h.last.at ≤ t
    → reaches (eligible_curve s) (h.steep ∷ h.flat ∷ []) t x ≡ reaches (eligible_curve s) os t x
two_eligible s h os t x y k =
    let e = eligible_curve s in
    same_truth (reaches (eligible_curve s) (h.steep ∷ h.flat ∷ []) t x) (reaches (eligible_curve s) os t x)
    (λ w. true_reaches (eligible_curve s) os t x (both_for_all s h os t x y k (reaches_true (eligible_curve s) (h.steep ∷ h.flat ∷ []) t x w)))
    (λ w. true_reaches (eligible_curve s) (h.steep ∷ h.flat ∷ []) t x (all_for_both s (eligible_curve s) h os t x y (reaches_true (eligible_curve s) os t x w)))

-- the moment from which the openings reach a count, not before the last of them
pub soonest_comes : (s : Curve) (os : List Opening) (last : Opening) (t x : ℕ) → last.at ≤ t → Reaches (eligible_curve s) os t x
    → HasCome (from_last (Some last) (deadline (eligible_curve s) os x)) t
soonest_comes s os last t x k r =
    later_comes (deadline (eligible_curve s) os x) (Some last.at) t (deadline_comes (eligible_curve s) os t x r) k

pub soonest_came : (s : Curve) (os : List Opening) (last : Opening) (t x : ℕ) → HasCome (from_last (Some last) (deadline (eligible_curve s) os x)) t
    → (last.at ≤ t) × Reaches (eligible_curve s) os t x
soonest_came s os last t x c =
    let both = later_came (deadline (eligible_curve s) os x) (Some last.at) t c in
    (both.1, deadline_came (eligible_curve s) os t x both.0)

two_soonest_last : (s : Curve) (h : HeldOpenings) (os : List Opening) (x : ℕ) → StandFor s h os
    → from_last (Some h.last) (deadline (eligible_curve s) (h.steep ∷ h.flat ∷ []) x) ≡ from_last (Some h.last) (deadline (eligible_curve s) os x)
two_soonest_last s h os x y =
    same_moment (from_last (Some h.last) (deadline (eligible_curve s) (h.steep ∷ h.flat ∷ []) x)) (from_last (Some h.last) (deadline (eligible_curve s) os x))
    (λ t c. let r = soonest_came s (h.steep ∷ h.flat ∷ []) h.last t x c in soonest_comes s os h.last t x r.0 (both_for_all s h os t x y r.0 r.1))
    (λ t c. let r = soonest_came s os h.last t x c in
    soonest_comes s (h.steep ∷ h.flat ∷ []) h.last t x r.0 (all_for_both s (eligible_curve s) h os t x y r.1))

pub two_soonest : (s : Curve) (h : HeldOpenings) (os : List Opening) (x : ℕ) → StandFor s h os
    → from_last (Some h.last) (deadline (eligible_curve s) (h.steep ∷ h.flat ∷ []) x) ≡ soonest s os x
two_soonest s h os x y =
    two_soonest_last s h os x y ∙ ap (λ (o : Option Opening). from_last o (deadline (eligible_curve s) os x)) (sym y.last)

-- it is the first such moment
soonest_first_last : (s : Curve) (o : Opening) (os : List Opening) (x : ℕ)
    → IsFirst (λ t. IsFrom (o ∷ os) t × IsAtLeast (least_over (eligible_curve s) (o ∷ os) t) x) (soonest s (o ∷ os) x)
soonest_first_last s o os x =
    first_of (λ t. IsFrom (o ∷ os) t × IsAtLeast (least_over (eligible_curve s) (o ∷ os) t) x) (soonest s (o ∷ os) x)
    (λ t r. soonest_comes s (o ∷ os) o t x r.0 (least_reached (eligible_curve s) (o ∷ os) t x r.1))
    (λ t c. let r = soonest_came s (o ∷ os) o t x c in (r.0, least_reaches (eligible_curve s) (o ∷ os) t x r.1))

pub soonest_is_first : (s : Curve) (os : List Opening) (x : ℕ)
    → IsFirst (λ t. IsFrom os t × IsAtLeast (least_over (eligible_curve s) os t) x) (soonest s os x)
soonest_is_first s [] x = ((tt, tt), λ t r. omega arith)
soonest_is_first s (o ∷ os) x = soonest_first_last s o os x
