-- A virtual time never falls.
use Rattle.std.proofs.Common.{◌≡◌, ◌≤◌, ◌+◌, ◌-◌, ◌*◌, ℕ, zero, suc, Bool, true, false, List, [], ◌∷◌, None, Some, refl, ap, arith}
use Rattle.std.specs.Prelude.{Option, ◌==◌, ◌&&◌, nat_le, map, if◌then◌else◌}
use Rattle.std.specs.List.{filter}
use Rattle.std.proofs.lemmas.Bool.Decides.{nat_tests}
use Rattle.play_base.specs.Units.{units}
use Rattle.service_curve.specs.declared.Curve.{Curve}
use Rattle.service_curve.specs.Curve.{first, time_at}
use Rattle.std.proofs.Math.Nat.{div-zero}
use Rattle.service_curve.proofs.Firsts.{time_comes, time_reaches}
use Rattle.runtime_curve.specs.declared.Opening.{Opening}
use Rattle.runtime_curve.specs.Opening.{opening}
use Rattle.runtime_curve.specs.Deadline.{deadline, later_of, reached_at, shifted}
use Rattle.hfsc_model.specs.declared.HfscClass.{HfscClass}
use Rattle.hfsc_model.specs.Event.{HfscEvent, HfscHistory, Enqueued, Sent}
use Rattle.hfsc_model.specs.Tree.{class_of, is_under}
use Rattle.hfsc_model.specs.Share.{active, activates, activation, activation_time, activations, greatest, has_parent, or_zero, siblings, total, virtual_time, virtual_time_of}
use Rattle.hfsc_order.specs.Order.{AreBehind, HaveSlopes}

-- both moments are there, and the second is not before the first
abbrev AreInOrder : Option ℕ → Option ℕ → Type 0
AreInOrder (Some x) (Some y) = x ≤ y
AreInOrder None y = ⊥
AreInOrder (Some x) None = ⊥

time_rises : (m x y : ℕ) → 1 ≤ m → x ≤ y → time_at m x ≤ time_at m y
time_rises m x y some le =
    let there = time_reaches m y (time_at m y) (omega arith) (omega arith) in
    time_comes m x (time_at m y) (omega arith) (omega (arith, there, le))

first_rises : (s : Curve) (x y : ℕ) → 1 ≤ s.m2 → x ≤ y → AreInOrder (first s x) (first s y)
first_rises s x y some le = go (nat_le x (s.m1 * s.d)) refl (nat_le y (s.m1 * s.d)) refl (s.m2 == 0) refl
  where
    zero_slope : (w : ℕ) → time_at 0 w ≤ 0
    zero_slope w = omega (arith, div-zero (w + (0 - 1)))

    within : (m d w : ℕ) → w ≤ m * d → time_at m w ≤ d
    within zero d w l = let none = zero_slope w in omega (arith, none)
    within (suc m) d w l = time_comes (suc m) w d (omega arith) l

    rises : (m : ℕ) → time_at m x ≤ time_at m y
    rises zero = omega (arith, div-zero (x + (0 - 1)), div-zero (y + (0 - 1)))
    rises (suc m) = time_rises (suc m) x y (omega arith) le

    go : (b : Bool) → nat_le x (s.m1 * s.d) ≡ b → (c : Bool) → nat_le y (s.m1 * s.d) ≡ c → (z : Bool) → (s.m2 == 0) ≡ z
        → AreInOrder (if b then Some (time_at s.m1 x) else if z then None else Some (s.d + time_at s.m2 (x - s.m1 * s.d)))
        (if c then Some (time_at s.m1 y) else if z then None else Some (s.d + time_at s.m2 (y - s.m1 * s.d)))
    go b e c f true g = absurd (grind (arith, nat_tests, g, some))
    go true e true f false g = rises s.m1
    go true e false f false g =
        let low : x ≤ s.m1 * s.d = grind (arith, nat_tests, e) in
        let by = within s.m1 s.d x low in
        omega (arith, by)
    go false e true f false g = absurd (grind (arith, nat_tests, e, f, le))
    go false e false f false g = let more = time_rises s.m2 (x - s.m1 * s.d) (y - s.m1 * s.d) some (omega (arith, le)) in omega (arith, more)

shifted_rises : (at : ℕ) (o p : Option ℕ) → AreInOrder o p → AreInOrder (shifted at o) (shifted at p)
shifted_rises at None p x = absurd x
shifted_rises at (Some u) None x = absurd x
shifted_rises at (Some u) (Some v) x = omega (arith, x)

after_zero : (o : Option ℕ) → AreInOrder o o → AreInOrder (Some 0) o
after_zero None x = absurd x
after_zero (Some t) x = omega arith

later_rises : (a b c d : Option ℕ) → AreInOrder a c → AreInOrder b d → AreInOrder (later_of a b) (later_of c d)
later_rises None b c d x y = absurd x
later_rises (Some p) b None d x y = absurd x
later_rises (Some p) None (Some q) d x y = absurd y
later_rises (Some p) (Some r) (Some q) None x y = absurd y
later_rises (Some p) (Some r) (Some q) (Some t) x y = omega (arith, x, y)

reached_rises : (s : Curve) (o : Opening) (x y : ℕ) → 1 ≤ s.m2 → x ≤ y → AreInOrder (reached_at s o x) (reached_at s o y)
reached_rises s o x y some le = go (nat_le x o.count) refl (nat_le y o.count) refl
  where
    go : (b : Bool) → nat_le x o.count ≡ b → (c : Bool) → nat_le y o.count ≡ c
        → AreInOrder (if b then Some 0 else shifted o.at (first s (x - o.count))) (if c then Some 0 else shifted o.at (first s (y - o.count)))
    go true e true f = omega arith
    go true e false f =
        let w = y - o.count in
        after_zero (shifted o.at (first s w)) (shifted_rises o.at (first s w) (first s w) (first_rises s w w some (omega arith)))
    go false e true f = absurd (grind (arith, nat_tests, e, f, le))
    go false e false f = shifted_rises o.at (first s (x - o.count)) (first s (y - o.count)) (first_rises s (x - o.count) (y - o.count) some (omega (arith, le)))

deadline_rises : (s : Curve) (os : List Opening) (x y : ℕ) → 1 ≤ s.m2 → x ≤ y → AreInOrder (deadline s os x) (deadline s os y)
deadline_rises s [] x y some le = omega arith
deadline_rises s (o ∷ os) x y some le =
    later_rises (reached_at s o x) (deadline s os x) (reached_at s o y) (deadline s os y) (reached_rises s o x y some le) (deadline_rises s os x y some le)

zero_rises : (o p : Option ℕ) → AreInOrder o p → or_zero o ≤ or_zero p
zero_rises None p x = absurd x
zero_rises (Some u) None x = absurd x
zero_rises (Some u) (Some v) x = x

time_of_rises : (s : Option Curve) (os : List Opening) (x y : ℕ) → ((k : Curve) → s ≡ Some k → 1 ≤ k.m2) → x ≤ y
    → virtual_time_of s os x ≤ virtual_time_of s os y
time_of_rises s [] x y some le = omega arith
time_of_rises None (o ∷ os) x y some le = omega arith
time_of_rises (Some k) (o ∷ os) x y some le =
    let more = zero_rises (deadline k (o ∷ os) x) (deadline k (o ∷ os) y) (deadline_rises k (o ∷ os) x y (some k refl) le) in
    omega (arith, more)

total_rises : (cs : List HfscClass) (h : HfscHistory) (c d len start : ℕ) (real : Bool) → total cs h c ≤ total cs (Sent d len real start ∷ h) c
total_rises cs h c d len start real = go (is_under cs c d)
  where
    go : (b : Bool) → total cs h c ≤ (if b then total cs h c + units len else total cs h c)
    go true = omega arith
    go false = omega arith

-- a class without a parent has no activation
none_above : (cs : List HfscClass) (h : HfscHistory) (c : ℕ) → has_parent cs c ≡ false → activations cs h c ≡ []
none_above cs [] c e = refl
none_above cs (Enqueued d at len ∷ h) c e = rw e (none_above cs h c e)
none_above cs (Sent d len real start ∷ h) c e = none_above cs h c e

sent_rises : (cs : List HfscClass) (h : HfscHistory) (c d len start : ℕ) (real : Bool) → HaveSlopes cs
    → virtual_time cs h c ≤ virtual_time cs (Sent d len real start ∷ h) c
sent_rises cs h c d len start real some = go (has_parent cs c) refl
  where
    go : (b : Bool) → has_parent cs c ≡ b → virtual_time cs h c ≤ virtual_time cs (Sent d len real start ∷ h) c
    go true e = time_of_rises (class_of cs c).share (activations cs h c) (total cs h c) (total cs (Sent d len real start ∷ h) c)
        (λ k f. some c k e f) (total_rises cs h c d len start real)
    go false e =
        let none = none_above cs h c e in
        let zero_now = ap (λ (os : List Opening). virtual_time_of (class_of cs c).share os (total cs h c)) none in
        omega (arith, zero_now)

own_first : (own high : ℕ) (vs : List ℕ) → own ≤ activation own vs high
own_first own high [] = omega arith
own_first own high (v ∷ vs) = omega arith

opened_rises : (s : Option Curve) (o : Opening) (os : List Opening) (u own : ℕ) → own ≤ o.at → own ≤ virtual_time_of s (o ∷ os) u
opened_rises s o os u own le = omega (arith, le)

kept_rises : (cs : List HfscClass) (h : HfscHistory) (c d at len : ℕ) → virtual_time cs h c ≤ virtual_time cs (Enqueued d at len ∷ h) c
kept_rises cs h c d at len = go (has_parent cs c && activates cs h d c)
  where
    at_least : virtual_time cs h c ≤ activation_time cs h (activations cs h) c
    at_least = own_first (virtual_time cs h c) (greatest (map (virtual_time cs h) (siblings cs c (class_of cs c).parent)))
        (map (virtual_time cs h) (filter (active cs h) (siblings cs c (class_of cs c).parent)))

    go : (b : Bool) → virtual_time cs h c ≤ virtual_time_of (class_of cs c).share
        (if b then opening (activation_time cs h (activations cs h) c) (total cs h c) ∷ activations cs h c else activations cs h c) (total cs h c)
    go true = opened_rises (class_of cs c).share (opening (activation_time cs h (activations cs h) c) (total cs h c)) (activations cs h c) (total cs h c)
        (virtual_time cs h c) at_least
    go false = omega arith

pub rises : (cs : List HfscClass) (e : HfscEvent) (h : HfscHistory) (c : ℕ) → HaveSlopes cs → virtual_time cs h c ≤ virtual_time cs (e ∷ h) c
rises cs (Enqueued d at len) h c some = kept_rises cs h c d at len
rises cs (Sent d len real start) h c some = sent_rises cs h c d len start real some

behind : (cs : List HfscClass) (h : HfscHistory) (c time : ℕ) → HaveSlopes cs → virtual_time cs h c ≤ time → AreBehind cs c time h
behind cs [] c time some le = le
behind cs (e ∷ h) c time some le =
    let step = rises cs e h c some in
    (le, behind cs h c time some (omega (arith, step, le)))

pub are_behind : (cs : List HfscClass) (h : HfscHistory) (c : ℕ) → HaveSlopes cs → AreBehind cs c (virtual_time cs h c) h
are_behind cs h c some = behind cs h c (virtual_time cs h c) some (omega arith)
