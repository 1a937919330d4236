-- Counts, totals and virtual times are small.
use Rattle.std.proofs.Common.{◌≡◌, ◌≤◌, ◌<◌, ◌+◌, ◌-◌, ◌*◌, ◌^◌, ℕ, zero, suc, Bool, true, false, List, [], ◌∷◌, None, Some, refl, ap, arith}
use Rattle.std.specs.Prelude.{Option, ◌==◌, nat_le, map, if◌then◌else◌}
use Rattle.std.specs.List.{filter}
use Rattle.std.proofs.lemmas.Bool.Decides.{nat_tests}
use Rattle.play_base.specs.Units.{units}
use Rattle.service_curve.specs.declared.Curve.{Curve}
use Rattle.service_curve.specs.Curve.{first, time_at}
use Rattle.service_curve.proofs.Firsts.{time_comes}
use Rattle.service_curve.proofs.Amounts.{mul_mono}
use Rattle.runtime_curve.specs.declared.Opening.{Opening}
use Rattle.runtime_curve.specs.Opening.{opening}
use Rattle.runtime_curve.specs.Deadline.{deadline, later_of, reached_at, shifted}
use Rattle.hfsc_model.specs.declared.HfscClass.{HfscClass}
use Rattle.hfsc_model.specs.Event.{HfscHistory, Enqueued, Sent as HfscSent}
use Rattle.hfsc_model.specs.Leaf.{leaf, after_kept, after_sent}
use Rattle.hfsc_model.specs.Tree.{class_of, is_under}
use Rattle.hfsc_model.specs.Share.{active, total, activates, or_zero, virtual_time_of, greatest, least, activation, siblings, activation_time, has_parent, activations, virtual_time}
use Rattle.hfsc_policy.specs.Classes.{IsClassTree}
use Rattle.hfsc_policy.specs.Heads.{longest, AreWithin, AreFew, kept_in, sent_in, units_in}

-- no bend of a curve is later than this
abbrev bend : ℕ
bend = 10 ^ 15

-- the bends of the packets that were kept, and the units that were sent
abbrev bound : HfscHistory → ℕ
bound h = kept_in h * bend + units_in h

-- a moment that is there is no later than this
abbrev AtMost : ℕ → Option ℕ → Type 0
AtMost b None = Unit {0}
AtMost b (Some x) = x ≤ b

time_most : (m w : ℕ) → time_at m w ≤ w
time_most zero w = grind arith
time_most (suc m) w = time_comes (suc m) w w (omega arith) (let one = mul_mono w 1 (suc m) (omega arith) in omega (arith, one))

first_most : (s : Curve) (w : ℕ) → AtMost (s.d + w) (first s w)
first_most s w = go (nat_le w (s.m1 * s.d)) (s.m2 == 0)
  where
    go : (b z : Bool) → AtMost (s.d + w) (if b then Some (time_at s.m1 w) else if z then None else Some (s.d + time_at s.m2 (w - s.m1 * s.d)))
    go true z = let one = time_most s.m1 w in omega (arith, one)
    go false true = tt
    go false false = let one = time_most s.m2 (w - s.m1 * s.d) in omega (arith, one)

shifted_most : (at b : ℕ) (o : Option ℕ) → AtMost b o → AtMost (at + b) (shifted at o)
shifted_most at b None x = tt
shifted_most at b (Some t) x = omega (arith, x)

more_most : (b c : ℕ) (o : Option ℕ) → b ≤ c → AtMost b o → AtMost c o
more_most b c None l x = tt
more_most b c (Some t) l x = omega (arith, l, x)

later_most : (b : ℕ) (o p : Option ℕ) → AtMost b o → AtMost b p → AtMost b (later_of o p)
later_most b None p x y = tt
later_most b (Some u) None x y = tt
later_most b (Some u) (Some v) x y = omega (arith, x, y)

-- no opening is later than this, and from it on the units sent since and a bend take no longer
abbrev AreBy : (most total : ℕ) → List Opening → Type 0
AreBy b u [] = Unit {0}
AreBy b u (o ∷ os) = (o.at ≤ b) × (o.at + bend + u ≤ b + o.count) × AreBy b u os

more_by : (b c u w : ℕ) (os : List Opening) → b ≤ c → w + b ≤ u + c → AreBy b u os → AreBy c w os
more_by b c u w [] k l x = tt
more_by b c u w (o ∷ os) k l x = (omega (arith, x.0, k), omega (arith, x.1, l), more_by b c u w os k l x.2)

reached_most : (s : Curve) (o : Opening) (b u : ℕ) → s.d ≤ bend → o.at + bend + u ≤ b + o.count → AtMost b (reached_at s o u)
reached_most s o b u d x = go (nat_le u o.count) refl
  where
    go : (k : Bool) → nat_le u o.count ≡ k → AtMost b (if k then Some 0 else shifted o.at (first s (u - o.count)))
    go true e = omega arith
    go false e =
        more_most (o.at + (s.d + (u - o.count))) b (shifted o.at (first s (u - o.count))) (grind (arith, nat_tests, e, d, x))
        (shifted_most o.at (s.d + (u - o.count)) (first s (u - o.count)) (first_most s (u - o.count)))

deadline_most : (s : Curve) (os : List Opening) (b u : ℕ) → s.d ≤ bend → AreBy b u os → AtMost b (deadline s os u)
deadline_most s [] b u d x = omega arith
deadline_most s (o ∷ os) b u d x = later_most b (reached_at s o u) (deadline s os u) (reached_most s o b u d x.1) (deadline_most s os b u d x.2)

zero_most : (b : ℕ) (o : Option ℕ) → AtMost b o → or_zero o ≤ b
zero_most b None x = omega arith
zero_most b (Some t) x = x

time_by : (o : Option Curve) (os : List Opening) (b u : ℕ) → ((s : Curve) → o ≡ Some s → s.d ≤ bend) → AreBy b u os → virtual_time_of o os u ≤ b
time_by o [] b u d x = omega arith
time_by None (p ∷ os) b u d x = omega (arith, x.0)
time_by (Some s) (p ∷ os) b u d x =
    let one = zero_most b (deadline s (p ∷ os) u) (deadline_most s (p ∷ os) b u (d s refl) x) in
    omega (arith, x.0, one)

-- an activation is no later than the virtual times that are
all_most : (f : ℕ → ℕ) (b : ℕ) (xs : List ℕ) → ((c : ℕ) → f c ≤ b) → greatest (map f xs) ≤ b
all_most f b [] h = omega arith
all_most f b (x ∷ xs) h = let one = h x in let rest = all_most f b xs h in omega (arith, one, rest)

least_most : (v b : ℕ) (vs : List ℕ) → v ≤ b → least v vs ≤ b
least_most v b [] h = h
least_most v b (w ∷ ws) h = omega (arith, h)

activation_most : (own high b : ℕ) (vs : List ℕ) → own ≤ b → high ≤ b → greatest vs ≤ b → activation own vs high ≤ b
activation_most own high b [] o h g = omega (arith, o, h)
activation_most own high b (v ∷ vs) o h g =
    let first : v ≤ b = omega (arith, g) in
    let low = least_most v b vs first in
    omega (arith, o, g, low)

-- over a history
total_most : (cs : List HfscClass) (h : HfscHistory) (c : ℕ) → total cs h c ≤ units_in h
total_most cs [] c = omega arith
total_most cs (Enqueued d at len ∷ h) c = total_most cs h c
total_most cs (HfscSent d len real start ∷ h) c = go (is_under cs c d) (total_most cs h c)
  where
    go : (b : Bool) → total cs h c ≤ units_in h → (if b then total cs h c + units len else total cs h c) ≤ units_in h + units len
    go true l = omega (arith, l)
    go false l = omega (arith, l)

grown : (cs : List HfscClass) (h : HfscHistory) (c d len start : ℕ) (real : Bool) → total cs (HfscSent d len real start ∷ h) c ≤ total cs h c + units len
grown cs h c d len start real = go (is_under cs c d)
  where
    go : (b : Bool) → (if b then total cs h c + units len else total cs h c) ≤ total cs h c + units len
    go true = omega arith
    go false = omega arith

-- the activations of a class with a parent; other classes have none
abbrev IsBy : List HfscClass → HfscHistory → ℕ → Type 0
IsBy cs h c = (has_parent cs c ≡ true → AreBy (bound h) (total cs h c) (activations cs h c)) × (has_parent cs c ≡ false → activations cs h c ≡ [])

time_most_of : (cs : List HfscClass) (h : HfscHistory) (c : ℕ) → IsClassTree cs → IsBy cs h c → virtual_time cs h c ≤ bound h
time_most_of cs h c k x = go (has_parent cs c) refl
  where
    go : (b : Bool) → has_parent cs c ≡ b → virtual_time cs h c ≤ bound h
    go true e = time_by (class_of cs c).share (activations cs h c) (bound h) (total cs h c) (λ s f. (k.shares c s e f).bend) (x.0 e)
    go false e = let same = ap (λ (os : List Opening). virtual_time_of (class_of cs c).share os (total cs h c)) (x.1 e) in omega (arith, same)

activation_by : (cs : List HfscClass) (h : HfscHistory) (c : ℕ) → ((d : ℕ) → virtual_time cs h d ≤ bound h) → activation_time cs h (activations cs h) c ≤ bound h
activation_by cs h c f =
    let all = siblings cs c (class_of cs c).parent in
    activation_most (virtual_time cs h c) (greatest (map (virtual_time cs h) all)) (bound h) (map (virtual_time cs h) (filter (active cs h) all)) (f c)
    (all_most (virtual_time cs h) (bound h) all f) (all_most (virtual_time cs h) (bound h) (filter (active cs h) all) f)

are_by : (cs : List HfscClass) (h : HfscHistory) (c : ℕ) → IsClassTree cs → IsBy cs h c
are_by cs [] c k = (λ e. tt, λ e. refl)
are_by cs (Enqueued d at len ∷ h) c k = go (has_parent cs c) refl (are_by cs h c k) (activation_by cs h c (λ e. time_most_of cs h e k (are_by cs h e k)))
  where
    more : AreBy (bound h) (total cs h c) (activations cs h c) → AreBy (bound (Enqueued d at len ∷ h)) (total cs h c) (activations cs h c)
    more x = more_by (bound h) (bound (Enqueued d at len ∷ h)) (total cs h c) (total cs h c) (activations cs h c) (omega arith) (omega arith) x

    new : (b : Bool) → activation_time cs h (activations cs h) c ≤ bound h → AreBy (bound h) (total cs h c) (activations cs h c)
        → AreBy (bound (Enqueued d at len ∷ h)) (total cs h c)
        (if b then opening (activation_time cs h (activations cs h) c) (total cs h c) ∷ activations cs h c else activations cs h c)
    new true l x = (omega (arith, l), omega (arith, l), more x)
    new false l x = more x

    go : (b : Bool) → has_parent cs c ≡ b → IsBy cs h c → activation_time cs h (activations cs h) c ≤ bound h → IsBy cs (Enqueued d at len ∷ h) c
    go true e x l = (λ f. rw e (new (activates cs h d c) l (x.0 e)), λ f. absurd cc)
    go false e x l = (λ f. absurd cc, λ f. rw e (x.1 e))
are_by cs (HfscSent d len real start ∷ h) c k =
    let x = are_by cs h c k in
    let l = grown cs h c d len start real in
    (λ e. more_by (bound h) (bound (HfscSent d len real start ∷ h)) (total cs h c) (total cs (HfscSent d len real start ∷ h) c) (activations cs h c) (omega arith) (omega (arith, l)) (x.0 e), x.1)

pub count_most : (h : HfscHistory) (c : ℕ) → (leaf h c).count ≤ units_in h
count_most [] c = omega arith
count_most (Enqueued d at len ∷ h) c = go (d == c) (count_most h c)
  where
    go : (b : Bool) → (leaf h c).count ≤ units_in h → (if b then after_kept at len (leaf h c) else leaf h c).count ≤ units_in h
    go true l = l
    go false l = l
count_most (HfscSent d len real start ∷ h) c = go (d == c) real (count_most h c)
  where
    go : (b r : Bool) → (leaf h c).count ≤ units_in h → (if b then after_sent len r (leaf h c) else leaf h c).count ≤ units_in h + units len
    go true true l = omega (arith, l)
    go true false l = omega (arith, l)
    go false r l = omega (arith, l)

-- how much that is
units_most : (h : HfscHistory) → AreWithin h → units_in h ≤ sent_in h * units longest
units_most [] w = omega arith
units_most (Enqueued c at len ∷ h) w = units_most h w.1
units_most (HfscSent c len real start ∷ h) w = let one = units_most h w.1 in omega (arith, one, w.0)

all_units : (h : HfscHistory) → AreFew h → units_in h ≤ 2 ^ 73
all_units h f = let one = units_most h f.within in omega (arith, one, f.kept, f.sent)

bound_most : (h : HfscHistory) → AreFew h → bound h < 2 ^ 75
bound_most h f = let one = all_units h f in omega (arith, one, f.kept)

pub counts_small : (h : HfscHistory) (c : ℕ) → AreFew h → (leaf h c).count ≤ 2 ^ 73
counts_small h c f = let one = count_most h c in let two = all_units h f in omega (arith, one, two)

-- exactly the packets times the longest
pub total_within : (cs : List HfscClass) (h : HfscHistory) (c : ℕ) → AreFew h → total cs h c ≤ 8388608 * 10 ^ 15
total_within cs h c f = let one = total_most cs h c in let two = units_most h f.within in omega (arith, one, two, f.kept, f.sent)

pub totals_small : (cs : List HfscClass) (h : HfscHistory) (c : ℕ) → AreFew h → total cs h c ≤ 2 ^ 73
totals_small cs h c f = let one = total_most cs h c in let two = all_units h f in omega (arith, one, two)

pub times_small : (cs : List HfscClass) (h : HfscHistory) (c : ℕ) → IsClassTree cs → AreFew h → virtual_time cs h c < 2 ^ 75
times_small cs h c k f = let one = time_most_of cs h c k (are_by cs h c k) in let two = bound_most h f in omega (arith, one, two)
