-- The choice by real time: the eligible head of least deadline, after Stoica, Zhang and Ng, "A Hierarchical Fair Service
-- Curve Algorithm for Link-Sharing, Real-Time and Priority Services", SIGCOMM 1997. `curves` has the real-time curve of each
-- class, where it has one.
use Rattle.std.specs.Prelude.{◌≡◌, ◌≤◌, ◌==◌, ◌&&◌, ◌+◌, ℕ, nat_le, nat_lt, Bool, true, false, List, [], ◌∷◌, length, slice_get, Option, None, Some, if◌then◌else◌}
use Rattle.std.specs.List.{filter, range_with_len}
use Rattle.play_base.specs.Units.{units}
use Rattle.service_curve.specs.declared.Curve.{Curve}
use Rattle.runtime_curve.specs.declared.Opening.{Opening}
use Rattle.runtime_curve.specs.Opening.{eligible_curve}
use Rattle.runtime_curve.specs.Deadline.{deadline, reaches, soonest}
use Rattle.hfsc_model.specs.Event.{HfscHistory}
use Rattle.hfsc_model.specs.Leaf.{Leaf, Waiting, leaf, is_waiting}

-- a curve that is 0 everywhere counts as none
abbrev pub is_zero : Curve → Bool
is_zero s = (s.m1 == 0) && (s.m2 == 0)

abbrev pub unless_zero : Option Curve → Option Curve
unless_zero None = None
unless_zero (Some s) = if is_zero s then None else Some s

-- the real-time curve of a class
abbrev pub curve_in : Option (Option Curve) → Option Curve
curve_in None = None
curve_in (Some o) = unless_zero o

abbrev pub curve_of : List (Option Curve) → ℕ → Option Curve
curve_of curves c = curve_in (slice_get curves c)

-- the deadline of the head: the first moment at which the deadline curve reaches the count with the head. `None` means never
abbrev pub deadline_of : Curve → Leaf → List Waiting → Option ℕ
deadline_of s l [] = None
deadline_of s l (w ∷ ws) = deadline s l.openings (l.count + units w.len)

-- the head may be sent by real time: the eligible curve has reached the count
abbrev pub is_eligible : Option Curve → Leaf → ℕ → Bool
is_eligible None l now = false
is_eligible (Some s) l now = is_waiting l.waiting && reaches (eligible_curve s) l.openings now l.count

-- the first moment, not before the last opening, from which it may be
abbrev pub soonest_of : Option Curve → Leaf → Option ℕ
soonest_of None l = None
soonest_of (Some s) l = if is_waiting l.waiting then soonest s l.openings l.count else None

abbrev pub head_deadline : Option Curve → Leaf → Option ℕ
head_deadline None l = None
head_deadline (Some s) l = deadline_of s l l.waiting

-- a class with a head that waits, and with a real-time curve
abbrev pub has_head : Option Curve → Leaf → Bool
has_head None l = false
has_head (Some s) l = is_waiting l.waiting

-- a moment is not later than now, where `None` means never
abbrev pub has_come : Option ℕ → ℕ → Bool
has_come None now = false
has_come (Some t) now = nat_le t now

-- the first moment is before the second, where `None` means never
abbrev pub is_earlier : Option ℕ → Option ℕ → Bool
is_earlier None b = false
is_earlier (Some x) None = true
is_earlier (Some x) (Some y) = nat_lt x y

-- of two classes with these moments the first goes first: the earlier moment, and of equal moments the class that stands
-- earlier in the file
abbrev pub goes_first : Option ℕ → ℕ → Option ℕ → ℕ → Bool
goes_first a c b d = if is_earlier a b then true else if is_earlier b a then false else nat_lt c d

-- the head of the first class goes first
abbrev pub before : List (Option Curve) → HfscHistory → ℕ → ℕ → Bool
before curves h c d = goes_first (head_deadline (curve_of curves c) (leaf h c)) c (head_deadline (curve_of curves d) (leaf h d)) d

abbrev pub IsEligible : List (Option Curve) → HfscHistory → ℕ → ℕ → Type 0
IsEligible curves h now c = is_eligible (curve_of curves c) (leaf h c) now ≡ true

-- the eligible head of least deadline, one without a deadline coming after all others, a tie going to the class that stands
-- earlier in the file
pub record IsRealPick (curves : List (Option Curve)) (h : HfscHistory) (now c : ℕ) : Type 0 where
  pub eligible : IsEligible curves h now c
  pub first : (d : ℕ) → IsEligible curves h now d → (d ≡ c → ⊥)
      → before curves h c d ≡ true

-- the pick, computed: of the classes with an eligible head the one that goes first
abbrev pub first_by : (ℕ → ℕ → Bool) → List ℕ → Option ℕ
first_by goes [] = None
first_by goes (c ∷ cs) = elim (first_by goes cs) [ None ↦ Some c | Some d ↦ if goes c d then Some c else Some d ]

abbrev pub real_pick : List (Option Curve) → HfscHistory → ℕ → Option ℕ
real_pick curves h now =
    first_by (before curves h) (filter (λ c. is_eligible (curve_of curves c) (leaf h c) now) (range_with_len 0 (length curves)))

-- no head may be sent by real time
abbrev pub NoneIsEligible : List (Option Curve) → HfscHistory → ℕ → Type 0
NoneIsEligible curves h now = (c : ℕ) → IsEligible curves h now c → ⊥

-- no opening is later than a moment
abbrev pub IsOpenBy : List Opening → ℕ → Type 0
IsOpenBy [] now = Unit {0}
IsOpenBy (o ∷ os) now = (o.at ≤ now) × IsOpenBy os now

abbrev pub AreOpenBy : HfscHistory → ℕ → Type 0
AreOpenBy h now = (c : ℕ) → IsOpenBy (leaf h c).openings now
