-- What a value stands for, and what it answers by what it holds.
use Rattle.std.specs.Prelude.{◌≡◌, ◌≤◌, ◌<◌, ℕ, Bool, true, List, [], ◌∷◌, length, get_or, slice_get, slice_index_or, Option, None, Some, MatchOption, if◌then◌else◌}
use Rattle.std.specs.List.{find}
use Rattle.service_curve.specs.declared.Curve.{Curve}
use Rattle.runtime_curve.specs.declared.Opening.{Opening}
use Rattle.ranking.specs.Order.{is_before, is_in, key_of}
use Rattle.ranking.specs.Ranking.{keys_of, order_of}
use Rattle.hfsc_model.specs.Event.{HfscHistory}
use Rattle.hfsc_model.specs.Leaf.{leaf}
use Rattle.hfsc_model.specs.RealTime.{curve_of, has_come, soonest_of}
use Rattle.hfsc_eligible.specs.declared.slot.Slot.{Slot}
use Rattle.hfsc_eligible.specs.declared.Eligible.{Eligible}
use Rattle.hfsc_eligible.specs.Slot.{SlotStands, head_of, last_opening}

abbrev pub classes_of : Eligible → ℕ
classes_of e = length e.slots.items

abbrev pub head_in : Option Slot → Option ℕ
head_in None = None
head_in (Some x) = head_of x

-- the length of the head of a class
abbrev pub head_at : Eligible → ℕ → Option ℕ
head_at e c = head_in (slice_get e.slots.items c)

abbrev pub opening_in : Option Slot → Option Opening
opening_in None = None
opening_in (Some x) = last_opening x

-- the last opening of a class, where it has a curve
abbrev pub opening_at : Eligible → ℕ → Option Opening
opening_at e c = opening_in (slice_get e.slots.items c)

-- nothing waits in any class, and none has opened
pub record NoneHasOpened (e : Eligible) : Type 0 where
  pub empty : (c : ℕ) → head_at e c ≡ None
  pub closed : (c : ℕ) → opening_at e c ≡ None

-- the classes but one are as they were
pub record IsSameBut (class : ℕ) (old new : Eligible) : Type 0 where
  pub classes : classes_of new ≡ classes_of old
  pub heads : (c : ℕ) → (c ≡ class → ⊥) → head_at new c ≡ head_at old c
  pub openings : (c : ℕ) → (c ≡ class → ⊥) → opening_at new c ≡ opening_at old c

-- each class has the openings, the count and the head that it has after the history
pub record Represents (e : Eligible) (curves : List (Option Curve)) (h : HfscHistory) : Type 0 where
  pub classes : length e.slots.items ≡ length curves
  pub each : (c : ℕ) (d : Slot) → c < length e.slots.items → SlotStands (slice_index_or e.slots.items c d) (curve_of curves c) (leaf h c)

-- its answers, by what it holds
abbrev pub first_key : List (Option ℕ) → List ℕ → Option ℕ
first_key keys [] = None
first_key keys (c ∷ cs) = key_of keys c

abbrev pub soonest_now : Eligible → Option ℕ
soonest_now e = first_key (keys_of e.moments) (order_of e.moments)

abbrev pub pick_now : Eligible → ℕ → Option ℕ
pick_now e now = find (λ c. has_come (key_of (keys_of e.moments) c) now) (order_of e.deadlines)

-- the class at a place in the order of the moments, where its head is eligible
abbrev pub come_with : (ℕ → Bool) → Option ℕ → Option ℕ
come_with test None = None
come_with test (Some c) = if test c then Some c else None

abbrev pub come_at : Eligible → (place now : ℕ) → Option ℕ
come_at e place now = come_with (λ c. has_come (key_of (keys_of e.moments) c) now) (slice_get (order_of e.moments) place)

-- of the first classes of a list, up to a place, one that passes a test and goes before all others
pub record IsLeader (keys : List (Option ℕ)) (test : ℕ → Bool) (xs : List ℕ) (place best : ℕ) : Type 0 where
  pub there : is_in best xs ≡ true
  pub passes : test best ≡ true
  pub first : (j : ℕ) → j ≤ place → j < length xs → (get_or xs j 0 ≡ best → ⊥) → is_before keys best (get_or xs j 0) ≡ true

-- the least of the moments of classes, none where no class has one
pub record IsLeastKey (key : ℕ → Option ℕ) (t : ℕ) : Type 0 where
  pub one : (c : ℕ) × (key c ≡ Some t)
  pub least : (c u : ℕ) → key c ≡ Some u → t ≤ u

abbrev pub IsLeastOf : (ℕ → Option ℕ) → Option ℕ → Type 0
IsLeastOf key o = MatchOption o ((c : ℕ) → key c ≡ None) (λ t. IsLeastKey key t)

-- the least of the moments from which heads are eligible
abbrev pub IsLeastSoonest : List (Option Curve) → HfscHistory → Option ℕ → Type 0
IsLeastSoonest curves h o = IsLeastOf (λ c. soonest_of (curve_of curves c) (leaf h c)) o
