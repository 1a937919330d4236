-- What a class holds of its real-time curve, and what it answers by that.
use Rattle.std.specs.Prelude.{◌≡◌, ◌≤◌, ◌+◌, ℕ, Bool, true, false, List, Option, None, Some, IsSome}
use Rattle.play_base.specs.Units.{units}
use Rattle.service_curve.specs.declared.Curve.{Curve}
use Rattle.service_curve.specs.Curve.{IsInRange}
use Rattle.runtime_curve.specs.declared.Opening.{Opening}
use Rattle.runtime_curve.specs.declared.Running.{Running}
use Rattle.runtime_curve.specs.Opening.{RisesFromZero}
use Rattle.runtime_curve.specs.Running.{Represents, last_of, deadline_now, soonest_now}

-- a curve that a class may have
pub record IsCurve (s : Curve) : Type 0 where
  pub in_range : IsInRange s
  pub slopes : RisesFromZero s

abbrev pub CanCarry : Option Curve → Type 0
CanCarry o = (s : Curve) → o ≡ Some s → IsCurve s

-- the last opening
abbrev pub last_in : Option Running → Option Opening
last_in None = None
last_in (Some r) = last_of r

-- the last opening has no greater count than this
abbrev pub UpTo : ℕ → Option Running → Type 0
UpTo count o = (last : Opening) → last_in o ≡ Some last → last.count ≤ count

-- a class with a curve has an opening
abbrev pub IsOpen : Option Running → Type 0
IsOpen o = (r : Running) → o ≡ Some r → IsSome (last_of r)

-- a head that waits in a class with a curve; its deadline, and the first moment from which it may be sent
abbrev pub holds_head : Option Running → Option ℕ → Bool
holds_head None head = false
holds_head (Some r) None = false
holds_head (Some r) (Some len) = true

abbrev pub deadline_in : Option Running → ℕ → Option ℕ → Option ℕ
deadline_in None count head = None
deadline_in (Some r) count None = None
deadline_in (Some r) count (Some len) = deadline_now r (count + units len)

abbrev pub soonest_in : Option Running → ℕ → Option ℕ → Option ℕ
soonest_in None count head = None
soonest_in (Some r) count None = None
soonest_in (Some r) count (Some len) = soonest_now r count

-- it stands for a curve, none where it is 0 everywhere, and its openings
abbrev pub RealStands : Option Running → Option Curve → List Opening → Type 0
RealStands None None os = Unit {0}
RealStands None (Some s) os = ⊥
RealStands (Some r) None os = ⊥
RealStands (Some r) (Some s) os = Represents r s os
