-- What a class holds of one of its curves.
use Rattle.std.specs.Prelude.{◌≡◌, ◌≤◌, ℕ, nat_le, Bool, true, List, Option, None, Some, IsSome, if◌then◌else◌}
use Rattle.service_curve.specs.declared.Curve.{Curve}
use Rattle.service_curve.specs.Curve.{IsInRange}
use Rattle.runtime_curve.specs.declared.Opening.{Opening}
use Rattle.runtime_curve.specs.declared.Running.{Running}
use Rattle.runtime_curve.specs.Opening.{RisesFromZero}
use Rattle.runtime_curve.specs.Deadline.{soonest}
use Rattle.hfsc_model.specs.declared.HfscClass.{HfscClass}
use Rattle.runtime_curve.specs.Running.{Represents, last_of}

-- a curve that a class may have
pub record IsCurve (s : Curve) : Type 0 where
  pub in_range : IsInRange s
  pub slopes : RisesFromZero s

abbrev pub CanCarry : Option Curve → Type 0
CanCarry o = (s : Curve) → o ≡ Some s → IsCurve s

-- the last opening
abbrev pub last_in : Option Running → Option Opening
last_in None = None
last_in (Some r) = last_of r

-- the last opening is not later than this moment, and has no greater count than this
abbrev pub IsBy : ℕ → Option Running → Type 0
IsBy at o = (last : Opening) → last_in o ≡ Some last → last.at ≤ at

abbrev pub IsUpTo : ℕ → Option Running → Type 0
IsUpTo count o = (last : Opening) → last_in o ≡ Some last → last.count ≤ count

-- a class with a curve has an opening, where it is active
abbrev pub IsOpen : Bool → Option Running → Type 0
IsOpen active o = active ≡ true → (r : Running) → o ≡ Some r → IsSome (last_of r)

-- it stands for a curve and its openings
abbrev pub RunningStands : Option Running → Option Curve → List Opening → Type 0
RunningStands None None os = Unit {0}
RunningStands None (Some s) os = ⊥
RunningStands (Some r) None os = ⊥
RunningStands (Some r) (Some s) os = Represents r s os

-- the root takes no virtual time, so its link-sharing curve has no effect
abbrev pub share_of : HfscClass → Option Curve
share_of k = elim k.parent [ None ↦ None | Some p ↦ k.share ]

-- the moment from which a limit lets a class be served
abbrev pub limit_opens : Option Curve → List Opening → ℕ → Option ℕ
limit_opens None os u = Some 0
limit_opens (Some s) os u = soonest s os u

-- a moment, 0 in place of one that is not after `last`: from then on they tell the same
abbrev pub since : ℕ → Option ℕ → Option ℕ
since last None = None
since last (Some t) = if nat_le t last then Some 0 else Some t
