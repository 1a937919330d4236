-- What the search for an excess computes on its way.
use Rattle.std.specs.Prelude.{◌≡◌, ◌<◌, ◌≤◌, ℕ, max, min, sum_by, length, All, List, [], ◌∷◌, Option, None, Some}
use Rattle.service_curve.specs.declared.Curve.{Curve}
use Rattle.service_curve.specs.Curve.{IsInRange}
use Rattle.admission.specs.Fit.{IsAbove, IsBend}

-- as many curves as an interface may have, within their ranges
pub record AreInRange (ss : List Curve) : Type 0 where
  pub count : length ss ≤ 256
  pub each : All IsInRange ss

-- the last breakpoint, 0 where there is none
abbrev pub last_bend : List Curve → ℕ
last_bend [] = 0
last_bend (s ∷ ss) = max s.d (last_bend ss)

-- what the curves together gain in a nanosecond after the last breakpoint
abbrev pub slopes : List Curve → ℕ
slopes ss = sum_by (λ s. s.m2) ss

-- the bend of one of the curves, where it is a breakpoint and the sum of all is above
pub record IsOwnBendAbove (rate : ℕ) (ss : List Curve) (s : Curve) (t : ℕ) : Type 0 where
  pub bend : s.d ≡ t
  pub after : 0 < t
  pub above : IsAbove rate ss t

-- a breakpoint among some of the curves at which the sum of all is above
pub record IsBendAmong (rate : ℕ) (all some : List Curve) (t : ℕ) : Type 0 where
  pub bend : IsBend some t
  pub above : IsAbove rate all t

-- the earlier of two moments; `None` means never, and is later than every moment
abbrev pub earlier_of : Option ℕ → Option ℕ → Option ℕ
earlier_of None b = b
earlier_of (Some x) None = Some x
earlier_of (Some x) (Some y) = Some (min x y)
