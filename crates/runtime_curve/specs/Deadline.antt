-- Deadlines and eligibility, computed opening by opening. The contracts state what they mean; these functions compute
-- them.
use Rattle.std.specs.Prelude.{◌+◌, ◌-◌, ℕ, max, nat_le, Bool, true, false, List, [], ◌∷◌, Option, None, Some, if◌then◌else◌}
use Rattle.service_curve.specs.declared.Curve.{Curve}
use Rattle.service_curve.specs.Curve.{first}
use Rattle.runtime_curve.specs.declared.Opening.{Opening}
use Rattle.runtime_curve.specs.Opening.{line, eligible_curve, newest}

-- the later of two moments; `None` means never, and is later than every moment
abbrev pub later_of : Option ℕ → Option ℕ → Option ℕ
later_of None b = None
later_of (Some x) None = None
later_of (Some x) (Some y) = Some (max x y)

-- a time from a moment on
abbrev pub shifted : ℕ → Option ℕ → Option ℕ
shifted at None = None
shifted at (Some t) = Some (at + t)

-- the first moment up to which an opening allows a count
abbrev pub reached_at : Curve → Opening → ℕ → Option ℕ
reached_at s o count = if nat_le count o.count then Some 0 else shifted o.at (first s (count - o.count))

-- the first moment up to which all openings do
abbrev pub deadline : Curve → List Opening → ℕ → Option ℕ
deadline s [] count = Some 0
deadline s (o ∷ os) count = later_of (reached_at s o count) (deadline s os count)

-- all openings allow a count up to a moment
abbrev pub reaches : Curve → List Opening → ℕ → ℕ → Bool
reaches s [] t count = true
reaches s (o ∷ os) t count = if nat_le count (line s t o) then reaches s os t count else false

-- the first moment, not before the last opening, at which all openings allow the count by the curve that makes eligible
abbrev pub from_last : Option Opening → Option ℕ → Option ℕ
from_last None t = t
from_last (Some last) t = later_of t (Some last.at)

abbrev pub soonest_from : Option Opening → Curve → List Opening → ℕ → Option ℕ
soonest_from last s os count = from_last last (deadline (eligible_curve s) os count)

abbrev pub soonest : Curve → List Opening → ℕ → Option ℕ
soonest s os count = soonest_from (newest os) s os count
