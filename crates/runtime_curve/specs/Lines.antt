-- Whether an opening is known to allow a count by a moment.
use Rattle.std.specs.Prelude.{◌&&◌, ◌^◌, ℕ, nat_le, nat_lt, Bool, false, Option, None, Some}
use Rattle.service_curve.specs.declared.Curve.{Curve}
use Rattle.runtime_curve.specs.declared.Opening.{Opening}
use Rattle.runtime_curve.specs.Opening.{line}

-- a moment is there, early enough for the amounts of a curve, and the opening allows the count up to it
abbrev pub allows_by : Curve → Opening → Option ℕ → ℕ → Bool
allows_by s o None count = false
allows_by s o (Some t) count = nat_lt t (2 ^ 80) && nat_le count (line s t o)
