-- Service curves of two pieces, after Stoica, Zhang and Ng, "A Hierarchical Fair Service Curve Algorithm for Link-Sharing,
-- Real-Time and Priority Services", SIGCOMM 1997. A curve says how much a class is to get in a time that begins when it
-- has something to send. Times are nanoseconds, slopes bits per second, amounts units: a slope m gives m·t units in t.
use Rattle.std.specs.Prelude.{◌==◌, ◌≤◌, ◌+◌, ◌-◌, ◌*◌, ◌/◌, ◌^◌, ℕ, min, nat_le, Option, None, Some, if◌then◌else◌}
use Rattle.service_curve.specs.declared.Curve.{Curve}

-- a curve by its numbers
abbrev pub curve : ℕ → ℕ → ℕ → Curve
curve m1 d m2 = record { m1 = m1; d = d; m2 = m2 }

-- the line from 0 of one slope
abbrev pub straight : ℕ → Curve
straight m = curve m 0 m

-- slopes of at most 10^12 bits per second, a bend within 10^15 nanoseconds
pub record IsInRange (s : Curve) : Type 0 where
  pub first : s.m1 ≤ 10 ^ 12
  pub bend : s.d ≤ 10 ^ 15
  pub second : s.m2 ≤ 10 ^ 12

-- the amount in a time t: the first slope for as much of t as lies before d, the second slope for the rest
abbrev pub amount : Curve → ℕ → ℕ
amount s t = s.m1 * min t s.d + s.m2 * (t - s.d)

-- the least time in which a slope gives an amount: the quotient, rounded up
abbrev pub time_at : ℕ → ℕ → ℕ
time_at slope wanted = (wanted + (slope - 1)) / slope

-- the least time in which the curve gives an amount, computed: in the first piece, never, or in the second piece
abbrev pub first : Curve → ℕ → Option ℕ
first s wanted =
    if nat_le wanted (s.m1 * s.d) then Some (time_at s.m1 wanted)
    else if s.m2 == 0 then None
    else Some (s.d + time_at s.m2 (wanted - s.m1 * s.d))
