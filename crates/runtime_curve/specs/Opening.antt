-- The openings of a class, and what its curve allows it over all of them: the deadline curve and the eligible curve of
-- Stoica, Zhang and Ng, "A Hierarchical Fair Service Curve Algorithm for Link-Sharing, Real-Time and Priority Services",
-- SIGCOMM 1997. Moments are nanoseconds, counts and amounts are units. Lists of openings stand with the newest first.
use Rattle.std.specs.Prelude.{◌≡◌, ◌<◌, ◌≤◌, ◌+◌, ◌-◌, ◌^◌, ℕ, min, nat_le, List, [], ◌∷◌, Option, None, Some, if◌then◌else◌}
use Rattle.service_curve.specs.declared.Curve.{Curve}
use Rattle.service_curve.specs.Curve.{amount, straight}
use Rattle.runtime_curve.specs.declared.Opening.{Opening}

-- an opening by its numbers
abbrev pub opening : ℕ → ℕ → Opening
opening at count = record { at = at; count = count }

-- what one opening allows up to a moment: its count, and what the curve gives from it on. Before the opening the
-- difference is 0, and so the curve gives nothing
abbrev pub line : Curve → ℕ → Opening → ℕ
line s t o = o.count + amount s (t - o.at)

abbrev pub least_of : ℕ → Option ℕ → Option ℕ
least_of x None = Some x
least_of x (Some y) = Some (min x y)

-- the least, over all openings, of what they allow up to a moment; none where there is no opening
abbrev pub least_over : Curve → List Opening → ℕ → Option ℕ
least_over s [] t = None
least_over s (o ∷ os) t = least_of (line s t o) (least_over s os t)

-- such a least reaches a count
abbrev pub IsAtLeast : Option ℕ → ℕ → Type 0
IsAtLeast None count = Unit {0}
IsAtLeast (Some x) count = count ≤ x

-- the same for each opening by itself
abbrev pub Reaches : Curve → List Opening → ℕ → ℕ → Type 0
Reaches s [] t count = Unit {0}
Reaches s (o ∷ os) t count = (count ≤ line s t o) × Reaches s os t count

-- the curve whose least over all openings makes a packet eligible: the curve itself, or, where its slope rises, the line
-- of its second slope
abbrev pub eligible_curve : Curve → Curve
eligible_curve s = if nat_le s.m2 s.m1 then s else straight s.m2

-- a slope that rises rises from 0
abbrev pub RisesFromZero : Curve → Type 0
RisesFromZero s = s.m1 < s.m2 → s.m1 ≡ 0

pub record OpeningFits (o : Opening) : Type 0 where
  pub at : o.at < 2 ^ 80
  pub count : o.count < 2 ^ 100

-- the last opening
abbrev pub newest : List Opening → Option Opening
newest [] = None
newest (o ∷ os) = Some o

-- a moment is not before the last opening
abbrev pub IsFrom : List Opening → ℕ → Type 0
IsFrom [] t = Unit {0}
IsFrom (o ∷ os) t = o.at ≤ t
