-- Openings that stand for all: the lowest by each slope, and the last. A line of slope m through an opening is its count
-- at its moment, and rises and falls by m a nanosecond after and before it.
use Rattle.std.specs.Prelude.{◌≡◌, ◌≤◌, ◌+◌, ◌*◌, ◌⊎◌, ℕ, List, [], ◌∷◌, Option, None, Some}
use Rattle.service_curve.specs.declared.Curve.{Curve}
use Rattle.runtime_curve.specs.declared.Opening.{Opening}
use Rattle.runtime_curve.specs.declared.held.HeldOpenings.{HeldOpenings}
use Rattle.runtime_curve.specs.declared.held.Kept.{Kept}
use Rattle.runtime_curve.specs.declared.held.Kept.TheVariants.{Nothing, One, Three}
use Rattle.runtime_curve.specs.Opening.{OpeningFits, newest}

-- the line of this slope through the first opening is nowhere above that through the second
abbrev pub Lower : ℕ → Opening → Opening → Type 0
Lower m p o = p.count + m * o.at ≤ o.count + m * p.at

abbrev pub LowerThanAll : ℕ → Opening → List Opening → Type 0
LowerThanAll m p [] = Unit {0}
LowerThanAll m p (o ∷ os) = Lower m p o × LowerThanAll m p os

abbrev pub IsOneOf : Opening → List Opening → Type 0
IsOneOf p [] = ⊥
IsOneOf p (o ∷ os) = (p ≡ o) ⊎ IsOneOf p os

-- an opening is not later than another, and has no greater count
pub record IsUpTo (last o : Opening) : Type 0 where
  pub at : o.at ≤ last.at
  pub count : o.count ≤ last.count

abbrev pub AreUpTo : Opening → List Opening → Type 0
AreUpTo last [] = Unit {0}
AreUpTo last (o ∷ os) = IsUpTo last o × AreUpTo last os

-- where the slope does not fall both lines are that of the second slope
abbrev pub AreOne : Curve → HeldOpenings → Type 0
AreOne s h = s.m1 ≤ s.m2 → h.steep ≡ h.flat

-- the lowest by each slope stand for all, the one by the first slope where the slope does not rise; the last is the newest,
-- and no other is later or of greater count
pub record StandFor (s : Curve) (h : HeldOpenings) (os : List Opening) : Type 0 where
  pub steep_in : IsOneOf h.steep os
  pub flat_in : IsOneOf h.flat os
  pub steep_low : s.m2 ≤ s.m1 → LowerThanAll s.m1 h.steep os
  pub flat_low : LowerThanAll s.m2 h.flat os
  pub last : newest os ≡ Some h.last
  pub up_to : AreUpTo h.last os

-- if no line is held there was no opening
abbrev pub Stand : Curve → Option HeldOpenings → List Opening → Type 0
Stand s None os = os ≡ []
Stand s (Some h) os = StandFor s h os

abbrev pub last_held : Option HeldOpenings → Option Opening
last_held None = None
last_held (Some h) = Some h.last

-- the openings to which the questions are put
abbrev pub both : Option HeldOpenings → List Opening
both None = []
both (Some h) = h.steep ∷ h.flat ∷ []

-- one opening that stands for all
abbrev pub held_one : Opening → HeldOpenings
held_one o = record { steep = o; flat = o; last = o }

-- what is kept, as three openings
abbrev pub three : Kept → Option HeldOpenings
three Nothing = None
three (One o) = Some (held_one o)
three (Three h) = Some h

-- openings that are held: none is later than the last or of greater count
pub record AreHeldOpenings (s : Curve) (h : HeldOpenings) : Type 0 where
  pub steep : OpeningFits h.steep
  pub flat : OpeningFits h.flat
  pub steep_order : IsUpTo h.last h.steep
  pub flat_order : IsUpTo h.last h.flat
  pub one : AreOne s h

pub record IsKept (s : Curve) (k : Kept) : Type 0 where
  pub one : (o : Opening) → k ≡ One o → OpeningFits o
  pub three : (h : HeldOpenings) → k ≡ Three h → AreHeldOpenings s h

-- the line of the second slope through a new opening is not below that through the only one, where there is only one
abbrev pub IsAboveOne : Curve → Kept → Opening → Type 0
IsAboveOne s k new = (o : Opening) → k ≡ One o → Lower s.m2 o new

-- an opening may follow those that are held
abbrev pub MayFollow : Option HeldOpenings → Opening → Type 0
MayFollow o new = (h : HeldOpenings) → o ≡ Some h → IsUpTo new h.last
