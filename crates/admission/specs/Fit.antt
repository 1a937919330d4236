-- Whether service curves fit a link, so that it can keep all of them at once: the condition of Stoica, Zhang and Ng, "A
-- Hierarchical Fair Service Curve Algorithm for Link-Sharing, Real-Time and Priority Services", SIGCOMM 1997. Moments are
-- nanoseconds, amounts units, rates bits per second.
use Rattle.std.specs.Prelude.{◌≡◌, ◌<◌, ◌≤◌, ◌⊎◌, ◌+◌, ◌*◌, ℕ, sum_by, List, [], ◌∷◌, None, Some}
use Rattle.service_curve.specs.declared.Curve.{Curve}
use Rattle.service_curve.specs.Curve.{amount}
use Rattle.service_curve.specs.Moment.{IsFirst}

-- what all curves together give in a time
abbrev pub total : List Curve → ℕ → ℕ
total ss t = sum_by (λ s. amount s t) ss

-- at no moment is their sum above what the link carries
abbrev pub Fits : ℕ → List Curve → Type 0
Fits rate ss = (t : ℕ) → total ss t ≤ rate * t

-- at this moment it is above
abbrev pub IsAbove : ℕ → List Curve → ℕ → Type 0
IsAbove rate ss t = rate * t < total ss t

-- a breakpoint: where one of the curves has its bend, 0 being none
abbrev pub IsBend : List Curve → ℕ → Type 0
IsBend [] t = ⊥
IsBend (s ∷ ss) t = ((s.d ≡ t) × (0 < t)) ⊎ IsBend ss t

-- a breakpoint at which the sum is above
pub record IsBendAbove (rate : ℕ) (ss : List Curve) (t : ℕ) : Type 0 where
  pub bend : IsBend ss t
  pub above : IsAbove rate ss t

-- a moment after the last breakpoint, after 0 where there is none, at which the sum is above
pub record IsPastAbove (rate : ℕ) (ss : List Curve) (t : ℕ) : Type 0 where
  pub past : (u : ℕ) → IsBend ss u → u < t
  pub after : 0 < t
  pub above : IsAbove rate ss t

-- the moment that is named: the least breakpoint at which the sum is above, or where there is none, the least moment after
-- all breakpoints
abbrev pub IsExcessMoment : ℕ → List Curve → ℕ → Type 0
IsExcessMoment rate ss at =
    IsFirst (IsBendAbove rate ss) (Some at) ⊎ (IsFirst (IsBendAbove rate ss) None × IsFirst (IsPastAbove rate ss) (Some at))

-- an excess: where the sum is above, and by how much
pub record IsExcess (rate : ℕ) (ss : List Curve) (at by : ℕ) : Type 0 where
  pub moment : IsExcessMoment rate ss at
  pub amount : rate * at + by ≡ total ss at
  pub some : 0 < by
