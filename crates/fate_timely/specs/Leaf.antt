-- What is held of a class with a curve.
use Rattle.std.specs.Prelude.{◌≡◌, ◌≤◌, ◌^◌, ℕ, nat_lt, Bool, true, List, [], ◌∷◌, Option, None, Some, if◌then◌else◌, MatchOption, IsSomeAnd}
use Rattle.service_curve.specs.declared.Curve.{Curve}
use Rattle.service_curve.specs.Curve.{IsInRange}
use Rattle.runtime_curve.specs.declared.Opening.{Opening}
use Rattle.runtime_curve.specs.Opening.{opening}
use Rattle.runtime_curve.specs.Running.{Represents, last_of}
use Rattle.hfsc_model.specs.RealTime.{IsOpenBy}
use Rattle.hfsc_model.specs.Timely.{opens, units_of, Row as SentRow}
use Rattle.fate_timely.specs.declared.leaf.Leaf.{Leaf}
use Rattle.fate_timely.specs.Timely.{worst}

-- the openings where a packet of this arrival is the next that is sent
abbrev pub opens_with : (at : ℕ) → List SentRow → List Opening
opens_with at [] = opening at 0 ∷ []
opens_with at (q ∷ rs) = if nat_lt q.start at then opening at (units_of (q ∷ rs)) ∷ opens (q ∷ rs) else opens (q ∷ rs)

-- whether it opens the class, by the last start
abbrev pub opens_at : Option ℕ → (at : ℕ) → Bool
opens_at None at = true
opens_at (Some last) at = nat_lt last at

abbrev pub last_start : List SentRow → Option ℕ
last_start [] = None
last_start (r ∷ rs) = Some r.start

-- the last opening is not later than this, and has no more units
abbrev pub OpenBy : Leaf → (at : ℕ) → Type 0
OpenBy leaf at = IsSomeAnd (last_of leaf.running) (λ o. (o.at ≤ at) × (o.count ≤ leaf.units))

-- there is an opening exactly where something was sent, and it is not later than the last start
abbrev pub IsSound : Leaf → Type 0
IsSound leaf = MatchOption leaf.last (last_of leaf.running ≡ None) (OpenBy leaf)

-- it stands for the packets that the class sent
pub record IsLeaf (s : Curve) (rs : List SentRow) (leaf : Leaf) : Type 0 where
  pub range : IsInRange s
  pub running : Represents leaf.running s (opens rs)
  pub units : leaf.units ≡ units_of rs
  pub last : leaf.last ≡ last_start rs
  pub sound : IsSound leaf
  pub early : IsOpenBy (opens rs) (2 ^ 64)
  pub worst : leaf.worst ≡ worst s rs
