-- What is held of all classes.
use Rattle.std.specs.Prelude.{◌≡◌, ◌≤◌, ◌+◌, ◌++◌, ℕ, List, [], ◌∷◌, length, get_or, Option, None, Some}
use Rattle.service_curve.specs.declared.Curve.{Curve}
use Rattle.service_curve.specs.Curve.{IsInRange}
use Rattle.runtime_curve.specs.Opening.{RisesFromZero}
use Rattle.fate_check.specs.declared.reading.Row.{Row}
use Rattle.fate_timely.specs.declared.given.Late.{Late}
use Rattle.fate_timely.specs.declared.leaf.Leaf.{Leaf}
use Rattle.fate_timely.specs.Leaf.{IsLeaf}
use Rattle.fate_timely.specs.Timely.{ForCurve, StartsInTurn, curve_at, sent_rows}

-- a curve that a class of HFSC can have: a slope that rises rises from 0
pub record IsRealTime (s : Curve) : Type 0 where
  pub range : IsInRange s
  pub rises : RisesFromZero s

abbrev pub AreRealTime : List (Option Curve) → Type 0
AreRealTime curves = (class : ℕ) → ForCurve (curve_at curves class) IsRealTime

abbrev pub leaf_at : List (Option Leaf) → (class : ℕ) → Option Leaf
leaf_at leaves class = get_or leaves class None

-- a leaf is held exactly where the class has a curve
abbrev pub IsLeafOf : Option Curve → (class : ℕ) → (before : List Row) → Option Leaf → Type 0
IsLeafOf None class before o = o ≡ None
IsLeafOf (Some s) class before None = ⊥
IsLeafOf (Some s) class before (Some leaf) = IsLeaf s (sent_rows class before) leaf

-- what is held after the rows before one
pub record AreDues (curves : List (Option Curve)) (before : List Row) (leaves : List (Option Leaf)) : Type 0 where
  pub size : length leaves ≡ length curves
  pub each : (class : ℕ) → IsLeafOf (curve_at curves class) class before (leaf_at leaves class)

-- no leaf has more units than this
abbrev pub ForLeaf : Option Leaf → (Leaf → Type 0) → Type 0
ForLeaf None P = Unit {0}
ForLeaf (Some leaf) P = P leaf

abbrev pub UnitsAreUpTo : (n : ℕ) → List (Option Leaf) → Type 0
UnitsAreUpTo n leaves = (class : ℕ) → ForLeaf (leaf_at leaves class) (λ leaf. leaf.units ≤ n)

-- a row may be told of
abbrev pub IsToTell : List (Option Leaf) → Row → Type 0
IsToTell leaves r = (curves : List (Option Curve)) × (before : List Row) × AreDues curves before leaves × StartsInTurn before r

-- how late the classes from one on came, by what is held of them
abbrev pub added : (class : ℕ) → Option Leaf → List Late
added class None = []
added class (Some leaf) = record { class = class; worst = leaf.worst } ∷ []

abbrev pub listed : (class : ℕ) → List (Option Leaf) → List Late
listed class [] = []
listed class (o ∷ leaves) = added class o ++ listed (class + 1) leaves
