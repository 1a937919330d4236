-- What a watch keeps of its classes.
use Rattle.std.specs.Prelude.{◌≡◌, ◌<◌, ◌==◌, ℕ, List, length, slice_get, Option, None, Some, if◌then◌else◌}
use Rattle.service_curve.specs.declared.Curve.{Curve}
use Rattle.hfsc_model.specs.declared.HfscClass.{HfscClass}
use Rattle.share_gaps.specs.declared.place.Place.{Place}
use Rattle.share_gaps.specs.declared.siblings.Siblings.{Siblings}
use Rattle.share_gaps.specs.Rows.{IsPlace}

-- the slope of a link-sharing curve without a first piece
abbrev pub line_rate : Option Curve → Option ℕ
line_rate None = None
line_rate (Some s) = if s.d == 0 then Some s.m2 else None

abbrev pub rate_of : HfscClass → Option ℕ
rate_of k = line_rate k.share

-- both classes of each row are among the first n
pub record ClassesAreWithin (n : ℕ) (s : Siblings) : Type 0 where
  pub first : s.first < n
  pub second : s.second < n

abbrev pub AreWithin : (n : ℕ) → List Siblings → Type 0
AreWithin n ss = (i : ℕ) (s : Siblings) → slice_get ss i ≡ Some s → ClassesAreWithin n s

pub record ArePlaces (cs : List HfscClass) (ss : List Siblings) (xs : List Place) : Type 0 where
  pub count : length xs ≡ length cs
  pub each : (c : ℕ) (x : Place) → slice_get xs c ≡ Some x → IsPlace cs ss c x
