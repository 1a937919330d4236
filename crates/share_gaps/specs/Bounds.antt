-- The bound of a gap, computed.
use Rattle.std.specs.Prelude.{◌&&◌, ◌+◌, ◌*◌, ℕ, not, is_some, Bool, true, List, map, Option, None, Some}
use Rattle.std.specs.List.{filter, list_all}
use Rattle.play_base.specs.Units.{ceil_div}
use Rattle.service_curve.specs.declared.Curve.{Curve}
use Rattle.hfsc_model.specs.declared.HfscClass.{HfscClass}
use Rattle.hfsc_model.specs.RealTime.{is_zero}
use Rattle.hfsc_model.specs.Share.{greatest}
use Rattle.hfsc_model.specs.Tree.{class_of, is_child, numbers}
use Rattle.fair_shares.specs.Sharing.{step_of}

abbrev pub is_idle : Option Curve → Bool
is_idle None = true
is_idle (Some s) = is_zero s

-- no upper limit, and no real-time curve but for one that is 0 everywhere
abbrev pub is_alone : HfscClass → Bool
is_alone k = not (is_some k.limit) && is_idle k.real

abbrev pub shares_alone : List HfscClass → Bool
shares_alone ks = list_all is_alone ks

-- the greatest step of the children of class p for u units
abbrev pub most_of : List HfscClass → (p amount : ℕ) → ℕ
most_of cs p u = greatest (map (λ c. step_of (class_of cs c).share u) (filter (is_child cs p) (numbers cs)))

-- the greatest difference by both rates, rounded up
abbrev pub gap_of : (most : ℕ) → Option ℕ → Option ℕ → Option ℕ
gap_of most None o = None
gap_of most (Some rate) None = None
gap_of most (Some rate) (Some other) = Some (ceil_div most (rate * other))

-- twice the greatest step, and 2
abbrev pub bound_of : List HfscClass → Option ℕ → (amount : ℕ) → Option ℕ
bound_of cs None u = None
bound_of cs (Some p) u = Some (2 * most_of cs p u + 2)
