-- What a row of the report says.
use Rattle.std.specs.Prelude.{◌≡◌, ◌≤◌, ◌+◌, ◌*◌, ℕ, true, false, List, map, Option, None, Some}
use Rattle.play_base.specs.Units.{ceil_div}
use Rattle.hfsc_model.specs.declared.HfscClass.{HfscClass}
use Rattle.hfsc_model.specs.Event.{HfscHistory}
use Rattle.hfsc_model.specs.Tree.{class_of, is_child}
use Rattle.fair_shares.specs.Sharing.{most_step}
use Rattle.share_gaps.specs.declared.gap.Gap.{Gap}
use Rattle.share_gaps.specs.declared.siblings.Siblings.{Siblings}
use Rattle.share_gaps.specs.Bounds.{shares_alone}
use Rattle.share_gaps.specs.Greatest.{IsGreatest}
use Rattle.share_gaps.specs.Rows.{rows}
use Rattle.share_gaps.specs.Watching.{gap_after}
use Rattle.share_gaps.specs.Within.{rate_of}

-- the greatest difference of two siblings over all stretches of common activity, by both rates, rounded up
pub record IsGapIn (cs : List HfscClass) (h : HfscHistory) (s : Siblings) (rate other : ℕ) (gap : Option ℕ) : Type 0 where
  pub difference : ℕ
  pub greatest : IsGreatest cs h s.first s.second rate other difference
  pub rounded : gap ≡ Some (ceil_div difference (rate * other))

-- there is a gap where both curves are lines, and a bound where there is a gap and link sharing alone decides
pub record IsGapOf (cs : List HfscClass) (h : HfscHistory) (s : Siblings) (g : Gap) : Type 0 where
  pub first : g.first ≡ s.first
  pub second : g.second ≡ s.second
  pub lines : (rate other : ℕ) → rate_of (class_of cs s.first) ≡ Some rate → rate_of (class_of cs s.second) ≡ Some other → IsGapIn cs h s rate other g.gap
  pub first_bent : rate_of (class_of cs s.first) ≡ None → g.gap ≡ None
  pub second_bent : rate_of (class_of cs s.second) ≡ None → g.gap ≡ None
  pub bounded : (p x : ℕ) → shares_alone cs ≡ true → g.gap ≡ Some x → is_child cs p s.first ≡ true → g.bound ≡ Some (2 * most_step cs h p + 2)
  pub not_alone : shares_alone cs ≡ false → g.bound ≡ None
  pub no_gap : g.gap ≡ None → g.bound ≡ None

-- what is answered of a row
pub record IsReported (cs : List HfscClass) (h : HfscHistory) (s : Siblings) (answer : Option Gap) : Type 0 where
  pub gap : Gap
  pub is : answer ≡ Some gap
  pub tells : IsGapOf cs h s gap

-- the gaps of all pairs of siblings after a history, in the order of the file of the first, then of the second
abbrev pub gaps_after : List HfscClass → HfscHistory → List Gap
gaps_after cs h = map (gap_after cs h) (rows cs)

-- where there is a bound the gap is within it
abbrev pub IsWithinBound : Option Gap → Type 0
IsWithinBound answer = (g : Gap) (gap bound : ℕ) → answer ≡ Some g → g.gap ≡ Some gap → g.bound ≡ Some bound → gap ≤ bound
