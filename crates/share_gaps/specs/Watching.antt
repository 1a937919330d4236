-- What a watch stands for.
use Rattle.std.specs.Prelude.{◌≡◌, ◌≤◌, ◌<◌, ◌&&◌, ℕ, List, length, slice_get, is_some, Option, None, Some, if◌then◌else◌}
use Rattle.hfsc_model.specs.declared.HfscClass.{HfscClass}
use Rattle.hfsc_model.specs.Event.{HfscHistory}
use Rattle.hfsc_model.specs.Share.{or_zero}
use Rattle.hfsc_model.specs.Timely.{longest}
use Rattle.hfsc_model.specs.Tree.{class_of}
use Rattle.hfsc_policy.specs.Classes.{IsClassTree}
use Rattle.hfsc_policy.specs.Heads.{AreHeads, kept_in}
use Rattle.play_base.specs.Units.{units}
use Rattle.share_gaps.specs.declared.gap.Gap.{Gap}
use Rattle.share_gaps.specs.declared.lead.Lead.{Lead}
use Rattle.share_gaps.specs.declared.siblings.Siblings.{Siblings}
use Rattle.share_gaps.specs.declared.watch.Watch.{Watch}
use Rattle.share_gaps.specs.Bounds.{bound_of, gap_of, shares_alone}
use Rattle.share_gaps.specs.Leads.{held, lead, most_lead}
use Rattle.share_gaps.specs.Within.{rate_of}

-- the rate of a class, 0 where its curve is no line
abbrev pub rate_in : List HfscClass → (c : ℕ) → ℕ
rate_in cs c = or_zero (rate_of (class_of cs c))

-- the leads of two siblings after a history
abbrev pub lead_of : List HfscClass → Siblings → HfscHistory → Lead
lead_of cs s h = record {
  first = lead cs s.first s.second (rate_in cs s.first) (rate_in cs s.second) h;
  second = lead cs s.second s.first (rate_in cs s.second) (rate_in cs s.first) h;
  most = most_lead cs s.first s.second (rate_in cs s.first) (rate_in cs s.second) h;
}

abbrev pub classes_of : Watch → List HfscClass
classes_of w = w.classes.items

-- these packets that wait, leads and longest packet are what a history leaves, in which heads were sent and few packets kept
pub record Stand (cs : List HfscClass) (ss : List Siblings) (waiting : List ℕ) (leads : List Lead) (most : ℕ) (h : HfscHistory) : Type 0 where
  pub tree : IsClassTree cs
  pub heads : AreHeads h
  pub few : kept_in h ≤ 4000000
  pub longest_is : most ≡ longest h
  pub waits : (c : ℕ) → c < length cs → slice_get waiting c ≡ Some (held cs c h)
  pub lead_at : (i : ℕ) (s : Siblings) → slice_get ss i ≡ Some s → slice_get leads i ≡ Some (lead_of cs s h)

abbrev pub Represents : Watch → HfscHistory → Type 0
Represents w h = Stand w.classes.items w.siblings.items w.waiting.items w.leads.items w.longest h

-- the gap of two siblings after a history
abbrev pub gap_in : List HfscClass → HfscHistory → Siblings → Option ℕ
gap_in cs h s =
    gap_of (most_lead cs s.first s.second (rate_in cs s.first) (rate_in cs s.second) h) (rate_of (class_of cs s.first)) (rate_of (class_of cs s.second))

-- and its bound, where there is a gap and link sharing alone decides
abbrev pub bound_in : List HfscClass → HfscHistory → Siblings → Option ℕ
bound_in cs h s =
    if shares_alone cs && is_some (gap_in cs h s) then bound_of cs (class_of cs s.first).parent (units (longest h)) else None

abbrev pub gap_after : List HfscClass → HfscHistory → Siblings → Gap
gap_after cs h s = record { first = s.first; second = s.second; gap = gap_in cs h s; bound = bound_in cs h s }
