-- What `shares` measures of a play.
use Rattle.std.specs.Prelude.{◌≡◌, ◌++◌, ℕ, List, [], option_map, slice_get}
use Rattle.altq_model.specs.History.{Event, unlabelled}
use Rattle.conf_tree.specs.declared.class.Class.{Class}
use Rattle.conf_tree.specs.declared.interface.Interface.{Interface}
use Rattle.conf_tree.specs.declared.interface.Kind.{Kind}
use Rattle.conf_tree.specs.declared.interface.Kind.TheVariants.{Hfsc, Cbq}
use Rattle.hfsc_model.specs.declared.HfscClass.{HfscClass}
use Rattle.hfsc_model.specs.Event.{HfscHistory}
use Rattle.hfsc_policy.specs.Events.{hfsc_history}
use Rattle.interface_policy.specs.Classes.{hfsc_classes}
use Rattle.play_base.specs.View.{View}
use Rattle.share_gaps.specs.declared.siblings.Siblings.{Siblings}
use Rattle.share_gaps.specs.Rows.{rows}
use Rattle.share_gaps.specs.Watching.{gap_after}
use Rattle.share_report.specs.Report.{IsGapOf, IsWithinBound, gaps_after}
use Rattle.command_form.specs.Names.{Names}
use Rattle.play_command.specs.Headline.{HasPlayed}
use Rattle.shares_command.specs.Lines.{gap_lines}

-- the lines of a history: of HFSC one for each pair of siblings, of CBQ none
abbrev pub lines_by : Kind → List Class → HfscHistory → List ℕ
lines_by Hfsc classes h = gap_lines classes (gaps_after (hfsc_classes classes) h)
lines_by Cbq classes h = []

abbrev pub shares_text : Interface → List Event → List ℕ
shares_text i events = lines_by i.kind i.classes (hfsc_history events)

-- what is said of the pairs of HFSC: each gap is the greatest over all stretches of common activity, and none passes its bound
pub record AreFair (cs : List HfscClass) (h : HfscHistory) : Type 0 where
  pub greatest : (s : Siblings) → IsGapOf cs h s (gap_after cs h s)
  pub within : (row : ℕ) → IsWithinBound (option_map (gap_after cs h) (slice_get (rows cs) row))

-- THE SHARES ARE MEASURED. What `play` does is done, and exactly the lines of the play's history were said; in them no gap passes its
-- bound
pub record HasMeasured (old new : View) (n : Names) (seed : ℕ) : Type 0 where
  pub played : HasPlayed old new n seed
  pub said : new.said ≡ old.said ++ shares_text played.interface (unlabelled played.played.history)
  pub fair : played.interface.kind ≡ Hfsc → AreFair (hfsc_classes played.interface.classes) (hfsc_history (unlabelled played.played.history))
