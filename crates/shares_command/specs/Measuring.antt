-- What the play of an interface is measured to.
use Rattle.std.specs.Prelude.{◌≡◌, ◌≤◌, ℕ, true, List, Ok, Err, Some, IsTrue, String, length, string_bytes}
use Rattle.std.specs.declared.alloc.Global.{Global}
use Rattle.std.specs.declared.result.Result.{Result}
use Rattle.altq_model.specs.History.{Event, unlabelled}
use Rattle.conf_tree.specs.declared.interface.Interface.{Interface}
use Rattle.conf_tree.specs.declared.interface.Kind.TheVariants.{Hfsc}
use Rattle.file_plans.specs.Plan.{Place, number_of}
use Rattle.hfsc_policy.specs.Events.{hfsc_history}
use Rattle.interface_play.specs.declared.play.Play.{Play}
use Rattle.interface_play.specs.Ended.{HasEnded}
use Rattle.interface_play.specs.Setup.{IsConfigured}
use Rattle.interface_play.specs.Source.{AreSeparate, places_in}
use Rattle.interface_policy.specs.Classes.{hfsc_classes}
use Rattle.play_base.specs.View.{View}
use Rattle.play_core.specs.declared.totals.Totals.{Totals}
use Rattle.play_loop.specs.declared.fault.PlayFault.{PlayFault}
use Rattle.play_loop.specs.declared.kept.KeptFate.{KeptFate}
use Rattle.shares_command.specs.Measured.{AreFair, shares_text}

-- the text is that of the events of an interface, whose gaps are fair
pub record AreLinesOf (i : Interface) (events : List Event) (text : List ℕ) : Type 0 where
  pub lines : text ≡ shares_text i events
  pub fair : i.kind ≡ Hfsc → AreFair (hfsc_classes i.classes) (hfsc_history events)

-- what a play needs before it
pub record MayPlay (v : View) (p : Play) : Type 0 where
  pub configured : IsConfigured p.interface.now
  pub separate : AreSeparate (places_in p)
  pub there : v.part p.file ≡ Some (number_of (places_in p).arrivals)
  pub named : IsTrue v.tells → v.name p.file ≡ p.arrivals.name.now
  pub few : p.given.now.rest ≡ true → length p.given.now.front.items ≤ 4

-- nothing is said of what was kept
abbrev pub Unkept : List KeptFate → Type 0
Unkept kept = Unit {0}

-- the play ended, and where it is done this is the text of its history
abbrev pub MeasuresTo : (before old new : View) → List Place → List ℕ → Play → Result (String Global) PlayFault → Type 0
MeasuresTo before old new places files p (Ok text) =
    (totals : Totals) × HasEnded (λ h. AreLinesOf p.interface.now (unlabelled h) (string_bytes text)) Unkept before old new places files p (Ok totals)
MeasuresTo before old new places files p (Err fault) = HasEnded (λ h. Unit {0}) Unkept before old new places files p (Err fault)
