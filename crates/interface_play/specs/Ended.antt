-- How a play ended: the contract of both ways to play.
use Rattle.std.specs.Prelude.{◌≡◌, ◌≢◌, ℕ, List, ◌++◌, None, Some, IfErr, IfOk, OnOk, IsTrue}
use Rattle.std.specs.declared.result.Result.{Result}
use Rattle.altq_model.specs.History.{LabelledEvent}
use Rattle.arrivals_source.specs.Counted.{IsNoLonger}
use Rattle.file_plans.specs.Came.{Came, CameAlong, IsAmong}
use Rattle.file_plans.specs.Plan.{HasPart, IsOther, Place, number_of}
use Rattle.play_base.specs.View.{View, Keeps, SameCounts}
use Rattle.play_core.specs.declared.totals.Totals.{Totals}
use Rattle.play_loop.specs.declared.fault.PlayFault.{PlayFault}
use Rattle.play_loop.specs.declared.kept.KeptFate.{KeptFate}
use Rattle.run_outcomes.specs.Faults.{IsQuiet}
use Rattle.interface_play.specs.declared.play.Play.{Play}
use Rattle.interface_play.specs.Expected.{CameAsExpected}
use Rattle.interface_play.specs.Failing.{PlayFails}
use Rattle.interface_play.specs.Fronts.{Fronts}
use Rattle.interface_play.specs.Played.{IsDone}
use Rattle.interface_play.specs.Source.{OfSource, outputs_at, places_in}

-- these files came to be before the play, the arrivals' among them, without a fault; none has the part of an output, and no output's name
-- was written
pub record IsBehind (before old : View) (places : List Place) (files : List ℕ) (p : Play) : Type 0 where
  pub came : Came places files before old
  pub among : IsAmong p.file files
  pub counts : SameCounts before old
  pub parts : (e : Place) → HasPart (outputs_at (places_in p)) (number_of e) → HasPart places (number_of e) → ⊥
  pub departures : IsTrue before.tells → IsOther before places p.departures.name.now
  pub fates : IsTrue before.tells → IsOther before places p.fates.name.now
  pub stats : IsTrue before.tells → IsOther before places p.stats.name.now

-- what a play leaves of the files that stood when it began: it takes from the arrivals' file alone, writes the outputs, and says nothing
pub record OnlyPlays (old new : View) (p : Play) : Type 0 where
  pub keeps : Keeps (IsOther old (outputs_at (places_in p))) (λ f. (f ≢ p.file) × IsOther old (outputs_at (places_in p)) (old.name f)) old new
  pub took : IsNoLonger old new p.file
  pub only : (f q : ℕ) → old.part f ≡ None → new.part f ≡ Some q → HasPart (outputs_at (places_in p)) q
  pub said : new.said ≡ old.said

-- A PLAY ENDED SO. `old` is when it began, and `before` when these files began to come
pub record HasEnded (stood : List LabelledEvent → Type 0) (kept : List KeptFate → Type 0) (before old new : View) (places : List Place)
    (files : List ℕ) (p : Play) (r : Result Totals PlayFault) : Type 0 where
  pub done : IfOk r (λ totals. OfSource old p (IsDone stood kept new (places_in p) p.seed totals))
  pub fails : IfErr r (PlayFails (OfSource old p) (places_in p) p.seed before new)
  pub fronts : OfSource old p (Fronts before new (places_in p) p.seed)
  pub must : IsQuiet before new → OfSource old p (CameAsExpected (places_in p) p.seed r)
  pub along : CameAlong (places ++ outputs_at (places_in p)) before new
  pub came : OnOk r ((outputs : List ℕ) × Came (places ++ outputs_at (places_in p)) (files ++ outputs) before new)
  pub counts : OnOk r (SameCounts before new)
