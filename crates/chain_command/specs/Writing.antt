-- What writing the paths leaves.
use Rattle.std.specs.Prelude.{◌≡◌, ◌++◌, ℕ, List, [], ◌∷◌, IsTrue}
use Rattle.file_plans.specs.Came.{CameAlong}
use Rattle.file_plans.specs.Plan.{IsOther, Place}
use Rattle.play_base.specs.View.{View, Keeps, Wrote}
use Rattle.play_base.specs.declared.trouble.Trouble.{Trouble}
use Rattle.play_base.specs.declared.trouble.Trouble.TheVariants as trouble
use Rattle.run_outcomes.specs.declared.outcome.Failure.{Failure}
use Rattle.run_outcomes.specs.declared.outcome.Failure.TheVariants as failure
use Rattle.interface_play.specs.Fronts.{IsFrontAt}

-- at most one file came to be, for this place, and holds a front of this text; nothing else changed
pub record AddsFile (old new : View) (e : Place) (text : List ℕ) : Type 0 where
  pub along : CameAlong (e ∷ []) old new
  pub front : IsTrue old.tells → IsFrontAt old new e text
  pub keeps : Keeps (IsOther old (e ∷ [])) (λ f. IsOther old (e ∷ []) (old.name f)) old new
  pub said : new.said ≡ old.said

-- a front of this text was written to the file
pub record WroteSome (old new : View) (file : ℕ) (text : List ℕ) : Type 0 where
  pub front : List ℕ
  pub rest : List ℕ
  pub split : front ++ rest ≡ text
  pub wrote : Wrote old new file front

-- what trouble with a file ends the command as
abbrev pub failure_by : Failure → Trouble → Failure
failure_by f trouble.Failed = f
failure_by f trouble.NoMemory = failure.NoMemory
