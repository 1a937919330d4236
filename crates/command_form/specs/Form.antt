-- When the inputs stop a command, and what comes to be only behind them.
use Rattle.std.specs.Prelude.{◌≡◌, ◌≢◌, ◌++◌, ℕ, List, take, None, Some, IsTrue}
use Rattle.play_base.specs.View.{View}
use Rattle.file_plans.specs.declared.part.Part.TheVariants as part
use Rattle.file_plans.specs.End.{AreFew, FilesEnd, TookFew}
use Rattle.file_plans.specs.Parts.{part_number}
use Rattle.file_plans.specs.Plan.{Place}
use Rattle.run_inputs.specs.Had.{inputs_plan}
use Rattle.run_inputs.specs.Meets.{HasBegun, HasRead, Meets}
use Rattle.run_inputs.specs.Says.{AreReady, AreStopped, Asked, Inputs, reach}
use Rattle.run_inputs.specs.declared.inputs.Unready.{Unready}
use Rattle.run_inputs.specs.declared.inputs.Unready.TheVariants as unready
use Rattle.run_inputs.specs.declared.stop.Stop.{Stop}
use Rattle.run_inputs.specs.declared.stop.Stop.TheVariants as stop
use Rattle.run_outcomes.specs.declared.outcome.CaptureStop.TheVariants as capture
use Rattle.run_outcomes.specs.declared.outcome.Failure.{Failure}
use Rattle.run_outcomes.specs.declared.outcome.Failure.TheVariants as failure
use Rattle.run_outcomes.specs.declared.outcome.Link.{Link}

-- a command: its files, what it asks of its inputs, and the link that a fault of its capture names
pub record Command : Type 0 where
  pub plan : List Place
  pub asked : Asked
  pub link : Link

-- its plan begins with its inputs, and has no other configuration
pub record ReadsInputs (x : Command) : Type 0 where
  pub rest : List Place
  pub plan : x.plan ≡ inputs_plan x.asked ++ rest
  pub few : (old new : View) → TookFew old new (part_number part.Configuration) x.asked.config → AreFew old new x.plan

-- only the files of the first n places came to be, and no other name changed
abbrev pub Within : (n : ℕ) → Command → View → View → Type 0
Within n x old new = FilesEnd (take n x.plan) old new

-- what inputs that stop a command end it as; `link` is the link that a fault of the capture names, none but of `chain`
abbrev pub stop_failure : Link → Stop → Failure
stop_failure link stop.NoConfiguration = failure.Read part.Configuration
stop_failure link stop.LongConfiguration = failure.TooLong part.Configuration
stop_failure link (stop.Refused place) = failure.Configuration place
stop_failure link stop.NoArrivals = failure.Read part.Arrivals
stop_failure link (stop.NoPcapng block) = failure.Capture link (capture.Block block)
stop_failure link stop.LongPcapng = failure.Capture link capture.TooLong

-- so where they are not had, for want of memory too
abbrev pub unready_failure : Link → Unready → Failure
unready_failure link (unready.Stop s) = stop_failure link s
unready_failure link unready.NoMemory = failure.NoMemory

-- THEY STOP THE COMMAND as one failure: nothing but the inputs was opened, and nothing was created
pub record StopsAt (x : Command) (old new : View) (f : Failure) : Type 0 where
  pub stop : Stop
  pub same : f ≡ stop_failure x.link stop
  pub meets : Meets old new x.asked stop
  pub within : Within (reach stop) x old new

-- NOTHING COMES TO BE BEFORE THE INPUTS ARE THERE, whatever the status, also 8, where the files tell. Inputs that stop the command leave the
-- files of the first places of the plan, and every name its bytes; no file but the configuration comes to be before that was read whole and
-- accepted, and none but these two before the arrivals were begun
pub record InputsFirst (x : Command) (old new : View) : Type 0 where
  pub stopped : IsTrue old.tells → (s : Stop) → AreStopped old x.asked s → Within (reach s) x old new
  pub read : IsTrue old.tells → (f p : ℕ) → old.part f ≡ None → new.part f ≡ Some p → p ≢ part_number part.Configuration
      → HasRead old new x.asked
  pub begun : IsTrue old.tells → (f p : ℕ) → old.part f ≡ None → new.part f ≡ Some p → p ≢ part_number part.Configuration
      → p ≢ part_number part.Arrivals → HasBegun old new x.asked.arrivals

-- where the files tell, the inputs stop nothing
abbrev pub AreReadyWhereTold : View → Asked → Type 0
AreReadyWhereTold old a = IsTrue old.tells → (i : Inputs) × AreReady old a i
