-- What must come of a play.
use Rattle.std.specs.Prelude.{◌≡◌, ℕ, List, Ok, Err}
use Rattle.std.specs.declared.result.Result.{Result}
use Rattle.altq_model.specs.History.{LabelledEvent}
use Rattle.capture_model.specs.Capture.{Record, Step, End, Fault, Limit, Reads, IsLast}
use Rattle.play_core.specs.declared.totals.Totals.{Totals}
use Rattle.play_loop.specs.declared.fault.PlayFault.{PlayFault}
use Rattle.run_outcomes.specs.Outcome.{IsOrMemory, Outcome}
use Rattle.run_outcomes.specs.declared.outcome.CaptureStop.TheVariants as capture
use Rattle.run_outcomes.specs.declared.outcome.Done.TheVariants as done
use Rattle.run_outcomes.specs.declared.outcome.Failure.TheVariants as failure
use Rattle.run_outcomes.specs.declared.outcome.Link.{Link}
use Rattle.interface_play.specs.Failing.{IsCutEarly, play_failure}
use Rattle.interface_play.specs.Setup.{setup_of}
use Rattle.interface_play.specs.Source.{Places, Source, played_of}

-- what the reading of the capture ends with; but where a sending comes before that and would end too late, that
pub record EndsWith (seed : ℕ) (s : Source) (last : Step) : Type 0 where
  pub records : List Record
  pub reads : Reads (played_of s) records last
  pub in_time : (history : List LabelledEvent) → IsCutEarly (setup_of s.interface seed) records last history → ⊥

pub record EndsLate (seed : ℕ) (s : Source) : Type 0 where
  pub records : List Record
  pub last : Step
  pub history : List LabelledEvent
  pub reads : Reads (played_of s) records last
  pub is_last : IsLast last
  pub early : IsCutEarly (setup_of s.interface seed) records last history

abbrev pub PlayExpects : (seed : ℕ) → Source → Link → Outcome → Type 0
PlayExpects seed s link (Ok done.Done) = EndsWith seed s End
PlayExpects seed s link (Err (failure.Capture l (capture.Damage d))) = (l ≡ link) × EndsWith seed s (Fault d)
PlayExpects seed s link (Err (failure.Capture l capture.TooLong)) = (l ≡ link) × EndsWith seed s Limit
PlayExpects seed s link (Err (failure.Capture l capture.Late)) = (l ≡ link) × EndsLate seed s
PlayExpects seed s link other = ⊥

-- what came of a play, as a command that does no more
abbrev pub play_outcome : Link → Places → Result Totals PlayFault → Outcome
play_outcome link w (Ok totals) = Ok done.Done
play_outcome link w (Err fault) = Err (play_failure link w fault)

-- what is expected came, or memory ran out
abbrev pub CameAsExpected : Places → (seed : ℕ) → Result Totals PlayFault → Source → Type 0
CameAsExpected w seed r s = (link : Link) (p : Outcome) → PlayExpects seed s link p → IsOrMemory (play_outcome link w r) p
