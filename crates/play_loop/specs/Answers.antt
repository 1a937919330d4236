-- What the play of a capture answers, before its statistics are written.
use Rattle.std.specs.Prelude.{List, Result, Ok, Err, IsTrue}
use Rattle.altq_model.specs.History.{LabelledEvent}
use Rattle.play_base.specs.View.{View, SameCounts}
use Rattle.play_loop.specs.declared.outputs.Tally.{Tally}
use Rattle.play_loop.specs.declared.ending.Ending.{Ending}
use Rattle.play_loop.specs.declared.ending.Ending.TheVariants.{Whole, Cut, Late}
use Rattle.play_loop.specs.declared.fault.Limit.TheVariants as limit
use Rattle.play_loop.specs.declared.fault.Opened.{Opened}
use Rattle.play_loop.specs.declared.fault.PlayFault.{PlayFault}
use Rattle.play_loop.specs.declared.fault.PlayFault.TheVariants as play
use Rattle.play_loop.specs.declared.kept.KeptFate.{KeptFate}
use Rattle.class_counts.specs.Counting.{AreCountable}
use Rattle.play_loop.specs.Ending.{capture_fault}
use Rattle.play_loop.specs.Outputs.{IsBeforeStats}
use Rattle.play_loop.specs.Played.{Explains, Fronts, HaveHeads, HeadsFirst, Writes}
use Rattle.play_loop.specs.Setup.{Setup}
use Rattle.play_loop.specs.Told.{HasDecided}

-- by how its events ended
abbrev pub answer_of : Ending → Tally → Result Tally PlayFault
answer_of Whole t = Ok t
answer_of (Cut fault) t = Err (capture_fault fault)
answer_of Late t = Err (play.Limit limit.Clock)

-- the whole play
pub record IsWhole (x : Setup) (stood : List LabelledEvent → Type 0) (told : List KeptFate → Type 0) (old new : View) (o : Opened) (t : Tally) : Type 0 where
  pub done : Writes x stood told old new o t
  pub decided : HasDecided x told t.totals
  pub countable : AreCountable x.names t.counts.items
  pub no_fault : SameCounts old new
  pub heads : IsTrue old.tells → HaveHeads new o.departures o.fates

-- why it broke off, and what the files hold then
pub record IsBrokenOff (x : Setup) (stood : List LabelledEvent → Type 0) (old new : View) (o : Opened) (fault : PlayFault) : Type 0 where
  pub why : Explains x stood old new o fault
  pub front : Fronts x old new o
  pub heads : HeadsFirst old new o
  pub before_stats : IsBeforeStats fault

abbrev pub IsAnswer : Setup → (List LabelledEvent → Type 0) → (List KeptFate → Type 0) → (old new : View) → Opened → Result Tally PlayFault → Type 0
IsAnswer x stood told old new o (Ok t) = IsWhole x stood told old new o t
IsAnswer x stood told old new o (Err f) = IsBrokenOff x stood old new o f
