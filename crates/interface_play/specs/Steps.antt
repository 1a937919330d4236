-- The steps of a play: its outputs are created, and then it is played.
use Rattle.std.specs.Prelude.{◌≡◌, ◌⊎◌, ◌≤◌, ◌+◌, ◌++◌, ℕ, Bool, true, false, List, [], length, Option, Some, Ok, Err, OnOk, IsTrue}
use Rattle.std.specs.declared.result.Result.{Result}
use Rattle.altq_model.specs.History.{LabelledEvent}
use Rattle.file_plans.specs.End.{Untouched}
use Rattle.file_plans.specs.Plan.{Place, number_of}
use Rattle.interface_marks.specs.Conditioners.{is_conditioned, marked_in}
use Rattle.pcapng_files.specs.Fronts.{with_front}
use Rattle.play_base.specs.View.{View, NoneAppears, SameCounts}
use Rattle.play_core.specs.declared.totals.Totals.{Totals}
use Rattle.play_loop.specs.declared.fault.Opened.{Opened}
use Rattle.play_loop.specs.declared.fault.Output.TheVariants as output
use Rattle.play_loop.specs.declared.fault.PlayFault.{PlayFault}
use Rattle.play_loop.specs.declared.fault.PlayFault.TheVariants as play
use Rattle.play_loop.specs.declared.kept.KeptFate.{KeptFate}
use Rattle.play_loop.specs.Kept.{KeepsPlayed}
use Rattle.play_loop.specs.Played.{Explains, Fronts, HeadsFirst, LeavesStats}
use Rattle.play_loop.specs.Setup.{Setup}
use Rattle.play_loop.specs.Told.{HasDecided, Tells}
use Rattle.run_outcomes.specs.Faults.{WriteFailed}
use Rattle.interface_play.specs.declared.play.Play.{Play}
use Rattle.interface_play.specs.Setup.{Untold}
use Rattle.interface_play.specs.Source.{Places}

-- the place was not created and its name holds what it held, or that is empty
abbrev pub IsBareAt : View → View → Place → Type 0
IsBareAt old new e = IsTrue old.tells → (Untouched old new (number_of e) × (new.bytes e.name ≡ old.bytes e.name)) ⊎ (new.bytes e.name ≡ Some [])

pub record AreBare (w : Places) (old new : View) : Type 0 where
  pub departures : IsBareAt old new w.departures
  pub fates : IsBareAt old new w.fates
  pub stats : IsBareAt old new w.stats

-- why an output was not created
abbrev pub IsUncreated : Places → View → View → PlayFault → Type 0
IsUncreated w old new (play.Write output.Departures) = WriteFailed old new (number_of w.departures)
IsUncreated w old new (play.Write output.Fates) = WriteFailed old new (number_of w.fates)
IsUncreated w old new (play.Write output.Statistics) = WriteFailed old new (number_of w.stats) × Untouched old new (number_of w.stats)
IsUncreated w old new play.NoMemory = Unit {0}
IsUncreated w old new other = ⊥

-- what came of a play over files: it was played, as the discipline stands for it and the keeper was told, or why it was not, and what it leaves
abbrev pub CameOf : Setup → (List LabelledEvent → Type 0) → (List KeptFate → Type 0) → Opened → Result Totals PlayFault → View → View → Type 0
CameOf x stood kept o (Ok totals) old new = Tells x stood kept old new o totals × HasDecided x kept totals
CameOf x stood kept o (Err fault) old new = Explains x Untold old new o fault × Fronts x old new o × LeavesStats x old new o fault × HeadsFirst old new o

-- what stays as it was
pub record Stays (o : Opened) (r : Result Totals PlayFault) (old new : View) : Type 0 where
  pub keeps : KeepsPlayed o old new
  pub none : NoneAppears old new
  pub said : new.said ≡ old.said
  pub no_fault : OnOk r (SameCounts old new)

-- of a capture in memory no read fails: that is told as want of memory
abbrev pub memory_fault : PlayFault → PlayFault
memory_fault play.Read = play.NoMemory
memory_fault other = other

abbrev pub told_as : (rest : Bool) → Result Totals PlayFault → Result Totals PlayFault
told_as rest (Ok totals) = Ok totals
told_as true (Err fault) = Err fault
told_as false (Err fault) = Err (memory_fault fault)

-- the files, of which these bytes are left and these numbers are fixed
abbrev pub with_left : View → (left : ℕ → Option (List ℕ)) → (fixed : List ℕ) → View
with_left v left fixed = record v { left = left; fixed = fixed }

-- the bytes that a marker holds, which were taken of a file and not given: without conditioners none
abbrev pub IsHeld : (conditioned : Bool) → (rest mine : List ℕ) → Type 0
IsHeld true rest mine = length rest ≤ length mine + 262160
IsHeld false rest mine = rest ≡ mine

-- what a play saw of the arrivals' file: what was taken of it before and what it has left are what is played, and of a file that is
-- read as it is played few bytes more are taken than are given
pub record Passage (p : Play) (o : Opened) (old new : View) : Type 0 where
  pub before : ℕ → Option (List ℕ)
  pub after : ℕ → Option (List ℕ)
  pub fixed_before : List ℕ
  pub fixed_after : List ℕ
  pub joined : IsTrue old.tells → (capture : List ℕ) → with_front true p.given.now.rest p.given.now.front.items (old.left o.arrivals) ≡ Some capture
      → (rest : List ℕ) × (before o.arrivals ≡ Some rest) × (o.first.now ++ rest ≡ marked_in p.interface.now capture)
  pub past : p.given.now.rest ≡ true → (rest : List ℕ) → after o.arrivals ≡ Some rest
      → (mine : List ℕ) × (new.left o.arrivals ≡ Some mine) × IsHeld (is_conditioned p.interface.now) rest mine

-- what came of a play of what it saw
pub record CameThrough (x : Setup) (stood : List LabelledEvent → Type 0) (kept : List KeptFate → Type 0) (p : Play) (o : Opened) (r : Result Totals PlayFault)
    (old new : View) : Type 0 where
  pub passage : Passage p o old new
  pub came : CameOf x stood kept o r (with_left old passage.before passage.fixed_before) (with_left new passage.after passage.fixed_after)
