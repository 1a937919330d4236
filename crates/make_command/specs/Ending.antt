-- How `make` ends.
use Rattle.std.specs.Prelude.{◌≡◌, ◌⊎◌, ℕ, Some, IsTrue}
use Rattle.file_plans.specs.declared.part.Part.TheVariants as part
use Rattle.file_plans.specs.End.{Untouched}
use Rattle.file_plans.specs.Parts.{part_number, printed}
use Rattle.file_plans.specs.Plan.{written_place}
use Rattle.generated.specs.Packets.{generated_capture}
use Rattle.play_base.specs.View.{View}
use Rattle.run_inputs.specs.Says.{Accepted, Configured, TextSays}
use Rattle.run_outcomes.specs.Faults.{ReadFailed, WriteFailed}
use Rattle.run_outcomes.specs.Outcome.{Outcome}
use Rattle.run_outcomes.specs.declared.outcome.Done.{Done}
use Rattle.run_outcomes.specs.declared.outcome.Done.TheVariants as done
use Rattle.run_outcomes.specs.declared.outcome.Failure.{Failure}
use Rattle.run_outcomes.specs.declared.outcome.Failure.TheVariants as failure
use Rattle.run_outcomes.specs.declared.outcome.Link.TheVariants as link
use Rattle.command_form.specs.Ends.{CommandEnds}
use Rattle.command_form.specs.Form.{Within}
use Rattle.command_form.specs.Names.{Names}
use Rattle.interface_play.specs.Expected.{PlayExpects}
use Rattle.interface_play.specs.Failing.{FailsAs}
use Rattle.interface_play.specs.Fronts.{Fronts, IsFrontAt}
use Rattle.play_command.specs.Headline.{sole_of}
use Rattle.make_command.specs.Made.{HasMade, OfMade, WasMade, make_command, source_made}

abbrev pub MakeDone : View → View → Names → (seed count : ℕ) → Done → Type 0
MakeDone old new n seed count done.Done = IsTrue old.tells → HasMade old new n seed count
MakeDone old new n seed count other = ⊥

-- Where the files tell a generated capture has no fault: it reads to its end. A read of the arrivals may also fail when they are opened
-- behind their creation, or at their first four bytes: then no output was created
abbrev pub MakeOwn : View → View → Names → (seed count : ℕ) → Failure → Type 0
MakeOwn old new n seed count failure.Unsaid = WriteFailed old new printed × (IsTrue old.tells → WasMade old new n seed count)
MakeOwn old new n seed count (failure.Write part.Arrivals) = WriteFailed old new (part_number part.Arrivals) × Within 2 (make_command n) old new
MakeOwn old new n seed count (failure.Read part.Arrivals) =
    (ReadFailed old new (part_number part.Arrivals) × Within 3 (make_command n) old new)
    ⊎ FailsAs (OfMade old n seed count) link.Sole (sole_of n) seed old new (failure.Read part.Arrivals)
MakeOwn old new n seed count other = FailsAs (OfMade old n seed count) link.Sole (sole_of n) seed old new other

abbrev pub MakeExpected : View → Names → (seed count : ℕ) → Outcome → Type 0
MakeExpected old n seed count p =
    (c : Configured) × TextSays old (make_command n).asked (Accepted c) × PlayExpects seed (source_made seed count c.found) link.Sole p

-- the arrivals hold a front of their capture, all of it before an output is created, and the outputs fronts of its play
pub record MakeLeaves (old new : View) (n : Names) (seed count : ℕ) : Type 0 where
  pub arrivals : IsTrue old.tells → IsFrontAt old new (written_place part.Arrivals n.arrivals) (generated_capture seed count)
  pub behind : IsTrue old.tells
      → Untouched old new (part_number part.Departures) ⊎ (new.bytes n.arrivals ≡ Some (generated_capture seed count))
  pub fronts : IsTrue old.tells → (c : Configured) → TextSays old (make_command n).asked (Accepted c)
      → Fronts old new (sole_of n) seed (source_made seed count c.found)

-- A MAKE ENDS SO, whatever comes of it
abbrev pub MakeEnds : View → View → Names → (seed count : ℕ) → Outcome → Type 0
MakeEnds old new n seed count o =
    CommandEnds (make_command n) (MakeDone old new n seed count) (MakeOwn old new n seed count) (MakeExpected old n seed count)
    (MakeLeaves old new n seed count) old new o
