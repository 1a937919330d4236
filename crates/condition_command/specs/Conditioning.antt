-- How `condition` ends.
use Rattle.std.specs.Prelude.{◌≡◌, ◌⊎◌, ◌≤◌, ◌+◌, ◌++◌, ℕ, false, List, length, None, Some, Ok, Err, IsTrue}
use Rattle.arrivals_front.specs.Given.{is_pcapng}
use Rattle.capture_model.specs.Capture.{End, Fault, IsCapture, IsLast, Limit, Reads, Record, Step}
use Rattle.conf_tree.specs.declared.interface.Interface.{Interface}
use Rattle.file_plans.specs.declared.part.Part.TheVariants as part
use Rattle.file_plans.specs.End.{Untouched}
use Rattle.file_plans.specs.Parts.{part_number}
use Rattle.interface_marks.specs.Conditioners.{conditioning_of, marked_in}
use Rattle.marked_files.specs.Standing.{AreWhole}
use Rattle.play_base.specs.View.{View}
use Rattle.run_inputs.specs.Says.{AreReady, Given, Inputs}
use Rattle.run_outcomes.specs.declared.outcome.CaptureStop.TheVariants as capture
use Rattle.run_outcomes.specs.declared.outcome.Done.{Done}
use Rattle.run_outcomes.specs.declared.outcome.Done.TheVariants as done
use Rattle.run_outcomes.specs.declared.outcome.Failure.{Failure}
use Rattle.run_outcomes.specs.declared.outcome.Failure.TheVariants as failure
use Rattle.run_outcomes.specs.declared.outcome.Link.TheVariants as link
use Rattle.run_outcomes.specs.Faults.{ReadFailed, WriteFailed}
use Rattle.run_outcomes.specs.Outcome.{Outcome}
use Rattle.command_form.specs.Ends.{CommandEnds}
use Rattle.command_form.specs.Form.{Command}
use Rattle.command_form.specs.Given.{IsGiven}
use Rattle.command_form.specs.Names.{MarkNames}
use Rattle.command_form.specs.Plans.{condition_plan}

abbrev pub condition_command : MarkNames → Command
condition_command n = record {
  plan = condition_plan n;
  asked = record { config = n.config; interface = n.interface; next = None; arrivals = Some n.arrivals };
  link = link.Sole;
}

-- THE CAPTURE IS CONDITIONED: the marked file holds exactly the marked capture of what the arrivals read as, which is one
pub record HasConditioned (new : View) (n : MarkNames) (i : Interface) (g : Given) : Type 0 where
  pub records : List Record
  pub whole : IsCapture g.capture records
  pub marked : new.bytes n.marked ≡ Some (marked_in i g.capture)

abbrev pub OfMarked : View → MarkNames → (Interface → Given → Type 0) → Type 0
OfMarked old n P = IsTrue old.tells → IsGiven old (condition_command n).asked P

abbrev pub ConditionDone : View → View → MarkNames → Done → Type 0
ConditionDone old new n done.Done = OfMarked old n (HasConditioned new n) × (new.said ≡ old.said)
ConditionDone old new n done.Exceeds = ⊥

-- the marked file holds the marked head and the marked complete records of these bytes, and no byte behind them
pub record HoldsWhole (new : View) (n : MarkNames) (i : Interface) (bytes : List ℕ) (last : Step) : Type 0 where
  pub marked : List ℕ
  pub at : new.bytes n.marked ≡ Some marked
  pub whole : AreWhole (conditioning_of i) bytes last marked

-- the arrivals read to this end, and what stands before it was marked
abbrev pub IsStopped : View → MarkNames → (last : Step) → Interface → Given → Type 0
IsStopped new n last i g = HoldsWhole new n i g.capture last

-- a read of the arrivals failed, which are no pcapng file: what was taken of them was marked
pub record IsCutShort (old new : View) (n : MarkNames) (i : Interface) (g : Given) : Type 0 where
  pub read_on : is_pcapng g.bytes ≡ false
  pub taken : List ℕ
  pub left : List ℕ
  pub split : g.capture ≡ taken ++ left
  pub file : ℕ
  pub fresh : old.part file ≡ None
  pub part : new.part file ≡ Some (part_number part.Arrivals)
  pub leaves : new.left file ≡ Some left
  pub last : Step
  pub is_last : IsLast last
  pub holds : HoldsWhole new n i taken last

-- when each failure of its own comes
abbrev pub ConditionOwn : View → View → MarkNames → Failure → Type 0
ConditionOwn old new n (failure.Capture link.Sole (capture.Damage d)) = OfMarked old n (IsStopped new n (Fault d))
ConditionOwn old new n (failure.Capture link.Sole capture.TooLong) = OfMarked old n (IsStopped new n Limit)
ConditionOwn old new n (failure.Read part.Arrivals) = ReadFailed old new (part_number part.Arrivals) × OfMarked old n (IsCutShort old new n)
ConditionOwn old new n (failure.Write part.Marked) = WriteFailed old new (part_number part.Marked)
ConditionOwn old new n other = ⊥

-- what must come: what the reading of the capture ends with
abbrev pub HasReading : (bytes : List ℕ) → (last : Step) → Type 0
HasReading bytes last = (records : List Record) × Reads bytes records last

abbrev pub ReadsTo : View → MarkNames → (last : Step) → Type 0
ReadsTo old n last = IsGiven old (condition_command n).asked (λ i g. HasReading g.capture last)

abbrev pub ConditionExpected : View → MarkNames → Outcome → Type 0
ConditionExpected old n (Ok done.Done) = ReadsTo old n End
ConditionExpected old n (Err (failure.Capture link.Sole (capture.Damage d))) = ReadsTo old n (Fault d)
ConditionExpected old n (Err (failure.Capture link.Sole capture.TooLong)) = ReadsTo old n Limit
ConditionExpected old n other = ⊥

-- the marked file was not created and its name holds what it held before the run, or it holds a front of this text
abbrev pub HasFront : View → View → MarkNames → (text : List ℕ) → Type 0
HasFront old new n text =
    (Untouched old new (part_number part.Marked) × (new.bytes n.marked ≡ old.bytes n.marked))
    ⊎ ((front : List ℕ) × (rest : List ℕ) × (new.bytes n.marked ≡ Some front) × (text ≡ front ++ rest))

-- of the capture at most 262,160 bytes more were taken from the file than the marked file holds
pub record TookWithin (new : View) (n : MarkNames) (file : ℕ) (capture : List ℕ) : Type 0 where
  pub left : List ℕ
  pub leaves : new.left file ≡ Some left
  pub marked : List ℕ
  pub at : new.bytes n.marked ≡ Some marked
  pub within : length capture ≤ length marked + 262160 + length left

-- so much was taken of a file of arrivals once the marked file was created
abbrev pub Streams : View → View → MarkNames → (capture : List ℕ) → Type 0
Streams old new n capture = (f h : ℕ) → old.part f ≡ None → new.part f ≡ Some (part_number part.Arrivals) → old.part h ≡ None
    → new.part h ≡ Some (part_number part.Marked) → TookWithin new n f capture

-- the marked file holds a front of the marked capture, which is written as a classic capture is read
pub record ConditionLeaves (old new : View) (n : MarkNames) : Type 0 where
  pub front : IsTrue old.tells → (i : Inputs) (g : Given) → AreReady old (condition_command n).asked i → i.given ≡ Some g
      → HasFront old new n (marked_in i.configured.found g.capture)
  pub streams : IsTrue old.tells → (i : Inputs) (g : Given) → AreReady old (condition_command n).asked i → i.given ≡ Some g
      → is_pcapng g.bytes ≡ false → Streams old new n g.capture

-- A MARKING ENDS SO
abbrev pub ConditionEnds : View → View → MarkNames → Outcome → Type 0
ConditionEnds old new n o =
    CommandEnds (condition_command n) (ConditionDone old new n) (ConditionOwn old new n) (ConditionExpected old n) (ConditionLeaves old new n)
    old new o
