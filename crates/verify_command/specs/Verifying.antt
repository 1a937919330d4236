-- How `verify` ends: what done means, when each failure comes, what must come, and what it leaves.
use Rattle.std.specs.Prelude.{◌≡◌, ◌⊎◌, ◌<◌, ◌≤◌, ◌++◌, ◌^◌, ℕ, List, length, None, Some, Ok, Err, IsTrue}
use Rattle.capture_model.specs.Capture.{End, Fault, Limit, Reads, Record, Step}
use Rattle.fate_timely.specs.declared.given.Late.{Late}
use Rattle.file_judge.specs.Given.{Given as JudgedFiles}
use Rattle.file_judge.specs.Verdict.{AreVerified, IsRefuted}
use Rattle.file_plans.specs.declared.part.Part.TheVariants as part
use Rattle.file_plans.specs.End.{Untouched}
use Rattle.file_plans.specs.Parts.{part_number, printed}
use Rattle.file_tests.specs.declared.Test.{Test}
use Rattle.interface_marks.specs.Conditioners.{marked_in}
use Rattle.play_base.specs.View.{View}
use Rattle.run_inputs.specs.Meets.{CannotRead}
use Rattle.run_outcomes.specs.Faults.{ReadFailed, WriteFailed}
use Rattle.run_outcomes.specs.Outcome.{Outcome}
use Rattle.run_outcomes.specs.declared.outcome.CaptureStop.TheVariants as capture
use Rattle.run_outcomes.specs.declared.outcome.Done.{Done}
use Rattle.run_outcomes.specs.declared.outcome.Done.TheVariants as done
use Rattle.run_outcomes.specs.declared.outcome.Failure.{Failure}
use Rattle.run_outcomes.specs.declared.outcome.Failure.TheVariants as failure
use Rattle.run_outcomes.specs.declared.outcome.Link.TheVariants as link
use Rattle.command_form.specs.Ends.{CommandEnds}
use Rattle.command_form.specs.Form.{Command, Within}
use Rattle.command_form.specs.Given.{IsGiven}
use Rattle.command_form.specs.Names.{GivenNames}
use Rattle.command_form.specs.Plans.{verify_plan}
use Rattle.verify_command.specs.Lines.{verdict_text}

abbrev pub verify_command : GivenNames → Command
verify_command n = record {
  plan = verify_plan n;
  asked = record { config = n.config; interface = n.interface; next = None; arrivals = Some n.arrivals };
  link = link.Sole;
}

-- the bytes are some records, and then this
abbrev pub HasReading : (bytes : List ℕ) → Step → Type 0
HasReading bytes last = (records : List Record) × Reads bytes records last

-- the arrivals, once the conditioners of the interface have marked them, end with this
abbrev pub ArrivalsEndWith : View → GivenNames → Step → Type 0
ArrivalsEndWith v n last = IsGiven v (verify_command n).asked (λ i g. HasReading (marked_in i g.capture) last)

-- these bytes, at most 2^30, stand under a name; or more
pub record Holds (v : View) (name bytes : List ℕ) : Type 0 where
  pub at : v.bytes name ≡ Some bytes
  pub short : length bytes ≤ 2 ^ 30

pub record IsLong (v : View) (name : List ℕ) : Type 0 where
  pub bytes : List ℕ
  pub at : v.bytes name ≡ Some bytes
  pub long : 2 ^ 30 < length bytes

-- the arrivals are a capture, and the departures are had whole
pub record HasDepartures (v : View) (n : GivenNames) : Type 0 where
  pub arrivals : ArrivalsEndWith v n End
  pub bytes : List ℕ
  pub departures : Holds v n.departures bytes

-- THE FILES UNDER THE NAMES are these: the records are those of the marked arrivals
pub record AreGivenFiles (v : View) (n : GivenNames) (j : JudgedFiles) : Type 0 where
  pub arrivals : IsGiven v (verify_command n).asked (λ i g. (i ≡ j.interface) × Reads (marked_in i g.capture) j.records End)
  pub departures : Holds v n.departures j.departures
  pub fates : Holds v n.fates j.fates

-- they pass every test
pub record IsVerified (v : View) (n : GivenNames) : Type 0 where
  pub given : JudgedFiles
  pub are : AreGivenFiles v n given
  pub late : List Late
  pub verified : AreVerified given late

-- they do, and it was printed
pub record HasVerified (old new : View) (n : GivenNames) : Type 0 where
  pub given : JudgedFiles
  pub are : AreGivenFiles old n given
  pub late : List Late
  pub verified : AreVerified given late
  pub said : new.said ≡ old.said ++ verdict_text given.interface late

-- this row is the first that fails the least test that fails
pub record AreRefuted (v : View) (n : GivenNames) (row : ℕ) (test : Test) : Type 0 where
  pub given : JudgedFiles
  pub are : AreGivenFiles v n given
  pub refuted : IsRefuted given row test

-- the departures, and the fates, are longer than 2^30 bytes
pub record HasLongDepartures (v : View) (n : GivenNames) : Type 0 where
  pub arrivals : ArrivalsEndWith v n End
  pub long : IsLong v n.departures

pub record HasLongFates (v : View) (n : GivenNames) : Type 0 where
  pub departures : HasDepartures v n
  pub long : IsLong v n.fates

abbrev pub VerifyDone : View → View → GivenNames → Done → Type 0
VerifyDone old new n d = (d ≡ done.Done) × (IsTrue old.tells → HasVerified old new n)

-- when each failure comes, behind inputs that stop nothing: the answer is printed only of verified files
abbrev pub VerifyOwn : View → View → GivenNames → Failure → Type 0
VerifyOwn old new n (failure.Capture link.Sole (capture.Damage d)) = Within 2 (verify_command n) old new × (IsTrue old.tells → ArrivalsEndWith old n (Fault d))
VerifyOwn old new n (failure.Capture link.Sole capture.TooLong) = Within 2 (verify_command n) old new × (IsTrue old.tells → ArrivalsEndWith old n Limit)
VerifyOwn old new n (failure.Read part.Arrivals) = Within 2 (verify_command n) old new × ReadFailed old new (part_number part.Arrivals)
VerifyOwn old new n (failure.Read part.Departures) = CannotRead old new part.Departures n.departures × (IsTrue old.tells → ArrivalsEndWith old n End)
VerifyOwn old new n (failure.Read part.Fates) = CannotRead old new part.Fates n.fates × (IsTrue old.tells → HasDepartures old n)
VerifyOwn old new n (failure.TooLong part.Departures) = IsTrue old.tells → HasLongDepartures old n
VerifyOwn old new n (failure.TooLong part.Fates) = IsTrue old.tells → HasLongFates old n
VerifyOwn old new n (failure.Refuted row test) = IsTrue old.tells → AreRefuted old n row test
VerifyOwn old new n failure.Unsaid = WriteFailed old new printed × (IsTrue old.tells → IsVerified old n)
VerifyOwn old new n other = ⊥

-- what must come: the first that the files tell, in the order in which they are read
abbrev pub VerifyExpected : View → GivenNames → Outcome → Type 0
VerifyExpected old n (Ok done.Done) = IsVerified old n
VerifyExpected old n (Err (failure.Capture link.Sole (capture.Damage d))) = ArrivalsEndWith old n (Fault d)
VerifyExpected old n (Err (failure.Capture link.Sole capture.TooLong)) = ArrivalsEndWith old n Limit
VerifyExpected old n (Err (failure.Read part.Departures)) = ArrivalsEndWith old n End × (old.bytes n.departures ≡ None)
VerifyExpected old n (Err (failure.Read part.Fates)) = HasDepartures old n × (old.bytes n.fates ≡ None)
VerifyExpected old n (Err (failure.TooLong part.Departures)) = HasLongDepartures old n
VerifyExpected old n (Err (failure.TooLong part.Fates)) = HasLongFates old n
VerifyExpected old n (Err (failure.Refuted row test)) = AreRefuted old n row test
VerifyExpected old n other = ⊥

-- a file is opened only once those before it are had whole
pub record VerifyLeaves (old new : View) (n : GivenNames) : Type 0 where
  pub departures : IsTrue old.tells → Untouched old new (part_number part.Departures) ⊎ ArrivalsEndWith old n End
  pub fates : IsTrue old.tells → Untouched old new (part_number part.Fates) ⊎ HasDepartures old n

-- A VERIFICATION ENDS SO, whatever comes of it
abbrev pub VerifyEnds : View → View → GivenNames → Outcome → Type 0
VerifyEnds old new n o =
    CommandEnds (verify_command n) (VerifyDone old new n) (VerifyOwn old new n) (VerifyExpected old n) (VerifyLeaves old new n) old new o
