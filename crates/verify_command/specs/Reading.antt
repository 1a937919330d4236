-- What is read of the files that are verified, and why they are not.
use Rattle.std.specs.Prelude.{◌≡◌, ◌≢◌, ◌⊎◌, ◌≤◌, ◌^◌, ℕ, true, List, length, Option, Some, IsTrue}
use Rattle.arrivals_source.specs.Counted.{IsNoLonger}
use Rattle.arrivals_source.specs.Ways.{way_own}
use Rattle.arrivals_source.specs.declared.way.Way.{Way}
use Rattle.capture_model.specs.Capture.{Fault, Limit}
use Rattle.conf_tree.specs.declared.interface.Interface.{Interface}
use Rattle.file_judge.specs.declared.verdict.Unverified.{Unverified}
use Rattle.file_judge.specs.declared.verdict.Unverified.TheVariants as unverified
use Rattle.file_plans.specs.declared.part.Part.{Part}
use Rattle.file_plans.specs.declared.part.Part.TheVariants as part
use Rattle.file_plans.specs.Plan.{Place, number_of}
use Rattle.frame_classes.specs.Frames.{Classes, placed_by}
use Rattle.given_fates.specs.Fates.{HasFates}
use Rattle.given_fates.specs.declared.fates.Fates.{Fates}
use Rattle.given_fates.specs.declared.fates.FatesFault.{FatesFault}
use Rattle.given_fates.specs.declared.fates.FatesFault.TheVariants as fates
use Rattle.interface_marks.specs.Conditioners.{marked_in}
use Rattle.interface_policy.specs.Policy.{queue_names}
use Rattle.pcap_files.specs.Ahead.{TookSome}
use Rattle.pcap_files.specs.declared.fault.CaptureFault.{CaptureFault}
use Rattle.pcap_files.specs.declared.fault.CaptureFault.TheVariants as fault
use Rattle.pcapng_files.specs.Fronts.{with_front}
use Rattle.pcapng_files.specs.declared.front.Front.{Front}
use Rattle.play_base.specs.View.{View, Everything, Keeps, NoneAppears, Opened, ReadFault, Unchanged}
use Rattle.play_base.specs.declared.trouble.Trouble.{Trouble}
use Rattle.play_base.specs.declared.trouble.Trouble.TheVariants as trouble
use Rattle.run_inputs.specs.declared.inputs.Arrivals.{Arrivals}
use Rattle.run_inputs.specs.Meets.{CannotRead}
use Rattle.run_outcomes.specs.declared.outcome.CaptureStop.TheVariants as capture
use Rattle.run_outcomes.specs.declared.outcome.Failure.{Failure}
use Rattle.run_outcomes.specs.declared.outcome.Failure.TheVariants as failure
use Rattle.run_outcomes.specs.declared.outcome.Link.TheVariants as link
use Rattle.verify_command.specs.Verifying.{HasReading, IsLong}

-- THE ARRIVALS
-- where the files tell, P holds of the capture that stands behind arrivals that were begun
abbrev pub OfPlayed : View → Arrivals → (List ℕ → Type 0) → Type 0
OfPlayed v x P = IsTrue v.tells → (bytes : List ℕ) → with_front true x.given.rest x.given.front.items (v.left x.file) ≡ Some bytes → P bytes

-- of these bytes in front and those behind them the marked capture is read
abbrev pub Through : Interface → Way Classes → Type 0
Through i way = (front : Front) (left : Option (List ℕ)) (bytes : List ℕ) → with_front true front.rest front.bytes.now left ≡ Some bytes
    → way_own placed_by front way true left ≡ Some (marked_in i bytes)

-- some of a file was read, and nothing else happened but faults
pub record ReadSome (old new : View) (file : ℕ) : Type 0 where
  pub keeps : Keeps Everything (λ f. f ≢ file) old new
  pub none : NoneAppears old new
  pub said : new.said ≡ old.said

-- and what it has left is no longer than it was
pub record ReadOn (old new : View) (file : ℕ) : Type 0 where
  pub some : ReadSome old new file
  pub fewer : IsNoLonger old new file

abbrev pub capture_failure : CaptureFault → Failure
capture_failure (fault.Damage found) = failure.Capture link.Sole (capture.Damage found)
capture_failure fault.Limit = failure.Capture link.Sole capture.TooLong
capture_failure fault.Read = failure.Read part.Arrivals
capture_failure fault.NoMemory = failure.NoMemory

-- why their records are not had
abbrev pub ArrivalCauses : View → View → Interface → Arrivals → Failure → Type 0
ArrivalCauses old new i x (failure.Capture link.Sole (capture.Damage found)) = OfPlayed old x (λ bytes. HasReading (marked_in i bytes) (Fault found))
ArrivalCauses old new i x (failure.Capture link.Sole capture.TooLong) = OfPlayed old x (λ bytes. HasReading (marked_in i bytes) Limit)
ArrivalCauses old new i x (failure.Read part.Arrivals) = ReadFault old new x.file
ArrivalCauses old new i x failure.NoMemory = Unit {0}
ArrivalCauses old new i x other = ⊥

pub record AreNotHad (old new : View) (i : Interface) (x : Arrivals) (f : Failure) : Type 0 where
  pub cause : ArrivalCauses old new i x f

-- THE DEPARTURES AND THE FATES
-- a file came to be for this place, and some of it was read
pub record WasRead (old new : View) (e : Place) : Type 0 where
  pub file : ℕ
  pub between : View
  pub opened : Opened old between (number_of e) e.name file
  pub took : TookSome between new file

abbrev pub MayHaveRead : View → View → Place → Type 0
MayHaveRead old new e = WasRead old new e ⊎ Unchanged old new

-- the bytes under a name, at most 2^30, hold these fates of an interface
pub record HoldsFates (v : View) (i : Interface) (name : List ℕ) (fates : Fates) : Type 0 where
  pub text : List ℕ
  pub at : v.bytes name ≡ Some text
  pub short : length text ≤ 2 ^ 30
  pub has : HasFates (queue_names i) text fates

abbrev pub read_failure : Part → Trouble → Failure
read_failure part trouble.Failed = failure.Read part
read_failure part trouble.NoMemory = failure.NoMemory

abbrev pub fates_failure : FatesFault → Failure
fates_failure fates.TooLong = failure.TooLong part.Fates
fates_failure fates.Read = failure.Read part.Fates
fates_failure fates.NoMemory = failure.NoMemory

-- why a file is not had whole
abbrev pub FileCauses : View → View → Part → (name : List ℕ) → Failure → Type 0
FileCauses old new part name (failure.Read p) = (p ≡ part) × CannotRead old new part name
FileCauses old new part name (failure.TooLong p) = (p ≡ part) × (IsTrue old.tells → IsLong old name)
FileCauses old new part name failure.NoMemory = Unit {0}
FileCauses old new part name other = ⊥

-- THE JUDGEMENT
abbrev pub refutation : Unverified → Failure
refutation (unverified.At row test) = failure.Refuted row test
refutation unverified.NoMemory = failure.NoMemory
