-- When each fault of a play comes, and what it ends a command as.
use Rattle.std.specs.Prelude.{◌≡◌, ◌≤◌, ◌<◌, ◌+◌, ◌⊎◌, ℕ, List, [], ◌∷◌, ◌++◌, length, None, Some, Bool, true, false, if◌then◌else◌}
use Rattle.altq_model.specs.Arrivals.{bare_arrivals}
use Rattle.altq_model.specs.History.{LabelledEvent, unlabelled, offered}
use Rattle.altq_model.specs.Lawful.{greatest}
use Rattle.altq_model.specs.Play.{IsPlay}
use Rattle.capture_model.specs.Capture.{Record, Step, End, Fault, Limit, Reads, IsCapture, IsLast, place_after}
use Rattle.conf_tree.specs.declared.interface.Interface.{Interface}
use Rattle.file_plans.specs.End.{Untouched}
use Rattle.file_plans.specs.Plan.{number_of}
use Rattle.interface_marks.specs.Conditioners.{is_conditioned}
use Rattle.pcap_files.specs.Reading.{AreAllTaken}
use Rattle.play_base.specs.View.{View}
use Rattle.play_core.specs.declared.totals.Totals.{Totals}
use Rattle.play_core.specs.Ended.{IsBegun, IsCutOff}
use Rattle.play_core.specs.Finished.{EndsWithOffer, IsStopped}
use Rattle.play_loop.specs.declared.fault.Limit.TheVariants as limit
use Rattle.play_loop.specs.declared.fault.Output.TheVariants as output
use Rattle.play_loop.specs.declared.fault.PlayFault.{PlayFault}
use Rattle.play_loop.specs.declared.fault.PlayFault.TheVariants as play
use Rattle.play_loop.specs.Played.{start_of}
use Rattle.play_loop.specs.Setup.{Setup, arrivals_in}
use Rattle.run_outcomes.specs.Faults.{ReadFailed, WriteFailed}
use Rattle.run_outcomes.specs.declared.outcome.CaptureStop.TheVariants as capture
use Rattle.run_outcomes.specs.declared.outcome.Failure.{Failure}
use Rattle.run_outcomes.specs.declared.outcome.Failure.TheVariants as failure
use Rattle.run_outcomes.specs.declared.outcome.Link.{Link}
use Rattle.interface_play.specs.Played.{HoldTexts}
use Rattle.interface_play.specs.Setup.{setup_of}
use Rattle.interface_play.specs.Source.{Places, Source, played_of}

-- the first events of the play of these records, up to and with the offer of the last of them, each sending in time: departures and
-- fates hold exactly their texts, and the statistics nothing. These are all drops of these records, and all sendings that start before
-- the last of them arrives
pub record HasOffered (v : View) (w : Places) (x : Setup) (records : List Record) : Type 0 where
  pub history : List LabelledEvent
  pub begun : IsBegun x.policy x.rate x.seed (bare_arrivals (arrivals_in x records)) history
  pub all : offered (unlabelled history) ≡ length records
  pub last : EndsWithOffer history
  pub texts : HoldTexts v w x records history
  pub stats : v.bytes w.stats.name ≡ Some []

-- all complete records were offered, and the reading ends so
pub record IsOffered (new : View) (w : Places) (seed : ℕ) (s : Source) (last : Step) : Type 0 where
  pub records : List Record
  pub reads : Reads (played_of s) records last
  pub decided : HasOffered new w (setup_of s.interface seed) records

-- departures and fates hold the texts of the whole play
pub record HasWholeTexts (new : View) (w : Places) (seed : ℕ) (s : Source) : Type 0 where
  pub records : List Record
  pub history : List LabelledEvent
  pub capture : IsCapture (played_of s) records
  pub play : IsPlay (setup_of s.interface seed).policy s.interface.rate seed
      (bare_arrivals (arrivals_in (setup_of s.interface seed) records)) history
  pub texts : HoldTexts new w (setup_of s.interface seed) records history

-- a sending that is due next would end too late. It starts before the last of these records arrives, or these are a whole capture
pub record IsCutEarly (x : Setup) (records : List Record) (last : Step) (g : List LabelledEvent) : Type 0 where
  pub cut : IsCutOff x.policy x.rate x.seed (bare_arrivals (arrivals_in x records)) g
  pub before : (last ≡ End) ⊎ (start_of cut.next.what < greatest 0 records)

-- how many bytes of a classic capture are taken at most past the record that a play needs: those of one read and, where an interface
-- has conditioners, those of the longest record with its header
abbrev pub most_past : Interface → ℕ
most_past i = if is_conditioned i then 65536 + 262160 else 65536

-- what was taken of the file's `bytes` ends at most `past` bytes behind `place`
pub record TookWithin (past : ℕ) (v : View) (file place : ℕ) (bytes : List ℕ) : Type 0 where
  pub rest : List ℕ
  pub left : v.left file ≡ Some rest
  pub within : length bytes ≤ place + past + length rest

-- if a complete record arrives later than `moment`, the bytes taken end at most `past` bytes behind the first such record
abbrev pub StreamsWithin : (past : ℕ) → View → (file : ℕ) → List ℕ → List Record → (moment : ℕ) → Type 0
StreamsWithin past v file bytes records moment = (before : List Record) (r : Record) (after : List Record) → records ≡ before ++ r ∷ after
    → greatest 0 before ≤ moment → moment < greatest 0 (before ++ r ∷ []) → TookWithin past v file (place_after 24 (before ++ r ∷ [])) bytes

-- the play is cut off so. Departures and fates hold exactly the texts of the events before that sending, and the statistics nothing. Of a
-- capture that is read as it is played, if a complete record arrives later than it starts, few bytes were taken behind the first such record
pub record IsLate (old new : View) (w : Places) (seed : ℕ) (s : Source) : Type 0 where
  pub records : List Record
  pub last : Step
  pub history : List LabelledEvent
  pub totals : Totals
  pub reads : Reads (played_of s) records last
  pub is_last : IsLast last
  pub early : IsCutEarly (setup_of s.interface seed) records last history
  pub play : IsStopped (setup_of s.interface seed).policy s.interface.rate seed
      (arrivals_in (setup_of s.interface seed) records) history totals
  pub texts : HoldTexts new w (setup_of s.interface seed) records history
  pub stats : new.bytes w.stats.name ≡ Some []
  pub file : ℕ
  pub fresh : old.part file ≡ None
  pub part : new.part file ≡ Some (number_of w.arrivals)
  pub streams : s.in_memory ≡ false
      → StreamsWithin (most_past s.interface) new file (played_of s) records (start_of early.cut.next.what)

-- these are the complete records of a front of the bytes
pub record AreOfFront (bytes : List ℕ) (records : List Record) : Type 0 where
  pub front : List ℕ
  pub rest : List ℕ
  pub split : bytes ≡ front ++ rest
  pub last : Step
  pub reads : Reads front records last
  pub ended : IsLast last

-- these are the complete records of a front of the bytes, and at most 262,160 bytes more were taken of the file
pub record AreNearlyTaken (v : View) (file : ℕ) (bytes : List ℕ) (records : List Record) : Type 0 where
  pub of_front : AreOfFront bytes records
  pub mine : List ℕ
  pub left : v.left file ≡ Some mine
  pub held : length of_front.rest ≤ length mine + 262160

-- these are the complete records of what was taken of the file, but for what a marker holds of it
abbrev pub AreTaken : (conditioned : Bool) → View → (file : ℕ) → (bytes : List ℕ) → List Record → Type 0
AreTaken false v file bytes records = AreAllTaken v file bytes records
AreTaken true v file bytes records = AreNearlyTaken v file bytes records

-- a read failed: all complete records of what was taken were offered. Of a capture in memory no read fails
pub record IsCutShort (old new : View) (w : Places) (seed : ℕ) (s : Source) : Type 0 where
  pub read_on : s.in_memory ≡ false
  pub records : List Record
  pub file : ℕ
  pub fresh : old.part file ≡ None
  pub part : new.part file ≡ Some (number_of w.arrivals)
  pub taken : AreTaken (is_conditioned s.interface) new file (played_of s) records
  pub decided : HasOffered new w (setup_of s.interface seed) records

-- WHEN EACH FAULT OF A PLAY COMES. `Of P`: where the files tell, P holds of the source
abbrev pub PlayFails : (Of : (Source → Type 0) → Type 0) → Places → (seed : ℕ) → View → View → PlayFault → Type 0
PlayFails Of w seed old new (play.Capture d) = Of (λ s. IsOffered new w seed s (Fault d))
PlayFails Of w seed old new play.Read = ReadFailed old new (number_of w.arrivals) × Of (IsCutShort old new w seed)
PlayFails Of w seed old new (play.Write output.Departures) = WriteFailed old new (number_of w.departures)
PlayFails Of w seed old new (play.Write output.Fates) = WriteFailed old new (number_of w.fates)
PlayFails Of w seed old new (play.Write output.Statistics) = WriteFailed old new (number_of w.stats)
    × (Untouched old new (number_of w.stats) ⊎ Of (HasWholeTexts new w seed))
PlayFails Of w seed old new (play.Limit limit.Capture) = Of (λ s. IsOffered new w seed s Limit)
PlayFails Of w seed old new (play.Limit limit.Clock) = Of (IsLate old new w seed)
PlayFails Of w seed old new play.NoMemory = Unit {0}

-- what a fault of a play on a link ends a command as
abbrev pub play_failure : Link → Places → PlayFault → Failure
play_failure link w (play.Capture d) = failure.Capture link (capture.Damage d)
play_failure link w play.Read = failure.Read w.arrivals.part
play_failure link w (play.Write output.Departures) = failure.Write w.departures.part
play_failure link w (play.Write output.Fates) = failure.Write w.fates.part
play_failure link w (play.Write output.Statistics) = failure.Write w.stats.part
play_failure link w (play.Limit limit.Capture) = failure.Capture link capture.TooLong
play_failure link w (play.Limit limit.Clock) = failure.Capture link capture.Late
play_failure link w play.NoMemory = failure.NoMemory

-- a play fails with this failure: for a fault that is told so
pub record FailsAs (Of : (Source → Type 0) → Type 0) (link : Link) (w : Places) (seed : ℕ) (old new : View) (f : Failure) : Type 0 where
  pub fault : PlayFault
  pub same : f ≡ play_failure link w fault
  pub fails : PlayFails Of w seed old new fault
