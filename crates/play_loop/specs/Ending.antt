-- How the reading and the events of a play ended, before what is gathered is written.
use Rattle.std.specs.Prelude.{◌≡◌, ◌≤◌, ◌<◌, ◌⊎◌, ℕ, List, [], ◌∷◌, ◌++◌, length, None}
use Rattle.altq_model.specs.declared.Placed.{Placed}
use Rattle.altq_model.specs.Arrivals.{Captured, arrivals_of, bare_arrivals}
use Rattle.altq_model.specs.History.{DrawnWords, LabelledEvent, unlabelled, offered}
use Rattle.altq_model.specs.Lawful.{greatest}
use Rattle.altq_model.specs.Play.{AreDue, due}
use Rattle.capture_model.specs.Capture.{Record, Step, Fault, Limit, Reads, IsLast, IsCapture, place_after, most_bytes}
use Rattle.pcap_files.specs.declared.fault.CaptureFault.{CaptureFault}
use Rattle.pcap_files.specs.declared.fault.CaptureFault.TheVariants as capture
use Rattle.pcap_files.specs.declared.reader.Reader.{Reader}
use Rattle.pcap_files.specs.Reading.{AreAllTaken, Represents}
use Rattle.play_base.specs.View.{View}
use Rattle.play_core.specs.Ended.{IsCutOff}
use Rattle.play_core.specs.Finished.{EndsWithOffer}
use Rattle.play_loop.specs.declared.ending.Ending.{Ending}
use Rattle.play_loop.specs.declared.ending.Ending.TheVariants.{Whole, Cut, Late}
use Rattle.play_loop.specs.declared.fault.Limit.TheVariants as limit
use Rattle.play_loop.specs.declared.fault.PlayFault.{PlayFault}
use Rattle.play_loop.specs.declared.fault.PlayFault.TheVariants as play
use Rattle.play_loop.specs.declared.outputs.Outputs.{Outputs}
use Rattle.play_loop.specs.Played.{start_of}
use Rattle.play_loop.specs.Setup.{Setup, arrivals_in}
use Rattle.play_loop.specs.Underway.{IsBroken, IsUnderway, Moment}

-- how a fault of the capture becomes a fault of the play
abbrev pub capture_fault : CaptureFault → PlayFault
capture_fault (capture.Damage damage) = play.Capture damage
capture_fault capture.Limit = play.Limit limit.Capture
capture_fault capture.Read = play.Read
capture_fault capture.NoMemory = play.NoMemory

-- `arrived` are all arrivals of a capture
pub record IsAll (place : List ℕ → Placed) (bytes : List ℕ) (arrived : List Captured) : Type 0 where
  pub records : List Record
  pub arrivals : arrived ≡ arrivals_of place records
  pub reads : IsCapture bytes records
  pub size : place_after 24 records ≤ most_bytes

-- they are all arrivals of a capture, and none comes after `moment`
pub record IsPast (place : List ℕ → Placed) (bytes : List ℕ) (arrived : List Captured) (moment : ℕ) : Type 0 where
  pub all : IsAll place bytes arrived
  pub passed : greatest 0 all.records ≤ moment

-- what ended the reading of a file's bytes after these records: what stands there, or a read that failed, and then they are the
-- complete ones of the bytes that were taken
abbrev pub IsCut : CaptureFault → View → (file : ℕ) → (bytes : List ℕ) → List Record → Type 0
IsCut (capture.Damage found) v file bytes records = Reads bytes records (Fault found)
IsCut capture.Limit v file bytes records = Reads bytes records Limit
IsCut capture.Read v file bytes records = AreAllTaken v file bytes records
IsCut capture.NoMemory v file bytes records = Unit {0}

-- they are the arrivals of all records before a fault
pub record IsFaulty (place : List ℕ → Placed) (v : View) (file : ℕ) (bytes : List ℕ) (arrived : List Captured) (fault : CaptureFault) : Type 0 where
  pub records : List Record
  pub arrivals : arrived ≡ arrivals_of place records
  pub reads : IsCut fault v file bytes records

-- they are the arrivals of the records that a reader answered, and the last alone arrives after `moment`
pub record IsAhead (place : List ℕ → Placed) (v : View) (r : Reader) (bytes : List ℕ) (arrived : List Captured) (moment : ℕ) : Type 0 where
  pub before : List Record
  pub last : Record
  pub arrivals : arrived ≡ arrivals_of place (before ++ last ∷ [])
  pub stands : Represents v r bytes (before ++ last ∷ [])
  pub sound : r.fault ≡ None
  pub passed : greatest 0 before ≤ moment
  pub later : moment < greatest 0 (before ++ last ∷ [])

-- they are the first arrivals of all complete records, and `g` are the first events of the play
abbrev pub AreFirst : Setup → (told : List ℕ → Type 0) → List Captured → List LabelledEvent → Type 0
AreFirst x told arrived g = (bytes : List ℕ) → told bytes → (all : List Record) (last : Step) → Reads bytes all last → IsLast last
    → (more : List Captured) × (arrivals_in x all ≡ arrived ++ more) × AreDue x.policy x.rate x.seed (bare_arrivals (arrived ++ more)) g

-- every event was made
pub record IsDone (x : Setup) (told : List ℕ → Type 0) (arrived : List Captured) (g : List LabelledEvent) : Type 0 where
  pub done : due x.policy x.rate x.seed (bare_arrivals arrived) g ≡ None
  pub all : (bytes : List ℕ) → told bytes → IsAll x.place bytes arrived

-- every complete record was offered, the last of them last
pub record IsStuck (place : List ℕ → Placed) (told : List ℕ → Type 0) (v : View) (file : ℕ) (arrived : List Captured) (g : List LabelledEvent)
    (fault : CaptureFault) : Type 0 where
  pub offers : offered (unlabelled g) ≡ length arrived
  pub last : EndsWithOffer g
  pub faulty : (bytes : List ℕ) → told bytes → IsFaulty place v file bytes arrived fault

-- the next sending would end too late, and starts before the last arrival that was read, or no more arrive
pub record IsOverdue (x : Setup) (told : List ℕ → Type 0) (v : View) (r : Reader) (arrived : List Captured) (g : List LabelledEvent) : Type 0 where
  pub cut : IsCutOff x.policy x.rate x.seed (bare_arrivals arrived) g
  pub first : AreFirst x told arrived (cut.next ∷ g)
  pub ahead : (bytes : List ℕ) → told bytes → IsPast x.place bytes arrived (start_of cut.next.what) ⊎ IsAhead x.place v r bytes arrived (start_of cut.next.what)

-- no fault of reading ended it
abbrev pub IsClean : Ending → Type 0
IsClean Whole = Unit {0}
IsClean (Cut fault) = ⊥
IsClean Late = Unit {0}

abbrev pub EndsAs : Ending → Setup → (told : List ℕ → Type 0) → View → Reader → List Captured → List LabelledEvent → Type 0
EndsAs Whole x told v r arrived g = IsDone x told arrived g
EndsAs (Cut fault) x told v r arrived g = IsStuck x.place told v r.file arrived g fault
EndsAs Late x told v r arrived g = IsOverdue x told v r arrived g

-- the records that a reader had left were played, up to this end
pub record HasRun (x : Setup) (told : List ℕ → Type 0) (m : Moment) (r : Reader) (w : DrawnWords) (ending : Ending) : Type 0 where
  pub arrived : List Captured
  pub events : List LabelledEvent
  pub under : IsUnderway x m arrived w events
  pub ends : EndsAs ending x told m.files r arrived events
  pub first : AreFirst x told arrived events

-- or up to a write that failed
pub record HasBroken (x : Setup) (told : List ℕ → Type 0) (v : View) (o : Outputs) : Type 0 where
  pub arrived : List Captured
  pub events : List LabelledEvent
  pub broken : IsBroken x v o arrived events
  pub first : AreFirst x told arrived events
