-- What a reader stands for: the bytes that its file had left at the start, and the records answered so far.
use Rattle.std.specs.Prelude.{◌≡◌, ◌≤◌, ◌<◌, ◌+◌, ℕ, max, List, [], ◌++◌, ◌∷◌, length, take, drop, None, Some}
use Rattle.std.specs.declared.option.Option.{Option}
use Rattle.play_base.specs.View.{View}
use Rattle.capture_model.specs.declared.damage.DamageKind.TheVariants.{ShortRecord}
use Rattle.capture_model.specs.Capture.{Step, End, Fault, damage, Limit, Formed, Unformed, header, step, Stand, place_after, Reads, IsCapture, IsLast}
use Rattle.capture_model.specs.Capture as capture
use Rattle.pcap_files.specs.Ahead.{Pending, last}
use Rattle.pcap_files.specs.Forms.{form}
use Rattle.pcap_files.specs.Stand.{stand_at}
use Rattle.pcap_files.specs.declared.stand.Stand.TheVariants.{Headed}
use Rattle.pcap_files.specs.declared.fault.CaptureFault.{CaptureFault}
use Rattle.pcap_files.specs.declared.fault.CaptureFault.TheVariants as fault
use Rattle.pcap_files.specs.declared.reader.Reader.{Reader}
use Rattle.pcap_files.specs.declared.record.Found.{Found}
use Rattle.pcap_files.specs.declared.record.Record.{Record}

-- what is told of a record
pub record RecordTold : Type 0 where
  pub number : ℕ
  pub stamp : ℕ
  pub len : ℕ
  pub bytes : List ℕ

-- by a record that is lent
abbrev pub told_of : Record → RecordTold
told_of r = record { number = r.number; stamp = r.stamp; len = r.len; bytes = r.bytes.now }

-- by a reader that found it: its bytes are those that were passed last
abbrev pub told_by : Reader → Found → RecordTold
told_by r found = record { number = found.number; stamp = found.stamp; len = found.len; bytes = last found.captured r.ahead.passed }

-- the reader has the bytes of a record that was found
abbrev pub Holds : Reader → Found → Type 0
Holds r found = found.captured ≤ length r.ahead.passed

-- the answer shows this record of the capture, the one after `count` others; its length is the greater of the two
pub record Shows (answer : RecordTold) (count : ℕ) (r : capture.Record) : Type 0 where
  pub number : answer.number ≡ count + 1
  pub stamp : answer.stamp ≡ r.stamp
  pub len : answer.len ≡ max r.original (length r.captured)
  pub bytes : answer.bytes ≡ r.captured

-- where the fault is told by the bytes, it is what stands there
abbrev pub IsCause : Option CaptureFault → Step → Type 0
IsCause None stands = Unit {0}
IsCause (Some (fault.Damage found)) stands = stands ≡ Fault found
IsCause (Some fault.Limit) stands = stands ≡ Limit
IsCause (Some fault.Read) stands = Unit {0}
IsCause (Some fault.NoMemory) stands = Unit {0}

-- the reader's file had these bytes left at the start, and these records were answered, the first complete ones
pub record Represents (v : View) (r : Reader) (bytes : List ℕ) (records : List capture.Record) : Type 0 where
  pub formed : header bytes ≡ Formed (form r.head)
  pub stand : Stand (form r.head) bytes 0 24 records
  pub count : r.progress.count ≡ length records
  pub place : r.progress.place ≡ place_after 24 records
  -- what follows them was taken ahead, or is what the file has left
  pub pending : r.fault ≡ None → Pending v r.file r.progress.place r.ahead.waiting bytes
  pub ahead : r.fault ≡ None → length r.ahead.waiting ≤ 65535
  pub cause : IsCause r.fault (step (form r.head) bytes (length records) (place_after 24 records))

-- a record was answered: the one that follows those answered before
abbrev pub Answers : View → View → Reader → Reader → RecordTold → Type 0
Answers old_view new_view old new answer = (bytes : List ℕ) (records : List capture.Record) → Represents old_view old bytes records
    → (r : capture.Record) × Shows answer (length records) r × Represents new_view new bytes (records ++ r ∷ [])

-- how many records a reader has answered
abbrev pub answered : Reader → ℕ
answered r = r.progress.count

-- the answer is the next by number, whether or not the file tells its bytes
pub record Counts (old new : Reader) (answer : RecordTold) : Type 0 where
  pub number : answer.number ≡ answered old + 1
  pub count : answered new ≡ answered old + 1

-- no record was answered: the reader stands for what it stood for
abbrev pub Stays : View → View → Reader → Reader → Type 0
Stays old_view new_view old new = (bytes : List ℕ) (records : List capture.Record) → Represents old_view old bytes records
    → Represents new_view new bytes records

-- the records answered are all of a capture
abbrev pub IsWhole : View → Reader → Type 0
IsWhole v r = (bytes : List ℕ) (records : List capture.Record) → Represents v r bytes records → IsCapture bytes records

-- of the bytes that were taken from the file, these records are the complete ones
pub record AreAllTaken (v : View) (file : ℕ) (bytes : List ℕ) (records : List capture.Record) : Type 0 where
  pub taken : List ℕ
  pub rest : List ℕ
  pub split : bytes ≡ taken ++ rest
  pub left : v.left file ≡ Some rest
  pub last : Step
  pub reads : Reads taken records last
  pub ended : IsLast last

-- a read that failed cut the reader off: it has answered all complete records of the bytes that were taken from the file
abbrev pub IsCutOff : View → View → Reader → Type 0
IsCutOff old_view new_view r = (bytes : List ℕ) (records : List capture.Record) → Represents old_view r bytes records
    → AreAllTaken new_view r.file bytes records

-- the header of a record stands in the bytes ahead, and so does all that it announces
pub record HoldsNext (r : Reader) : Type 0 where
  pub head : 16 ≤ length r.ahead.waiting
  pub whole : (stamp captured original : ℕ) → stand_at (form r.head) r.progress.count r.progress.place r.ahead.waiting ≡ Headed stamp captured original
      → 16 + captured ≤ length r.ahead.waiting

-- what these bytes read as, where the fault is told by the bytes
abbrev pub ReadsTo : CaptureFault → List ℕ → List capture.Record → Type 0
ReadsTo (fault.Damage found) bytes records = Reads bytes records (Fault found)
ReadsTo fault.Limit bytes records = Reads bytes records Limit
ReadsTo fault.Read bytes records = Unit {0}
ReadsTo fault.NoMemory bytes records = Unit {0}

-- where the fault of a start is told by the bytes, it is the first test that their header fails
abbrev pub IsHeadFault : CaptureFault → List ℕ → Type 0
IsHeadFault (fault.Damage found) bytes = header bytes ≡ Unformed found
IsHeadFault fault.Limit bytes = ⊥
IsHeadFault fault.Read bytes = Unit {0}
IsHeadFault fault.NoMemory bytes = Unit {0}

-- the fault is the one that follows the records answered
abbrev pub IsFault : View → Reader → CaptureFault → Type 0
IsFault v r f = (bytes : List ℕ) (records : List capture.Record) → Represents v r bytes records → ReadsTo f bytes records

-- nothing changed but the bytes ahead
pub record SameBut (old new : Reader) : Type 0 where
  pub head : new.head ≡ old.head
  pub file : new.file ≡ old.file
  pub progress : new.progress ≡ old.progress
  pub fault : new.fault ≡ old.fault

-- the record with this header was taken from the bytes ahead
pub record IsTaken (old new : Reader) (found : Found) (stamp_given captured_given original : ℕ) : Type 0 where
  pub enough : 16 + captured_given ≤ length old.ahead.waiting
  pub head : new.head ≡ old.head
  pub file : new.file ≡ old.file
  pub fault : new.fault ≡ old.fault
  pub count : new.progress.count ≡ old.progress.count + 1
  pub place : new.progress.place ≡ old.progress.place + 16 + captured_given
  pub ahead : new.ahead.waiting ≡ drop (16 + captured_given) old.ahead.waiting
  pub number : found.number ≡ old.progress.count + 1
  pub stamp : found.stamp ≡ stamp_given
  pub len : found.len ≡ max original captured_given
  pub captured : found.captured ≡ captured_given
  pub passed : new.ahead.passed ≡ old.ahead.passed ++ take (16 + captured_given) old.ahead.waiting

-- why the record at this place was not taken
abbrev pub IsCut : CaptureFault → (at : ℕ) → (ahead : List ℕ) → (captured : ℕ) → Type 0
IsCut (fault.Damage found) at ahead captured = (length ahead < 16 + captured) × (found ≡ damage at ShortRecord)
IsCut fault.Limit at ahead captured = ⊥
IsCut fault.Read at ahead captured = ⊥
IsCut fault.NoMemory at ahead captured = ⊥
