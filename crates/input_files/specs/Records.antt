-- The records of a capture that was read whole.
use Rattle.std.specs.Prelude.{◌≡◌, ◌<◌, ◌⊎◌, ℕ, max, List, length, map}
use Rattle.capture_model.specs.Capture.{IsCapture, Record, most_bytes}
use Rattle.pcap_files.specs.declared.fault.CaptureFault.{CaptureFault}
use Rattle.pcap_files.specs.declared.fault.CaptureFault.TheVariants as fault
use Rattle.pcap_files.specs.declared.record.Record.{Record as Answer}
use Rattle.pcap_files.specs.Reading.{ReadsTo}
use Rattle.play_base.specs.View.{View, IsAtEnd, ReadFault, Took}

-- what a reader says of a record: its stamp, the greater of its two lengths, and the captured bytes
pub record Shown : Type 0 where
  pub stamp : ℕ
  pub len : ℕ
  pub bytes : List ℕ

abbrev pub shown_by : Answer → Shown
shown_by a = record { stamp = a.stamp; len = a.len; bytes = a.bytes.now }

abbrev pub shown_of : Record → Shown
shown_of r = record { stamp = r.stamp; len = max r.original (length r.captured); bytes = r.captured }

-- the bytes are a capture of records of which this is shown, one by one
pub record AreRecords (bytes : List ℕ) (shown : List Shown) : Type 0 where
  pub records : List Record
  pub capture : IsCapture bytes records
  pub are : shown ≡ map shown_of records

-- where the fault is told by the bytes, it follows their complete records
pub record HasFault (bytes : List ℕ) (f : CaptureFault) : Type 0 where
  pub records : List Record
  pub reads : ReadsTo f bytes records

-- all that a file had left was taken, or more bytes of it than a capture may have
abbrev pub IsReadOut : View → View → (file : ℕ) → Type 0
IsReadOut old new file = IsAtEnd new file ⊎ ((bytes : List ℕ) × Took old new file bytes × (most_bytes < length bytes))

-- a fault that the bytes tell is told once the file is read out
abbrev pub IsToldLast : View → View → (file : ℕ) → CaptureFault → Type 0
IsToldLast old new file (fault.Damage found) = IsReadOut old new file
IsToldLast old new file fault.Limit = IsReadOut old new file
IsToldLast old new file fault.Read = Unit {0}
IsToldLast old new file fault.NoMemory = Unit {0}

-- a fault is told as it is, but where a read of the file fails
abbrev pub StaysOrFails : View → View → (file : ℕ) → (fault told : CaptureFault) → Type 0
StaysOrFails old new file f (fault.Damage found) = f ≡ fault.Damage found
StaysOrFails old new file f fault.Limit = f ≡ fault.Limit
StaysOrFails old new file f fault.Read = (f ≡ fault.Read) ⊎ ReadFault old new file
StaysOrFails old new file f fault.NoMemory = Unit {0}
