-- What is converted, and why something is not.
use Rattle.std.specs.Prelude.{◌≡◌, ℕ, List}
use Rattle.capture_model.specs.Capture.{Record, IsCapture}
use Rattle.capture_model.specs.Written.{written}
use Rattle.pcapng_model.specs.Block.{BlockContent, Refuses, TooMany}
use Rattle.pcapng_model.specs.Reading.{Step, Fault, IsPcapng, Reads}
use Rattle.pcapng_model.specs.Reading as reading
use Rattle.pcapng_files.specs.declared.fault.NgFault.{NgFault}
use Rattle.pcapng_files.specs.declared.fault.NgFault.TheVariants as ng
use Rattle.pcapng_files.specs.declared.fault.Refusal.{Refusal}
use Rattle.pcapng_files.specs.declared.fault.Refusal.TheVariants.{Broken, Limit, NoMemory}

-- the fault of a file whose block at a place is not taken
abbrev pub fault_of : Refusal → (place : ℕ) → NgFault
fault_of (Broken kind) place = ng.At (record { place = place; kind = kind })
fault_of Limit place = ng.Limit
fault_of NoMemory place = ng.NoMemory

-- why a block that tells this is not taken
abbrev pub IsRefusal : Refusal → BlockContent → Type 0
IsRefusal (Broken kind) t = t ≡ Refuses kind
IsRefusal Limit t = t ≡ TooMany
IsRefusal NoMemory t = Unit {0}

-- why no block follows a place
abbrev pub IsFault : NgFault → Step → Type 0
IsFault (ng.At found) s = s ≡ Fault found
IsFault ng.Limit s = s ≡ reading.Limit
IsFault ng.NoMemory s = Unit {0}

-- the classic capture of a pcapng capture: both read as these packets
pub record IsConversion (bytes capture : List ℕ) : Type 0 where
  pub records : List Record
  pub read : IsPcapng bytes records
  pub capture_is : capture ≡ written records
  pub reads_back : IsCapture capture records

-- where the fault is told by the bytes, some packets stand before it, and it is the first one
abbrev pub IsCause : NgFault → List ℕ → Type 0
IsCause (ng.At found) bytes = (records : List Record) × Reads bytes records (Fault found)
IsCause ng.Limit bytes = (records : List Record) × Reads bytes records reading.Limit
IsCause ng.NoMemory bytes = Unit {0}
