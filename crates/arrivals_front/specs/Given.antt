-- How a file of arrivals is read: as a classic capture or, where it begins with the type of a section header block, as a pcapng one
-- (IETF draft-ietf-opsawg-pcapng).
use Rattle.std.specs.Prelude.{◌≡◌, ◌≤◌, ◌⊎◌, ◌+◌, ℕ, Bool, true, false, List, [], ◌∷◌, length, take, bytes_eq, Some}
use Rattle.pcapng_files.specs.Converted.{IsCause, IsConversion}
use Rattle.pcapng_files.specs.Fronts.{with_front}
use Rattle.pcapng_files.specs.declared.fault.NgFault.{NgFault}
use Rattle.pcapng_files.specs.declared.fault.NgFault.TheVariants as ng
use Rattle.play_base.specs.declared.trouble.Trouble.{Trouble}
use Rattle.play_base.specs.declared.trouble.Trouble.TheVariants as trouble
use Rattle.play_base.specs.View.{View, ReadFault}
use Rattle.arrivals_front.specs.Taking.{IsLonger}
use Rattle.arrivals_front.specs.declared.given.Given.{Given}
use Rattle.arrivals_front.specs.declared.given.GivenFault.{GivenFault}
use Rattle.arrivals_front.specs.declared.given.GivenFault.TheVariants as fault

-- the bytes begin with 0a 0d 0d 0a
abbrev pub is_pcapng : List ℕ → Bool
is_pcapng bytes = bytes_eq (take 4 bytes) (10 ∷ 13 ∷ 13 ∷ 10 ∷ [])

-- WHAT IS PLAYED OF WHAT IS GIVEN: of a classic capture its own bytes, of a pcapng one the classic capture of its packets
abbrev pub ReadBy : (pcapng : Bool) → (given bytes : List ℕ) → Type 0
ReadBy false given bytes = given ≡ bytes
ReadBy true given bytes = IsConversion given bytes

abbrev pub ReadAs : (given bytes : List ℕ) → Type 0
ReadAs given bytes = ReadBy (is_pcapng given) given bytes

-- the front, and what the file has left behind it where that follows, are what is played of what the file had left
pub record Follows (new : View) (file : ℕ) (given : List ℕ) (g : Given) : Type 0 where
  pub bytes : List ℕ
  pub read : ReadAs given bytes
  pub left : with_front true g.rest g.front.items (new.left file) ≡ Some bytes
  pub classic : g.rest ≡ true → (is_pcapng given ≡ false) × (length g.front.items ≤ 4)
  pub pcapng : g.rest ≡ false → is_pcapng given ≡ true

-- of a pcapng file all was taken, and it reads as a capture; of any other the first four bytes, or all
abbrev pub BegunBy : (pcapng : Bool) → (given rest : List ℕ) → Type 0
BegunBy true given rest = (rest ≡ []) × ((capture : List ℕ) × IsConversion given capture)
BegunBy false given rest = (rest ≡ []) ⊎ (4 + length rest ≤ length given)

-- that was taken of what the file had left
abbrev pub IsBegunAt : View → (file : ℕ) → (given : List ℕ) → Type 0
IsBegunAt new file given = (rest : List ℕ) × (new.left file ≡ Some rest) × BegunBy (is_pcapng given) given rest

-- why the arrivals cannot be read: what a pcapng file tells, or a read that failed
abbrev pub IsRefused : View → View → (file : ℕ) → GivenFault → Type 0
IsRefused old new file (fault.At place) = (given : List ℕ) → old.left file ≡ Some given → (is_pcapng given ≡ true) × IsCause (ng.At place) given
IsRefused old new file fault.Limit = (given : List ℕ) → old.left file ≡ Some given → (is_pcapng given ≡ true) × IsCause ng.Limit given
IsRefused old new file fault.Read = ReadFault old new file
IsRefused old new file fault.NoMemory = Unit {0}

-- why not all of a file is taken behind these bytes: they and what it has left are too long, or a read failed
abbrev pub IsCutShort : View → View → (file : ℕ) → (before : List ℕ) → GivenFault → Type 0
IsCutShort old new file before (fault.At place) = ⊥
IsCutShort old new file before fault.Limit = IsLonger old file before
IsCutShort old new file before fault.Read = ReadFault old new file
IsCutShort old new file before fault.NoMemory = Unit {0}

-- what trouble with a read means, and what a pcapng file that is not converted
abbrev pub read_fault : Trouble → GivenFault
read_fault trouble.Failed = fault.Read
read_fault trouble.NoMemory = fault.NoMemory

abbrev pub conversion_fault : NgFault → GivenFault
conversion_fault (ng.At place) = fault.At place
conversion_fault ng.Limit = fault.Limit
conversion_fault ng.NoMemory = fault.NoMemory
