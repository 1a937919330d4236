-- The reading of a capture in the classic capture format of version 2.4 (libpcap, pcap-savefile(5)): a header of 24 bytes,
-- then records, each a header of 16 bytes and the captured bytes.
use Rattle.std.specs.Prelude.{◌≡◌, ◌==◌, ◌||◌, ◌&&◌, ◌+◌, ◌*◌, ◌%◌, ◌^◌, ℕ, zero, suc, Bool, true, false, not, nat_lt, nat_le, List, [], ◌∷◌, length, take, drop, if◌then◌else◌, None, Some}
use Rattle.std.specs.declared.option.Option.{Option}
use Rattle.std.specs.Int.{w16, w32, from_be_bytes, from_le_bytes}
use Rattle.capture_model.specs.declared.damage.Damage.{Damage}
use Rattle.capture_model.specs.declared.damage.DamageKind.{DamageKind}
use Rattle.capture_model.specs.declared.damage.DamageKind.TheVariants.{ShortHead, BadMagic, BadVersion, BadLink, ShortRecord, EmptyRecord, LongRecord}

-- the order of a file's bytes, and whether its fractions count nanoseconds or microseconds
pub record Form : Type 0 where
  pub big : Bool
  pub nanos : Bool

-- a record: its stamp in nanoseconds, the captured bytes, and the length that the packet had
pub record Record : Type 0 where
  pub stamp : ℕ
  pub captured : List ℕ
  pub original : ℕ

-- the most records that a capture has
abbrev pub most_records : ℕ
most_records = 4000000

-- no record ends past this byte
abbrev pub most_bytes : ℕ
most_bytes = 2 ^ 30

-- no packet is longer, captured or whole
abbrev pub longest : ℕ
longest = 262144

-- the number that four bytes at a place hold
abbrev pub word : Bool → List ℕ → ℕ → ℕ
word true bytes at = from_be_bytes w32 (take 4 (drop at bytes))
word false bytes at = from_le_bytes w32 (take 4 (drop at bytes))

-- the number that two bytes at a place hold
abbrev pub half : Bool → List ℕ → ℕ → ℕ
half true bytes at = from_be_bytes w16 (take 2 (drop at bytes))
half false bytes at = from_le_bytes w16 (take 2 (drop at bytes))

-- the form that the first four bytes name, read as big-endian
abbrev pub form_of : ℕ → Option Form
form_of magic =
    if magic == 0xa1b2c3d4 then Some (record { big = true; nanos = false })
    else if magic == 0xd4c3b2a1 then Some (record { big = false; nanos = false })
    else if magic == 0xa1b23c4d then Some (record { big = true; nanos = true })
    else if magic == 0x4d3cb2a1 then Some (record { big = false; nanos = true })
    else None

-- what the header reads as: a form, or the first test that it fails
pub data Header : Type 0 where
  Formed : Form → Header
  Unformed : Damage → Header

-- a fault of this kind at this place
abbrev pub damage : ℕ → DamageKind → Damage
damage place kind = record { place = place; kind = kind }

-- the version is 2.4 and the low 16 bits of the link type are Ethernet's; nothing else is looked at
abbrev pub header_in : Option Form → List ℕ → Header
header_in None bytes = Unformed (damage 0 BadMagic)
header_in (Some form) bytes =
    if not ((half form.big bytes 4 == 2) && (half form.big bytes 6 == 4)) then Unformed (damage 4 BadVersion)
    else if not (word form.big bytes 20 % 2 ^ 16 == 1) then Unformed (damage 20 BadLink)
    else Formed form

abbrev pub header : List ℕ → Header
header bytes =
    if nat_lt (length bytes) 24 then Unformed (damage (length bytes) ShortHead)
    else header_in (form_of (word true bytes 0)) bytes

-- the stamp of the record at a place: a fraction of a second or more is carried
abbrev pub stamp : Form → List ℕ → ℕ → ℕ
stamp form bytes at =
    word form.big bytes at * 10 ^ 9 + word form.big bytes (at + 4) * (if form.nanos then 1 else 1000)

-- what stands at a place after `count` records: the end of the capture, a record and the place after it, the first test
-- that fails, or a limit
pub data Step : Type 0 where
  End : Step
  Next : Record → (after : ℕ) → Step
  Fault : Damage → Step
  Limit : Step

abbrev pub step : Form → List ℕ → (count at : ℕ) → Step
step form bytes count at =
    let captured = word form.big bytes (at + 8) in
    let original = word form.big bytes (at + 12) in
    if nat_le (length bytes) at then End
    else if count == most_records then Limit
    else if nat_lt (length bytes) (at + 16) then Fault (damage at ShortRecord)
    else if nat_lt longest captured || nat_lt longest original then Fault (damage at LongRecord)
    else if (captured == 0) && (original == 0) then Fault (damage at EmptyRecord)
    else if nat_lt most_bytes (at + 16 + captured) then Limit
    else if nat_lt (length bytes) (at + 16 + captured) then Fault (damage at ShortRecord)
    else Next (record { stamp = stamp form bytes at; captured = take captured (drop (at + 16) bytes); original = original }) (at + 16 + captured)

-- what may stand after the complete records
abbrev pub IsLast : Step → Type 0
IsLast End = Unit {0}
IsLast (Next r after) = ⊥
IsLast (Fault found) = Unit {0}
IsLast Limit = Unit {0}

-- the place after these records
abbrev pub place_after : ℕ → List Record → ℕ
place_after at [] = at
place_after at (r ∷ rs) = place_after (at + 16 + length r.captured) rs

-- from a place on, after `count` records, these records stand whole
abbrev pub Stand : Form → List ℕ → (count at : ℕ) → List Record → Type 0
Stand form bytes count at [] = Unit {0}
Stand form bytes count at (r ∷ rs) =
    (step form bytes count at ≡ Next r (at + 16 + length r.captured)) × Stand form bytes (count + 1) (at + 16 + length r.captured) rs

-- in this form these records stand whole, and then this stands
pub record ReadsAs (form : Form) (bytes : List ℕ) (records : List Record) (last : Step) : Type 0 where
  pub stand : Stand form bytes 0 24 records
  pub ended : step form bytes (length records) (place_after 24 records) ≡ last

abbrev pub ReadsFrom : Header → List ℕ → List Record → Step → Type 0
ReadsFrom (Formed form) bytes records last = ReadsAs form bytes records last
ReadsFrom (Unformed fault) bytes records last = (records ≡ []) × (last ≡ Fault fault)

-- these are the complete records of a file, and after them comes its end, its first fault or its limit
abbrev pub Reads : List ℕ → List Record → Step → Type 0
Reads bytes records last = ReadsFrom (header bytes) bytes records last

-- the bytes are a capture of these records
abbrev pub IsCapture : List ℕ → List Record → Type 0
IsCapture bytes records = Reads bytes records End

-- the reading, computed, over at most as many records as are asked for: the complete records, and what stands after them
pub record Outcome : Type 0 where
  pub records : List Record
  pub last : Step

abbrev pub more : Record → Outcome → Outcome
more r o = record { records = r ∷ o.records; last = o.last }

abbrev pub outcome_on : (turns : ℕ) → Form → List ℕ → (count at : ℕ) → Outcome
outcome_on zero form bytes count at = record { records = []; last = step form bytes count at }
outcome_on (suc turns) form bytes count at =
    elim (step form bytes count at) [
      | End ↦ record { records = []; last = End }
      | Next r after ↦ more r (outcome_on turns form bytes (count + 1) after)
      | Fault fault ↦ record { records = []; last = Fault fault }
      | Limit ↦ record { records = []; last = Limit }
    ]

abbrev pub outcome_from : Header → List ℕ → Outcome
outcome_from (Formed form) bytes = outcome_on (length bytes) form bytes 0 24
outcome_from (Unformed fault) bytes = record { records = []; last = Fault fault }

abbrev pub outcome : List ℕ → Outcome
outcome bytes = outcome_from (header bytes) bytes
