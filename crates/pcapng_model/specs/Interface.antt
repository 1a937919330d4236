-- An interface description and the stamps of its packets (pcapng, "Interface Description Block", "Options").
use Rattle.std.specs.Prelude.{◌==◌, ◌||◌, ◌+◌, ◌-◌, ◌*◌, ◌/◌, ◌^◌, ℕ, zero, suc, Bool, true, false, nat_lt, List, length, drop, slice_index, if◌then◌else◌, None, Some}
use Rattle.std.specs.declared.option.Option.{Option}
use Rattle.pcapng_model.specs.Number.{number, padded}

-- what is added to every stamp, in whole seconds: stamps are later or earlier than their counts say
pub data Offset : Type 0 where
  Later : (seconds : ℕ) → Offset
  Earlier : (seconds : ℕ) → Offset

-- an interface of a section: its link type, the units that its counts have in a second, and its offset
pub record Interface : Type 0 where
  pub link : ℕ
  pub units : ℕ
  pub offset : Offset

-- the values of options 9 (if_tsresol) and 14 (if_tsoffset)
pub record Settings : Type 0 where
  pub resolution : ℕ
  pub offset : ℕ

-- microseconds, and no offset
abbrev pub unset : Settings
unset = record { resolution = 6; offset = 0 }

-- an option with this code and length sets what its value says; one of another code sets nothing
abbrev pub set_by : (big : Bool) → (code len : ℕ) → (value : List ℕ) → Settings → Option Settings
set_by big code len value s =
    if code == 9 then if len == 1 then Some (record s { resolution = slice_index value 0 }) else None
    else if code == 14 then if len == 8 then Some (record s { offset = number big 8 value 0 }) else None
    else Some s

-- Options, each a code, a length and a value padded to 4 bytes, set one after another: so the last one of a code holds. Code 0 or the
-- end of the bytes ends them. None where one ends past the bytes, or has a length that its code forbids.
abbrev pub options_on : (turns : ℕ) → (big : Bool) → List ℕ → Settings → Option Settings
options_on zero big bytes s = Some s
options_on (suc turns) big bytes s =
    let code = number big 2 bytes 0 in
    let len = number big 2 bytes 2 in
    elim (nat_lt (length bytes) 4 || (code == 0)) [
      | true ↦ Some s
      | false ↦ elim (if nat_lt (length bytes) (4 + padded len) then None else set_by big code len (drop 4 bytes) s) [
        | None ↦ None
        | Some next ↦ options_on turns big (drop (4 + padded len) bytes) next
      ]
    ]

abbrev pub options : (big : Bool) → List ℕ → Option Settings
options big bytes = options_on (length bytes) big bytes unset

-- the units of a second that a resolution gives: a power of ten, or of two where the highest bit is set
abbrev pub units_of : (resolution : ℕ) → Option ℕ
units_of resolution =
    if nat_lt resolution 128 then if nat_lt 18 resolution then None else Some (10 ^ resolution)
    else if nat_lt 63 (resolution - 128) then None else Some (2 ^ (resolution - 128))

-- the seconds that 64 bits say, as a signed number
abbrev pub offset_of : ℕ → Offset
offset_of bits = if nat_lt bits (2 ^ 63) then Later bits else Earlier (2 ^ 64 - bits)

-- nanoseconds since the epoch, moved by an offset: None before the epoch
abbrev pub moved : Offset → ℕ → Option ℕ
moved (Later s) nanos = Some (nanos + s * 10 ^ 9)
moved (Earlier s) nanos = if nat_lt nanos (s * 10 ^ 9) then None else Some (nanos - s * 10 ^ 9)

-- a packet's stamp is its count in nanoseconds, rounded down, and the interface's offset: None before the epoch, or 2^32 seconds or more
-- behind it
abbrev pub early : Option ℕ → Option ℕ
early None = None
early (Some stamp) = if nat_lt stamp (2 ^ 32 * 10 ^ 9) then Some stamp else None

abbrev pub stamp : Interface → (count : ℕ) → Option ℕ
stamp i count = early (moved i.offset (count * 10 ^ 9 / i.units))
