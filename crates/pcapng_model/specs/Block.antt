-- A block of a pcapng file, and what it says: its type, its total length, its body, and the total length again.
use Rattle.std.specs.Prelude.{◌==◌, ◌||◌, ◌&&◌, ◌+◌, ◌-◌, ◌*◌, ◌%◌, ◌^◌, ℕ, Bool, true, false, not, nat_lt, List, length, take, drop, slice_get, if◌then◌else◌, None, Some}
use Rattle.std.specs.declared.option.Option.{Option}
use Rattle.capture_model.specs.Capture.{Record, longest, most_records}
use Rattle.pcapng_model.specs.Interface.{Interface, Settings, options, units_of, offset_of, stamp}
use Rattle.pcapng_model.specs.Number.{number, padded}
use Rattle.pcapng_model.specs.declared.fault.NgKind.{NgKind}
use Rattle.pcapng_model.specs.declared.fault.NgKind.TheVariants.{ShortBlock, BadBlock, BadMagic, BadVersion, BadResolution, OldPacket, UnknownInterface, BadLink, LongRecord, EmptyRecord, BadStamp}

-- the type of a section header, alike in both orders
abbrev pub section_type : ℕ
section_type = 0x0a0d0d0a

-- a block stands whole, with its order of bytes, its type, its body and the place behind it, or is broken
pub data Framed : Type 0 where
  Whole : (big : Bool) → (kind : ℕ) → (body : List ℕ) → (after : ℕ) → Framed
  Broken : NgKind → Framed

-- the order that the magic of a section header shows, read as big-endian
abbrev pub order_of : ℕ → Option Bool
order_of magic = if magic == 0x1a2b3c4d then Some true else if magic == 0x4d3c2b1a then Some false else None

-- the order of the block at a place: a section header begins an order of its own
abbrev pub order_at : (big : Bool) → List ℕ → (at : ℕ) → Option Bool
order_at big bytes at = if number true 4 bytes at == section_type then order_of (number true 4 bytes (at + 8)) else Some big

abbrev pub framed_by : Option Bool → List ℕ → (at : ℕ) → Framed
framed_by None bytes at = Broken BadMagic
framed_by (Some big) bytes at =
    let total = number big 4 bytes (at + 4) in
    if nat_lt (length bytes) (at + total) then Broken ShortBlock
    else if nat_lt total 12 || not (total % 4 == 0) || not (number big 4 bytes (at + total - 4) == total) then Broken BadBlock
    else Whole big (number big 4 bytes at) (take (total - 12) (drop (at + 8) bytes)) (at + total)

abbrev pub framed : (big : Bool) → List ℕ → (at : ℕ) → Framed
framed big bytes at = if nat_lt (length bytes) (at + 12) then Broken ShortBlock else framed_by (order_at big bytes at) bytes at

-- what a whole block holds
pub data Found : Type 0 where
  NewSection : (big : Bool) → Found
  NewInterface : Interface → Found
  Packet : Record → Found
  Passed : Found

-- a block tells what it holds, or fails a test, or is one packet too many
pub data BlockContent : Type 0 where
  Tells : Found → BlockContent
  Refuses : NgKind → BlockContent
  TooMany : BlockContent

abbrev pub told_section : (big : Bool) → (body : List ℕ) → BlockContent
told_section big body =
    if nat_lt (length body) 16 then Refuses BadBlock
    else if not (number big 2 body 4 == 1) then Refuses BadVersion
    else Tells (NewSection big)

abbrev pub described : (link offset : ℕ) → (units : Option ℕ) → BlockContent
described link offset None = Refuses BadResolution
described link offset (Some units) = Tells (NewInterface (record { link = link; units = units; offset = offset_of offset }))

abbrev pub described_by : (link : ℕ) → Option Settings → BlockContent
described_by link None = Refuses BadBlock
described_by link (Some s) = described link s.offset (units_of s.resolution)

abbrev pub told_interface : (big : Bool) → (body : List ℕ) → BlockContent
told_interface big body =
    if nat_lt (length body) 8 then Refuses BadBlock
    else described_by (number big 2 body 0) (options big (drop 8 body))

-- the two halves of a packet's count, the high one first
abbrev pub count_in : (big : Bool) → (body : List ℕ) → ℕ
count_in big body = number big 4 body 4 * 2 ^ 32 + number big 4 body 8

abbrev pub stamped : Option ℕ → (captured : List ℕ) → (original : ℕ) → BlockContent
stamped None captured original = Refuses BadStamp
stamped (Some stamp) captured original = Tells (Packet (record { stamp = stamp; captured = captured; original = original }))

abbrev pub packet_on : Option Interface → (big : Bool) → (body : List ℕ) → BlockContent
packet_on None big body = Refuses UnknownInterface
packet_on (Some i) big body =
    let captured = number big 4 body 12 in
    let original = number big 4 body 16 in
    if not (i.link == 1) then Refuses BadLink
    else if nat_lt longest captured || nat_lt longest original then Refuses LongRecord
    else if (captured == 0) && (original == 0) then Refuses EmptyRecord
    else stamped (stamp i (count_in big body)) (take captured (drop 20 body)) original

-- behind `count` packets; the options of a packet are not looked at
abbrev pub told_packet : (big : Bool) → (body : List ℕ) → List Interface → (count : ℕ) → BlockContent
told_packet big body interfaces count =
    if nat_lt (length body) 20 || nat_lt (length body) (20 + padded (number big 4 body 12)) then Refuses BadBlock
    else if count == most_records then TooMany
    else packet_on (slice_get interfaces (number big 4 body 0)) big body

-- types 2 and 3, the obsolete and the simple packet block, would lose packets or their moments; other types are passed over
abbrev pub told : (big : Bool) → (kind : ℕ) → (body : List ℕ) → List Interface → (count : ℕ) → BlockContent
told big kind body interfaces count =
    if kind == section_type then told_section big body
    else if kind == 1 then told_interface big body
    else if (kind == 2) || (kind == 3) then Refuses OldPacket
    else if kind == 6 then told_packet big body interfaces count
    else Tells Passed
