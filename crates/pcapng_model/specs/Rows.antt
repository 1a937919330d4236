-- Worked examples, as a dump shows them: each word is four bytes.
use Rattle.std.specs.Prelude.{ℕ, ◌+◌, List, [], ◌∷◌, ◌++◌, length, take, drop, replicate}
use Rattle.byteorder.specs.Endian.{big_bytes}
use Rattle.capture_model.specs.Capture.{Record}
use Rattle.capture_model.specs.Rows.{plain}
use Rattle.pcapng_model.specs.Reading.{Outcome, End, fault}
use Rattle.pcapng_model.specs.declared.fault.NgKind.{NgKind}

abbrev pub words : List ℕ → List ℕ
words [] = []
words (w ∷ ws) = big_bytes 4 w ++ words ws

-- the bytes with others from a place on
abbrev pub put : (at : ℕ) → List ℕ → List ℕ → List ℕ
put at new bytes = take at bytes ++ new ++ drop (at + length new) bytes

-- a little-endian section header of version 1.0, of 28 bytes
abbrev pub section : List ℕ
section = words (0x0a0d0d0a ∷ 0x1c000000 ∷ 0x4d3c2b1a ∷ 0x01000000 ∷ 0xffffffff ∷ 0xffffffff ∷ 0x1c000000 ∷ [])

-- an Ethernet interface with options, of a total length that is given as its word
abbrev pub interface : (total : ℕ) → (options : List ℕ) → List ℕ
interface total options = words (0x01000000 ∷ total ∷ 0x01000000 ∷ 0x00000400 ∷ []) ++ options ++ words (total ∷ [])

-- a packet of length 1000 on interface 0, of which 60 bytes are captured, with the two halves of its count as words
abbrev pub packet : (high low : ℕ) → List ℕ
packet high low = words (0x06000000 ∷ 0x5c000000 ∷ 0x00000000 ∷ high ∷ low ∷ 0x3c000000 ∷ 0xe8030000 ∷ []) ++ replicate 60 0 ++ words (0x5c000000 ∷ [])

-- such a packet behind one interface with these options
abbrev pub counted : (total : ℕ) → (options : List ℕ) → (high low : ℕ) → List ℕ
counted total options high low = section ++ interface total (words options) ++ packet high low

-- the interface stands at 28, the packet at 48, the end at 140; its count says five seconds
abbrev pub one_packet : List ℕ
one_packet = counted 0x14000000 [] 0x00000000 0x404b4c00

abbrev pub ends_with : List Record → Outcome
ends_with records = record { records = records; last = End }

abbrev pub breaks_at : ℕ → NgKind → Outcome
breaks_at place kind = record { records = []; last = fault place kind }

abbrev pub stamped_at : ℕ → Outcome
stamped_at stamp = ends_with (plain stamp 1000 ∷ [])

-- a big-endian section header, interface and packet of 3 captured bytes, at 5 nanoseconds
abbrev pub big_section : List ℕ
big_section = words (0x0a0d0d0a ∷ 0x0000001c ∷ 0x1a2b3c4d ∷ 0x00010000 ∷ 0xffffffff ∷ 0xffffffff ∷ 0x0000001c ∷ [])

abbrev pub big_packet : List ℕ
big_packet =
    words (0x00000001 ∷ 0x0000001c ∷ 0x00010000 ∷ 0x00040000 ∷ 0x00090001 ∷ 0x09000000 ∷ 0x0000001c ∷ [])
    ++ words (0x00000006 ∷ 0x00000024 ∷ 0x00000000 ∷ 0x00000000 ∷ 0x00000005 ∷ 0x00000003 ∷ 0x00000040 ∷ 0x0a0b0c00 ∷ 0x00000024 ∷ [])

abbrev pub three_bytes : Record
three_bytes = record { stamp = 5; captured = 10 ∷ 11 ∷ 12 ∷ []; original = 64 }

-- a little-endian packet of these captured bytes with their padding, at 0
abbrev pub short_packet : (total captured word : ℕ) → List ℕ
short_packet total captured word = words (0x06000000 ∷ total ∷ 0x00000000 ∷ 0x00000000 ∷ 0x00000000 ∷ captured ∷ 0x40000000 ∷ word ∷ total ∷ [])

-- a block of a type that is passed over, of 12 bytes
abbrev pub other_block : List ℕ
other_block = words (0x0a000000 ∷ 0x0c000000 ∷ 0x0c000000 ∷ [])
