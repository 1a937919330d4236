-- How the worked rows are written: meters, frames with right checksums, and captures of them.
use Rattle.std.specs.Prelude.{ℕ, ◌+◌, ◌*◌, ◌==◌, if◌then◌else◌, List, [], ◌∷◌}
use Rattle.capture_model.specs.Capture.{Record}
use Rattle.capture_model.specs.Written.{written}
use Rattle.altq_model.specs.declared.Placed.{Placed}
use Rattle.packet_heads.specs.Flow.{flow, two_at}
use Rattle.packet_heads.specs.Departing.{tos_of}
use Rattle.packet_heads.specs.Rows.{datagram, ethernet, segment}
use Rattle.traffic_meter.specs.declared.rule.MeterRule.TheVariants.{Single, Two}
use Rattle.traffic_marks.specs.Marked.{Conditioner, marked}

-- a class, and a meter of 8 Mbit/s with a committed and an excess burst
abbrev pub srtcm : (class cbs ebs af : ℕ) → Conditioner
srtcm class cbs ebs af = record { class = class; rule = Single 8000000 cbs ebs af }

-- one of two rates, with a peak of 16 Mbit/s
abbrev pub trtcm : (class pbs cbs af : ℕ) → Conditioner
trtcm class pbs cbs af = record { class = class; rule = Two 16000000 pbs 8000000 cbs af }

-- all frames are of class 1
abbrev pub by_nothing : List ℕ → Placed
by_nothing frame = record { class = 1; prec = 0 }

-- frames of IPv6 are of class 2, others of class 1
abbrev pub by_version : List ℕ → Placed
by_version frame = record { class = if two_at frame 12 == 0x86dd then 2 else 1; prec = 0 }

-- frames without a mark are of class 1, others of class 2
abbrev pub by_mark : List ℕ → Placed
by_mark frame = record { class = if tos_of (flow frame) == 0 then 1 else 2; prec = 0 }

-- a frame of IPv4, by its type of service and its checksum
abbrev pub v4 : (tos checksum : ℕ) → List ℕ
v4 tos checksum = ethernet (datagram (0x4500 + tos) checksum)

-- one behind a tag
abbrev pub tagged : (tos checksum : ℕ) → List ℕ
tagged tos checksum = ethernet (0x8100 ∷ 0x0007 ∷ datagram (0x4500 + tos) checksum)

-- one of IPv6, by its traffic class
abbrev pub v6 : (class : ℕ) → List ℕ
v6 class = ethernet (segment (0x600a + 16 * class))

-- a request of ARP (RFC 826)
abbrev pub arp : List ℕ
arp = ethernet (0x0806 ∷ 0x0001 ∷ 0x0800 ∷ 0x0604 ∷ 0x0001 ∷ 0x0200 ∷ 0x0000 ∷ 0x0001 ∷ 0x0a00 ∷ 0x0001 ∷ 0 ∷ 0 ∷ 0 ∷ 0x0a00 ∷ 0x0002 ∷ [])

-- a record of a packet, of which the frame was captured
abbrev pub packet : (stamp original : ℕ) → (frame : List ℕ) → Record
packet stamp original frame = record { stamp = stamp; captured = frame; original = original }

-- what becomes of a capture of these records
abbrev pub made : (place : List ℕ → Placed) → List Conditioner → List Record → List ℕ
made place conditioners records = marked (record { place = place; conditioners = conditioners }) (written records)
