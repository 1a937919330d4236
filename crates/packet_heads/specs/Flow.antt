-- The flow that a frame of Ethernet belongs to, from the list of its bytes: what its type is behind the tags (IEEE 802.1Q),
-- then what the header of its packet says (RFC 791, RFC 8200), and the ports of TCP and UDP, which stand first behind that
-- header. Numbers are big-endian. Places are counted from 0.
use Rattle.std.specs.Prelude.{◌≡◌, ℕ, Bool, ◌+◌, ◌*◌, ◌/◌, ◌%◌, ◌^◌, ◌==◌, ◌&&◌, ◌||◌, nat_le, if◌then◌else◌, List, length, drop, slice_index, slice_range, Option, Some, None}

-- what the headers say: the type of service or traffic class, the protocol, the addresses, and the ports, source first
pub record Heads : Type 0 where
  pub tos : ℕ
  pub protocol : ℕ
  pub source : List ℕ
  pub target : List ℕ
  pub ports : Option (ℕ × ℕ)

pub data Flow : Type 0 where
  V4 : Heads → Flow
  V6 : Heads → Flow
  Other : Flow

-- `count` bytes stand from the place `at` on
abbrev pub has_bytes : (count : ℕ) → List ℕ → (at : ℕ) → Bool
has_bytes count bytes at = nat_le (at + count) (length bytes)

-- the number in two bytes
abbrev pub two_at : List ℕ → (at : ℕ) → ℕ
two_at bytes at = slice_index bytes at * 256 + slice_index bytes (at + 1)

-- a tag of four bytes begins there
abbrev pub is_tag_at : List ℕ → (at : ℕ) → Bool
is_tag_at frame at = has_bytes 2 frame at && (two_at frame at == 0x8100 || two_at frame at == 0x88a8)

-- The type stands behind the two addresses of six bytes, and behind at most two tags. Where a third tag follows, that tag
-- stands in the type's place.
abbrev pub type_place : List ℕ → ℕ
type_place frame =
    if is_tag_at frame 12 then (if is_tag_at frame 16 then 20 else 16) else 12

-- the packet's own bytes, behind the type
abbrev pub packet_place : List ℕ → ℕ
packet_place frame = type_place frame + 2

-- the ports, where the protocol is TCP or UDP and both stand at that place of the packet
abbrev pub ports_at : List ℕ → (protocol at : ℕ) → Option (ℕ × ℕ)
ports_at packet protocol at =
    if (protocol == 6 || protocol == 17) && has_bytes 4 packet at then Some (two_at packet at, two_at packet (at + 2)) else None

-- the version of a packet of the internet protocol, the upper four bits of its first byte
abbrev pub version : List ℕ → ℕ
version packet = slice_index packet 0 / 2 ^ 4

-- the length of a header of version 4 in words of four bytes, the lower four bits of its first byte
abbrev pub head_words : List ℕ → ℕ
head_words packet = slice_index packet 0 % 2 ^ 4

-- the place of a fragment's data in the whole, in units of eight bytes, the lower 13 bits of its field; 0 where the packet
-- is no fragment, and in the first one
abbrev pub fragment_offset : List ℕ → ℕ
fragment_offset packet = two_at packet 6 % 2 ^ 13

-- only a packet whose fragment offset is 0 has the header of TCP or UDP
abbrev pub ports_4 : List ℕ → Option (ℕ × ℕ)
ports_4 packet =
    if fragment_offset packet == 0 then ports_at packet (slice_index packet 9) (4 * head_words packet) else None

-- what a header of version 4 says; the packet's own length is not looked at
abbrev pub heads_4 : List ℕ → Heads
heads_4 packet = record {
  tos = slice_index packet 1;
  protocol = slice_index packet 9;
  source = slice_range packet 12 16;
  target = slice_range packet 16 20;
  ports = ports_4 packet;
}

-- a header of version 4 begins the packet: at least twenty bytes, five words
abbrev pub is_head_4 : List ℕ → Bool
is_head_4 packet = has_bytes 20 packet 0 && (version packet == 4) && nat_le 5 (head_words packet)

abbrev pub flow_4 : List ℕ → Flow
flow_4 packet = if is_head_4 packet then V4 (heads_4 packet) else Other

-- the traffic class, eight bits behind the four of the version
abbrev pub traffic_class : List ℕ → ℕ
traffic_class packet = two_at packet 0 / 2 ^ 4 % 2 ^ 8

abbrev pub heads_6 : List ℕ → Heads
heads_6 packet = record {
  tos = traffic_class packet;
  protocol = slice_index packet 6;
  source = slice_range packet 8 24;
  target = slice_range packet 24 40;
  ports = ports_at packet (slice_index packet 6) 40;
}

-- a header of version 6 begins the packet: forty bytes
abbrev pub is_head_6 : List ℕ → Bool
is_head_6 packet = has_bytes 40 packet 0 && (version packet == 6)

abbrev pub flow_6 : List ℕ → Flow
flow_6 packet = if is_head_6 packet then V6 (heads_6 packet) else Other

-- the flow of a packet that a frame of this type holds
abbrev pub flow_by_type : (type : ℕ) → (packet : List ℕ) → Flow
flow_by_type type packet = if type == 0x0800 then flow_4 packet else if type == 0x86dd then flow_6 packet else Other

-- the flow of a frame, which is Other where the frame is too short for its type
abbrev pub flow : List ℕ → Flow
flow frame =
    if has_bytes 2 frame (type_place frame)
    then flow_by_type (two_at frame (type_place frame)) (drop (packet_place frame) frame)
    else Other

-- an address of `count` bytes stands in a frame at a place
pub record StandsAt (frame : List ℕ) (at count : ℕ) (address : List ℕ) : Type 0 where
  pub whole : length address ≡ count
  pub part : address ≡ slice_range frame at (at + count)

-- both addresses of a flow are parts of the frame, in the header of the packet that begins at a place
abbrev pub HasAddresses : (frame : List ℕ) → (place : ℕ) → Flow → Type 0
HasAddresses frame place (V4 heads) =
    StandsAt frame (place + 12) 4 heads.source × StandsAt frame (place + 16) 4 heads.target
HasAddresses frame place (V6 heads) =
    StandsAt frame (place + 8) 16 heads.source × StandsAt frame (place + 24) 16 heads.target
HasAddresses frame place Other = Unit {0}
