-- Frames of the worked examples, in words of two bytes as they stand.
use Rattle.std.specs.Prelude.{ℕ, ◌/◌, ◌%◌, List, [], ◌∷◌, ◌++◌, Option, Some}
use Rattle.std.specs.List.{flat_map}
use Rattle.packet_heads.specs.Flow.{Flow, V4, V6}

abbrev pub words : List ℕ → List ℕ
words = flat_map (λ word. (word / 256) ∷ (word % 256) ∷ [])

-- the two addresses of Ethernet, then the tags, the type and the packet
abbrev pub ethernet : List ℕ → List ℕ
ethernet rest = words (0x0200 ∷ 0x0000 ∷ 0x0002 ∷ 0x0200 ∷ 0x0000 ∷ 0x0001 ∷ []) ++ words rest

-- a UDP datagram over IPv4, with these two words of its header
abbrev pub datagram : (first_word checksum : ℕ) → List ℕ
datagram first_word checksum =
    0x0800 ∷ first_word ∷ 0x00f8 ∷ 0x0000 ∷ 0x0000 ∷ 0x4011 ∷ checksum ∷ 0x0a00 ∷ 0x0001 ∷ 0x0a00 ∷ 0x0002 ∷ 0x0403 ∷ 0x1389 ∷ 0x00e4 ∷ 0x0000 ∷ []

-- its flow
abbrev pub datagram_flow : (tos : ℕ) → Option (ℕ × ℕ) → Flow
datagram_flow tos ports = V4 (record { tos = tos; protocol = 17; source = 10 ∷ 0 ∷ 0 ∷ 1 ∷ []; target = 10 ∷ 0 ∷ 0 ∷ 2 ∷ []; ports = ports })

-- one whose header has a sixth word, of options that do nothing (RFC 791)
abbrev pub datagram_with_options : (checksum : ℕ) → List ℕ
datagram_with_options checksum =
    0x0800 ∷ 0x4628 ∷ 0x00fc ∷ 0x0000 ∷ 0x0000 ∷ 0x4011 ∷ checksum ∷ 0x0a00 ∷ 0x0001 ∷ 0x0a00 ∷ 0x0002 ∷ 0x0101 ∷ 0x0101 ∷ 0x0403 ∷ 0x1389 ∷ 0x00e4 ∷
    0x0000 ∷ []

-- the beginning of a segment of TCP over IPv6, with this first word
abbrev pub segment : (first_word : ℕ) → List ℕ
segment first_word =
    0x86dd ∷ first_word ∷ 0xbcde ∷ 0x0008 ∷ 0x0640 ∷ 0x2001 ∷ 0x0db8 ∷ 0 ∷ 0 ∷ 0 ∷ 0 ∷ 0 ∷ 1 ∷ 0x2001 ∷ 0x0db8 ∷ 0 ∷ 0 ∷ 0 ∷ 0 ∷ 0 ∷ 2 ∷ 0x01bb ∷ 0xc000 ∷ []

abbrev pub segment_flow : (tos : ℕ) → Flow
segment_flow tos = V6 (record {
  tos = tos;
  protocol = 6;
  source = words (0x2001 ∷ 0x0db8 ∷ 0 ∷ 0 ∷ 0 ∷ 0 ∷ 0 ∷ 1 ∷ []);
  target = words (0x2001 ∷ 0x0db8 ∷ 0 ∷ 0 ∷ 0 ∷ 0 ∷ 0 ∷ 2 ∷ []);
  ports = Some (443, 49152);
})
