-- The capture that `make` generates: UDP packets over IPv4 (RFC 768, RFC 791) in Ethernet frames, made of the words of a seed. The rule
-- is this project's own.
use Rattle.std.specs.Prelude.{ℕ, zero, suc, ◌+◌, ◌*◌, ◌-◌, ◌/◌, ◌%◌, ◌^◌, ◌==◌, if◌then◌else◌, List, [], ◌∷◌, ◌++◌}
use Rattle.byteorder.specs.Endian.{big_bytes}
use Rattle.capture_model.specs.Capture.{Record}
use Rattle.capture_model.specs.Written.{written}
use Rattle.leaf_queue.specs.Words.{word}

-- the two words of the packet behind `made` others: first a, then b
abbrev pub first_word : (seed made : ℕ) → ℕ
first_word seed made = word seed (2 * made)

abbrev pub second_word : (seed made : ℕ) → ℕ
second_word seed made = word seed (2 * made + 1)

-- the arrival of the last of the first `made` packets, in nanoseconds; 0 before the first
abbrev pub moment : (seed made : ℕ) → ℕ
moment seed zero = 0
moment seed (suc made) = moment seed made + first_word seed made % 200000

-- the length in bytes, 64 to 1500
abbrev pub len_by : (b : ℕ) → ℕ
len_by b = 64 + b % 1437

-- the type of service: of code point AF11, AF12 or AF13 (RFC 2597), or 0
abbrev pub tos_of : ℕ → ℕ
tos_of k = if k == 0 then 0x28 else if k == 1 then 0x30 else if k == 2 then 0x38 else 0

abbrev pub tos_by : (a : ℕ) → ℕ
tos_by a = tos_of (a / 2 ^ 16 % 4)

abbrev pub source_by : (b : ℕ) → ℕ
source_by b = 1024 + b / 2 ^ 16 % 4

abbrev pub target_by : (a : ℕ) → ℕ
target_by a = 5000 + a / 2 ^ 24 % 8

-- the heads of the frame, whose checksums are 0: Ethernet to and from, IPv4 from 10.0.0.1 to 10.0.0.2, UDP
abbrev pub ethernet : List ℕ
ethernet = 2 ∷ 0 ∷ 0 ∷ 0 ∷ 0 ∷ 2 ∷ 2 ∷ 0 ∷ 0 ∷ 0 ∷ 0 ∷ 1 ∷ 8 ∷ 0 ∷ []

abbrev pub ipv4 : (tos len : ℕ) → List ℕ
ipv4 tos len = 0x45 ∷ tos ∷ big_bytes 2 len ++ (0 ∷ 0 ∷ 0 ∷ 0 ∷ 0x40 ∷ 0x11 ∷ 0 ∷ 0 ∷ 10 ∷ 0 ∷ 0 ∷ 1 ∷ 10 ∷ 0 ∷ 0 ∷ 2 ∷ [])

abbrev pub udp : (source target len : ℕ) → List ℕ
udp source target len = big_bytes 2 source ++ (big_bytes 2 target ++ (big_bytes 2 len ++ (0 ∷ 0 ∷ [])))

abbrev pub frame_by : (a b : ℕ) → List ℕ
frame_by a b = ethernet ++ (ipv4 (tos_by a) (len_by b - 14) ++ udp (source_by b) (target_by a) (len_by b - 34))

-- the record of the packet behind `made` others: the heads of its frame are captured
abbrev pub packet : (seed made : ℕ) → Record
packet seed made = record {
  stamp = moment seed (suc made);
  captured = frame_by (first_word seed made) (second_word seed made);
  original = len_by (second_word seed made);
}

-- the packets of a seed, in order
abbrev pub packets : (seed count : ℕ) → List Record
packets seed zero = []
packets seed (suc made) = packets seed made ++ packet seed made ∷ []

-- the capture of them
abbrev pub generated_capture : (seed count : ℕ) → List ℕ
generated_capture seed count = written (packets seed count)

-- the most packets that are generated
abbrev pub most_packets : ℕ
most_packets = 1000000
