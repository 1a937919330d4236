-- A frame with another type of service or traffic class: what a router that marks a packet, or clears its code point,
-- leaves of its bytes (RFC 2474, RFC 3168). The checksum of IPv4 follows by RFC 1624.
use Rattle.std.specs.Prelude.{◌≡◌, ℕ, ◌+◌, ◌-◌, ◌*◌, ◌/◌, ◌%◌, ◌==◌, nat_le, not, IsTrue, if◌then◌else◌, List, [], ◌∷◌, length, slice_index, slice_set}
use Rattle.std.specs.List.{list_any}
use Rattle.packet_heads.specs.Flow.{Flow, V4, V6, Other, flow, packet_place, two_at}

-- the sum of two words in ones' complement: what passes 16 bits is added at the other end (RFC 1071)
abbrev pub ones_sum : (a b : ℕ) → ℕ
ones_sum a b = if nat_le (a + b) 0xffff then a + b else a + b - 0xffff

-- the ones' complement of a word of 16 bits
abbrev pub turned : (word : ℕ) → ℕ
turned word = 0xffff - word

-- a checksum where one word of what it covers becomes another (RFC 1624, equation 3)
abbrev pub checksum_after : (checksum word changed : ℕ) → ℕ
checksum_after checksum word changed = turned (ones_sum (ones_sum (turned checksum) (turned word)) changed)

-- a list of bytes with another number in two of them
abbrev pub with_two : List ℕ → (at word : ℕ) → List ℕ
with_two bytes at word = slice_set (slice_set bytes at (word / 256)) (at + 1) (word % 256)

-- the first word of a header of version 4 holds the type of service in its second byte
abbrev pub first_word_4 : (word tos : ℕ) → ℕ
first_word_4 word tos = word / 256 * 256 + tos

-- that of version 6 holds the traffic class behind the four bits of the version, before four bits of the flow label
abbrev pub first_word_6 : (word tos : ℕ) → ℕ
first_word_6 word tos = word / 4096 * 4096 + tos * 16 + word % 16

-- the packet of version 4 that begins at a place: the first word and the checksum change
abbrev pub retagged_4 : List ℕ → (place tos : ℕ) → List ℕ
retagged_4 frame place tos =
    let word = two_at frame place in
    let changed = first_word_4 word tos in
    with_two (with_two frame place changed) (place + 10) (checksum_after (two_at frame (place + 10)) word changed)

-- the packet of version 6 that begins at a place, which has no checksum
abbrev pub retagged_6 : List ℕ → (place tos : ℕ) → List ℕ
retagged_6 frame place tos = with_two frame place (first_word_6 (two_at frame place) tos)

-- a frame that has that type of service already, or none, stays as it is
abbrev pub retagged_as : Flow → List ℕ → (tos : ℕ) → List ℕ
retagged_as (V4 heads) frame tos = if heads.tos == tos then frame else retagged_4 frame (packet_place frame) tos
retagged_as (V6 heads) frame tos = if heads.tos == tos then frame else retagged_6 frame (packet_place frame) tos
retagged_as Other frame tos = frame

abbrev pub retagged : List ℕ → (tos : ℕ) → List ℕ
retagged frame tos = retagged_as (flow frame) frame tos

-- the same flow with another type of service or traffic class
abbrev pub with_tos : Flow → (tos : ℕ) → Flow
with_tos (V4 heads) tos = V4 (record heads { tos = tos })
with_tos (V6 heads) tos = V6 (record heads { tos = tos })
with_tos Other tos = Other

-- where the bytes stand that may change: the type of service and the checksum, or the traffic class
abbrev pub tos_places : Flow → (place : ℕ) → List ℕ
tos_places (V4 heads) place = (place + 1) ∷ (place + 10) ∷ (place + 11) ∷ []
tos_places (V6 heads) place = place ∷ (place + 1) ∷ []
tos_places Other place = []

-- What stays within them: the sum of the first word and the checksum of version 4, modulo 65,535, so that the sum over the
-- header shows the same as before (RFC 1071); the four bits of the flow label that share a byte with the traffic class.
abbrev pub KeepsTheRest : Flow → (place : ℕ) → (frame changed : List ℕ) → Type 0
KeepsTheRest (V4 heads) place frame changed =
    (two_at changed place + two_at changed (place + 10)) % 0xffff ≡ (two_at frame place + two_at frame (place + 10)) % 0xffff
KeepsTheRest (V6 heads) place frame changed = two_at changed place % 16 ≡ two_at frame place % 16
KeepsTheRest Other place frame changed = changed ≡ frame

-- a frame that differs from another one in its type of service or traffic class alone
pub record DiffersInTos (frame changed : List ℕ) (tos : ℕ) : Type 0 where
  pub same_flow : flow changed ≡ with_tos (flow frame) tos
  pub same_length : length changed ≡ length frame
  pub others : (k : ℕ) → IsTrue (not (list_any (λ place. place == k) (tos_places (flow frame) (packet_place frame))))
      → slice_index changed k ≡ slice_index frame k
  pub rest : KeepsTheRest (flow frame) (packet_place frame) frame changed
