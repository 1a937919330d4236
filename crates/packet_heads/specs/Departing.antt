-- The bytes with which a packet leaves.
use Rattle.std.specs.Prelude.{ℕ, Bool, ◌+◌, ◌*◌, ◌/◌, ◌%◌, if◌then◌else◌, List}
use Rattle.packet_heads.specs.Flow.{Flow, V4, V6, Other, flow}
use Rattle.packet_heads.specs.Retagged.{retagged}

-- the type of service or traffic class of a flow; 0 where it is Other, which has none
abbrev pub tos_of : Flow → ℕ
tos_of (V4 heads) = heads.tos
tos_of (V6 heads) = heads.tos
tos_of Other = 0

-- the code point cleared: the two bits of explicit congestion notification stay (RFC 2474, RFC 3168)
abbrev pub without_point : (tos : ℕ) → ℕ
without_point tos = tos % 4

-- those two bits both set, which says that congestion was met; the code point stays
abbrev pub with_congestion : (tos : ℕ) → ℕ
with_congestion tos = tos / 4 * 4 + 3

-- the code point is cleared in a class that clears it, and then congestion is told of a packet that was marked
abbrev pub departing_tos : (clear marked : Bool) → (tos : ℕ) → ℕ
departing_tos clear marked tos =
    let cleared = if clear then without_point tos else tos in
    if marked then with_congestion cleared else cleared

-- a frame whose flow is Other leaves as it came
abbrev pub departing : (clear marked : Bool) → List ℕ → List ℕ
departing clear marked frame = retagged frame (departing_tos clear marked (tos_of (flow frame)))
