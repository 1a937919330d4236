-- The precedence of a packet by its code point: the upper six bits of the type of service or traffic class (RFC 2474). In
-- each of the four classes of assured forwarding (RFC 2597), 8i + 2, 8i + 4 and 8i + 6 are the points of low, medium and
-- high drop precedence.
use Rattle.std.specs.Prelude.{ℕ, Bool, ◌+◌, ◌*◌, ◌/◌, ◌^◌, ◌==◌, if◌then◌else◌, [], ◌∷◌}
use Rattle.std.specs.List.{list_any}
use Rattle.packet_heads.specs.Flow.{Flow, V4, V6, Other}

abbrev pub code_point : (tos : ℕ) → ℕ
code_point tos = tos / 2 ^ 2

-- the point is that of a class of assured forwarding at this place in the class
abbrev pub is_assured_at : (place point : ℕ) → Bool
is_assured_at place point = list_any (λ i. point == 8 * i + place) (1 ∷ 2 ∷ 3 ∷ 4 ∷ [])

-- every other point has precedence 0 too
abbrev pub precedence_of : (point : ℕ) → ℕ
precedence_of point = if is_assured_at 4 point then 1 else if is_assured_at 6 point then 2 else 0

-- so has a frame whose flow is Other
abbrev pub precedence : Flow → ℕ
precedence (V4 heads) = precedence_of (code_point heads.tos)
precedence (V6 heads) = precedence_of (code_point heads.tos)
precedence Other = 0
