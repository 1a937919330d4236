-- The code points of assured forwarding (RFC 2597, section 6): AFxy, of class x and drop precedence y, is 8x + 2y. A code point is
-- the upper six bits of the type of service or traffic class (RFC 2474), whose two lower ones are those of ECN (RFC 3168).
use Rattle.std.specs.Prelude.{ℕ, ◌+◌, ◌*◌, ◌%◌}
use Rattle.traffic_meter.specs.declared.rule.Colour.{Colour}
use Rattle.traffic_meter.specs.declared.rule.Colour.TheVariants.{Green, Yellow, Red}

abbrev pub drop_precedence : Colour → ℕ
drop_precedence Green = 1
drop_precedence Yellow = 2
drop_precedence Red = 3

abbrev pub code_point : (af : ℕ) → Colour → ℕ
code_point af colour = 8 * af + 2 * drop_precedence colour

-- a type of service with that code point
abbrev pub marked_tos : (af : ℕ) → Colour → (tos : ℕ) → ℕ
marked_tos af colour tos = 4 * code_point af colour + tos % 4
