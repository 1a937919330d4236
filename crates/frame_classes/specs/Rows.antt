-- What the worked examples keep of an interface, and their frames: to UDP port 5004 in class 1, which marks; all else in class 2, which
-- clears code points; class 0 is the root.
use Rattle.std.specs.Prelude.{ℕ, ◌+◌, List, [], ◌∷◌, true, false}
use Rattle.flow_filter.specs.Rows.{to_5004}
use Rattle.packet_heads.specs.Rows.{ethernet}
use Rattle.frame_classes.specs.Frames.{Classes}

abbrev pub three_classes : Classes
three_classes = record {
  rules = record { filters = to_5004 1 0 ∷ []; otherwise = 2 };
  handlings = record { marks = false; clears = false } ∷ record { marks = true; clears = false } ∷ record { marks = false; clears = true } ∷ [];
}

-- a UDP datagram over IPv4 with this type of service to a port
abbrev pub datagram_to : (tos port : ℕ) → List ℕ
datagram_to tos port =
    ethernet (0x0800 ∷ (0x4500 + tos) ∷ 0x00f8 ∷ 0x0000 ∷ 0x0000 ∷ 0x4011 ∷ 0x0000 ∷ 0x0a00 ∷ 0x0001 ∷ 0x0a00 ∷ 0x0002 ∷ 0x0403 ∷ port ∷ 0x00e4 ∷ 0x0000 ∷ [])
