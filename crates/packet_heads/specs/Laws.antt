-- What holds of every frame that is retagged, or departs.
use Rattle.std.specs.Prelude.{ℕ, ◌<◌, Bool, List, All}
use Rattle.packet_heads.specs.Flow.{flow}
use Rattle.packet_heads.specs.Retagged.{DiffersInTos, retagged}
use Rattle.packet_heads.specs.Departing.{departing, departing_tos, tos_of}

-- a retagged frame differs from the one before in its type of service or traffic class alone
abbrev pub TosAloneChanges : Type 0
TosAloneChanges =
    (frame : List ℕ) (tos : ℕ) → All (λ byte. byte < 256) frame → tos < 256 → DiffersInTos frame (retagged frame tos) tos

-- so does a departing frame from the one that came
abbrev pub DepartsAsItCame : Type 0
DepartsAsItCame =
    (clear marked : Bool) (frame : List ℕ) → All (λ byte. byte < 256) frame
    → DiffersInTos frame (departing clear marked frame) (departing_tos clear marked (tos_of (flow frame)))
