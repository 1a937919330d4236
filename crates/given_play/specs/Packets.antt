-- The packets of a capture as they arrive.
use Rattle.std.specs.Prelude.{ℕ, max, List, [], ◌∷◌}
use Rattle.altq_model.specs.declared.Placed.{Placed}
use Rattle.altq_model.specs.History.{Arrival}
use Rattle.input_files.specs.Records.{Shown}

-- a packet that arrives at a moment, in its class by its captured bytes
abbrev pub bare_arrival_at : (List ℕ → Placed) → (at : ℕ) → Shown → Arrival
bare_arrival_at place at s = record { class = (place s.bytes).class; len = s.len; prec = (place s.bytes).prec; at = at }

-- packets, none of which arrives before those that were shown before it
abbrev pub bare_arrivals_shown : (List ℕ → Placed) → (latest : ℕ) → List Shown → List Arrival
bare_arrivals_shown place latest [] = []
bare_arrivals_shown place latest (s ∷ ss) = bare_arrival_at place (max latest s.stamp) s ∷ bare_arrivals_shown place (max latest s.stamp) ss
