-- Worked journals.
use Rattle.std.specs.Prelude.{ℕ, List, [], ◌∷◌, replicate}
use Rattle.altq_model.specs.declared.Fate.TheVariants.{Dropped, Sent}
use Rattle.altq_model.specs.declared.Reason.TheVariants.{Full}
use Rattle.altq_model.specs.declared.Rule.TheVariants.{Share}
use Rattle.altq_model.specs.History.{Arrival, Decision}

abbrev pub packet : (class at len : ℕ) → Arrival
packet class at len = record { class = class; len = len; prec = 0; at = at }

abbrev pub sent : (n start end : ℕ) → Decision
sent n start end = (n, Sent start end Share)

abbrev pub dropped : (n : ℕ) → Decision
dropped n = (n, Dropped Full)

-- three packets of 100 bytes at 0: on a link of 3 Mbit/s each takes 266666 and two thirds of a nanosecond
abbrev pub three_packets : List Arrival
three_packets = replicate 3 (packet 1 0 100)

abbrev pub fraction : List Decision
fraction = sent 1 0 266667 ∷ sent 2 266667 533334 ∷ sent 3 533334 800000 ∷ []

-- ends that are rounded one by one
abbrev pub rounded : List Decision
rounded = sent 1 0 266667 ∷ sent 2 266667 533334 ∷ sent 3 533334 800001 ∷ []

abbrev pub exchanged : List Decision
exchanged = sent 2 0 266667 ∷ sent 1 266667 533334 ∷ sent 3 533334 800000 ∷ []

-- each a nanosecond later
abbrev pub later : List Decision
later = sent 1 1 266668 ∷ sent 2 266668 533335 ∷ sent 3 533335 800001 ∷ []

-- two packets of 1000 bytes, one at 0 and one at 10
abbrev pub two_packets : List Arrival
two_packets = packet 1 0 1000 ∷ packet 2 10 1000 ∷ []
