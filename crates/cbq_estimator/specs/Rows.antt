-- Histories of the worked examples: packets of 1,500 bytes of a class of 1 Mbit/s with a burst of one of them.
use Rattle.std.specs.Prelude.{ℕ, List, [], ◌∷◌, ◌*◌}
use Rattle.altq_model.specs.Link.{Link}
use Rattle.play_base.specs.Units.{units}
use Rattle.cbq_estimator.specs.Average.{Pace, Ended, cap_of}

abbrev pub megabit : Pace
megabit = record { rate = 1000000; cap = cap_of 1000000 1 1500 }

-- these ends, the newest first
abbrev pub ends : List ℕ → List Ended
ends [] = []
ends (e ∷ es) = record { end = e; len = 1500 } ∷ ends es

-- a link of 8 Mbit/s after three of them that were sent from 0 on without a pause
abbrev pub after_three : Link
after_three = record { free = 4500000; run = 0; sent = units (3 * 1500) }
