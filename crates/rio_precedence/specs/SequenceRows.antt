-- Sequences of the worked examples: packets that come at one moment, and are kept.
use Rattle.std.specs.Prelude.{ℕ, List, [], ◌∷◌}
use Rattle.altq_model.specs.declared.Verdict.TheVariants.{Keep}
use Rattle.leaf_queue.specs.Queue.{QueueEvent, Enqueued, Dequeued}
use Rattle.rio_precedence.specs.Exactly.{Exact}

-- a packet of a precedence that comes while `waiting` packets wait, all of the best precedence
abbrev pub met : (waiting prec : ℕ) → QueueEvent
met waiting prec = Enqueued 0 (record { best = waiting; middle = waiting; all = waiting }) prec (record { seed = 42; drawn = 0 })
    (record { verdict = Keep; took = 0 })

abbrev pub five_and_six : List QueueEvent
five_and_six = met 6 0 ∷ met 5 0 ∷ []

abbrev pub in_turn : List QueueEvent
in_turn = met 3 1 ∷ Dequeued 0 0 (record { best = 3; middle = 3; all = 3 }) ∷ met 3 0 ∷ met 2 1 ∷ []

abbrev pub at_ten_packets : Exact
at_ten_packets = record { top = 20971520; steps = 0 }
