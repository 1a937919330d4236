-- A history of the worked examples: packets of precedence 0, 1 and 2 that come to an empty queue at one moment, and are kept.
use Rattle.std.specs.Prelude.{ℕ, List, [], ◌∷◌}
use Rattle.altq_model.specs.declared.Verdict.TheVariants.{Keep}
use Rattle.leaf_queue.specs.Queue.{QueueEvent, Enqueued}

abbrev pub kept_at_once : (best middle all prec : ℕ) → QueueEvent
kept_at_once best middle all prec = Enqueued 0 (record { best = best; middle = middle; all = all }) prec (record { seed = 42; drawn = 0 })
    (record { verdict = Keep; took = 0 })

abbrev pub three_arrivals : List QueueEvent
three_arrivals = kept_at_once 1 2 2 2 ∷ kept_at_once 1 1 1 1 ∷ kept_at_once 0 0 0 0 ∷ []
