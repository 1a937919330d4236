-- Worked examples of two links in a row, each with one queue of 50 packets.
use Rattle.std.specs.Prelude.{ℕ, List}
use Rattle.altq_model.specs.declared.Fate.{Fate}
use Rattle.altq_model.specs.declared.Fate.TheVariants.{Sent}
use Rattle.altq_model.specs.declared.Rule.TheVariants.{Share}
use Rattle.altq_model.specs.Arrivals.{arrivals_of}
use Rattle.altq_model.specs.Departures.{departed}
use Rattle.altq_model.specs.History.{Decision}
use Rattle.altq_model.specs.Policies.{one_queue}
use Rattle.altq_model.specs.Rows.{congested, journal_of, one_mark, play_of}
use Rattle.capture_model.specs.Capture.{Record}
use Rattle.play_loop.specs.declared.kept.KeptFate.{KeptFate}
use Rattle.play_loop.specs.KeptFates.{kept_fates}

-- the fates of these records on the first link
abbrev pub first_link : (rate : ℕ) → List Record → List KeptFate
first_link rate records = kept_fates (arrivals_of one_mark records) (journal_of rate records)

-- and those of what it sends on the second
abbrev pub second_link : (rate next : ℕ) → List Record → List Decision
second_link rate next records = journal_of next (departed congested (arrivals_of one_mark records) (play_of (one_queue 50) rate records))

abbrev pub sent : (start end : ℕ) → Fate
sent start end = Sent start end Share

abbrev pub kept : (number arrival : ℕ) → Fate → KeptFate
kept number arrival fate = record { number = number; arrival = arrival; fate = fate }
