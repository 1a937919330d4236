-- The link sends one packet at a time. A run is a longest sequence of sendings in which each starts at the end of the one
-- before; the fraction of a nanosecond is carried within it.
use Rattle.std.specs.Prelude.{◌≤◌, ◌==◌, ◌+◌, ℕ, [], ◌∷◌, if◌then◌else◌}
use Rattle.play_base.specs.Units.{units, ceil_div}
use Rattle.hfsc_model.specs.Event.{HfscHistory, Enqueued, Sent}

-- the run of the last sending: its start, and its units so far
pub record Run : Type 0 where
  pub start : ℕ
  pub sent : ℕ

-- the end of its last sending
abbrev pub free : ℕ → Run → ℕ
free rate r = r.start + ceil_div r.sent rate

-- the run that a sending goes on with, if it starts at its end, or else begins
abbrev pub started : ℕ → Run → ℕ → Run
started rate r start = if start == free rate r then r else record { start = start; sent = 0 }

abbrev pub with_units : Run → ℕ → Run
with_units r amount = record { start = r.start; sent = r.sent + amount }

abbrev pub run_after : ℕ → HfscHistory → Run
run_after rate [] = record { start = 0; sent = 0 }
run_after rate (Enqueued c at len ∷ h) = run_after rate h
run_after rate (Sent c len real start ∷ h) = with_units (started rate (run_after rate h) start) (units len)

-- no sending starts before the one before it ended
abbrev pub AreOneByOne : ℕ → HfscHistory → Type 0
AreOneByOne rate [] = Unit {0}
AreOneByOne rate (Enqueued c at len ∷ h) = AreOneByOne rate h
AreOneByOne rate (Sent c len real start ∷ h) = (free rate (run_after rate h) ≤ start) × AreOneByOne rate h
