-- The ends of the sendings by their starts, lengths and ends alone: a sending belongs to the run of the one before it if it starts
-- at that one's end, else it begins a run; in a run that began at r each end is r and the time that the run's bytes up to it take,
-- rounded up once.
use Rattle.std.specs.Prelude.{◌≡◌, ◌≤◌, ◌==◌, ◌+◌, ℕ, List, [], ◌∷◌, if◌then◌else◌}
use Rattle.altq_model.specs.History.{Event, Offered, Sent, Sending}
use Rattle.play_base.specs.Units.{time_of}

-- the sendings of a history, the newest first
abbrev pub sendings : List Event → List Sending
sendings [] = []
sendings (Offered a w v ∷ h) = sendings h
sendings (Sent s ∷ h) = s ∷ sendings h

-- the end of the newest, 0 where there is none
abbrev pub last_end : List Sending → ℕ
last_end [] = 0
last_end (s ∷ before) = s.end

-- when the run of a sending began, and its bytes up to this one
abbrev pub run_start : Sending → List Sending → ℕ
run_start s [] = s.start
run_start s (b ∷ before) = if s.start == b.end then run_start b before else s.start

abbrev pub run_bytes : Sending → List Sending → ℕ
run_bytes s [] = s.len
run_bytes s (b ∷ before) = if s.start == b.end then run_bytes b before + s.len else s.len

abbrev pub AreRunEnds : (rate : ℕ) → List Sending → Type 0
AreRunEnds rate [] = Unit {0}
AreRunEnds rate (s ∷ before) =
    (last_end before ≤ s.start) × (s.end ≡ run_start s before + time_of (run_bytes s before) rate) × AreRunEnds rate before
