-- The link sends one packet at a time, and carries the fraction of a nanosecond within a run: a longest sequence of
-- sendings in which each starts at the end of the one before it.
use Rattle.std.specs.Prelude.{◌≡◌, ◌≤◌, ◌==◌, ◌+◌, ℕ, List, [], ◌∷◌, if◌then◌else◌}
use Rattle.play_base.specs.Units.{units, ceil_div}
use Rattle.altq_model.specs.History.{Event, Offered, Sent}

-- the state of the link: the last end, 0 at first, and of the run that it belongs to the start and the units so far
pub record Link : Type 0 where
  pub free : ℕ
  pub run : ℕ
  pub sent : ℕ

abbrev pub idle_link : Link
idle_link = record { free = 0; run = 0; sent = 0 }

-- the link after `more` units in a run that began at `run` and had `sent` units before: in a run that began at r each end
-- is r + ceil(U / rate), U being the units of the run's packets up to it
abbrev pub run_on : (rate run sent more : ℕ) → Link
run_on rate run sent more = record { free = run + ceil_div (sent + more) rate; run = run; sent = sent + more }

-- the link after a packet of this length that starts at `start`: a start at the last end goes on with the run, and a later
-- one begins another
abbrev pub after_sending : (rate : ℕ) → Link → (start len : ℕ) → Link
after_sending rate l start len =
    if start == l.free then run_on rate l.run l.sent (units len) else run_on rate start 0 (units len)

-- the end of a packet of this length that starts at `start`
abbrev pub end_of : (rate : ℕ) → Link → (start len : ℕ) → ℕ
end_of rate l start len = (after_sending rate l start len).free

-- the link after a history
abbrev pub link : (rate : ℕ) → List Event → Link
link rate [] = idle_link
link rate (Offered a w v ∷ h) = link rate h
link rate (Sent s ∷ h) = after_sending rate (link rate h) s.start s.len

-- no sending starts before the end of the one before it, and each end is that of its run
abbrev pub HasLinkEnds : (rate : ℕ) → List Event → Type 0
HasLinkEnds rate [] = Unit {0}
HasLinkEnds rate (Offered a w v ∷ h) = HasLinkEnds rate h
HasLinkEnds rate (Sent s ∷ h) =
    ((link rate h).free ≤ s.start) × (s.end ≡ end_of rate (link rate h) s.start s.len) × HasLinkEnds rate h
