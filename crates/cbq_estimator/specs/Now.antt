-- What an estimator answers by what it keeps: the average and the last end. After every history that it stands for, the answers are
-- those of the history.
use Rattle.std.specs.Prelude.{ℕ, ◌≤◌, ◌<◌, ◌+◌, ◌-◌, IsTrue, IsFalse, nat_le, if◌then◌else◌, ℤ, pos, ◌+ℤ◌, ◌-ℤ◌, int_lt, int_le, Bool, ◌||◌, List, Option, Some, None, unwrap_or}
use Rattle.std.specs.Int.{int_min}
use Rattle.play_base.specs.Units.{time_of}
use Rattle.altq_model.specs.Link.{Link, end_of}
use Rattle.cbq_estimator.specs.Average.{Pace, Ended, average, decayed, latest}
use Rattle.cbq_estimator.specs.Estimate.{Estimate}
use Rattle.cbq_estimator.specs.Starts.{enough}

-- what is kept of a history
abbrev pub estimate_of : Pace → List Ended → Estimate
estimate_of p h = record { pace = p; average = average p h; last = latest h }

-- the idle time of a packet that ends at `end`
abbrev pub idle_now : Estimate → (end len : ℕ) → ℤ
idle_now e end len = (pos end -ℤ pos (unwrap_or e.last 0)) -ℤ pos (time_of len e.pace.rate)

-- the first packet leaves the average as it is
abbrev pub average_after : (last : Option ℕ) → Estimate → Ended → ℤ
average_after None e x = e.average
average_after (Some last) e x = int_min (pos e.pace.cap) (decayed e.average +ℤ ((pos x.end -ℤ pos last) -ℤ pos (time_of x.len e.pace.rate)))

-- what is kept after one packet more
abbrev pub after_end : Estimate → Ended → Estimate
after_end e x = record { pace = e.pace; average = average_after e.last e x; last = Some x.end }

-- the class allows a packet of a length that would end at `end`
abbrev pub allows_now : Estimate → (end len : ℕ) → Bool
allows_now e end len = int_lt (pos 0) e.average || int_le (pos (enough e.average)) (idle_now e end len)

-- the end from which on the idle time is enough
abbrev pub wanted_now : Estimate → (len : ℕ) → ℕ
wanted_now e len = unwrap_or e.last 0 + time_of len e.pace.rate + enough e.average

-- The least moment from `now` on at which a packet is allowed to start: `now`, where it then ends late enough. Else it starts later
-- and begins a run of the link, in which a start 1 ns later gives an end 1 ns later: so the moment is `now` + 1 and as many
-- nanoseconds more as the end of a start at `now` + 1 is too early.
abbrev pub start_now : Estimate → (rate : ℕ) → Link → (now len : ℕ) → ℕ
start_now e rate l now len =
    if int_lt (pos 0) e.average then now
    else if nat_le (wanted_now e len) (end_of rate l now len) then now
    else now + 1 + (wanted_now e len - end_of rate l (now + 1) len)

-- a packet of a length is allowed to start at `start`, and at no earlier moment from `now` on
pub record IsLeastStartNow (e : Estimate) (rate : ℕ) (l : Link) (now len start : ℕ) : Type 0 where
  pub from : now ≤ start
  pub allowed : IsTrue (allows_now e (end_of rate l start len) len)
  pub least : (u : ℕ) → now ≤ u → u < start → IsFalse (allows_now e (end_of rate l u len) len)
