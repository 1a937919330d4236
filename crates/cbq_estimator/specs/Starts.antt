-- When a class of CBQ may send: while its average is above 0, and else where the idle time makes up for the average.
use Rattle.std.specs.Prelude.{ℕ, ◌≡◌, ◌<◌, ◌≤◌, ◌+◌, ◌-◌, ◌*◌, max, nat_le, if◌then◌else◌, ℤ, pos, int_lt, int_le, unsigned_abs, Bool, ◌||◌, IsTrue, IsFalse, List}
use Rattle.play_base.specs.Units.{ceil_div, time_of}
use Rattle.altq_model.specs.Link.{Link, end_of}
use Rattle.cbq_estimator.specs.Average.{Pace, Ended, average, idle, last_end}

-- the idle time that is enough at an average of 0 or less: what then brings it to 0 or above
abbrev pub enough : (a : ℤ) → ℕ
enough a = ceil_div (31 * unsigned_abs a) 32

-- the class allows a packet of a length that would end at `end`
abbrev pub allows : Pace → List Ended → (end len : ℕ) → Bool
allows p h end len = int_lt (pos 0) (average p h) || int_le (pos (enough (average p h))) (idle p h end len)

-- the same for a packet that starts at `start`, on a link of a rate in bits per second
abbrev pub allows_start : Pace → List Ended → (rate : ℕ) → Link → (start len : ℕ) → Bool
allows_start p h rate l start len = allows p h (end_of rate l start len) len

-- the end from which on the idle time is enough
abbrev pub wanted : Pace → List Ended → (len : ℕ) → ℕ
wanted p h len = last_end h + time_of len p.rate + enough (average p h)

-- a packet of a length is allowed to start at `start`, and at no earlier moment from `now` on
pub record IsLeastStart (p : Pace) (h : List Ended) (rate : ℕ) (l : Link) (now len start : ℕ) : Type 0 where
  pub from : now ≤ start
  pub allowed : IsTrue (allows_start p h rate l start len)
  pub least : (u : ℕ) → now ≤ u → u < start → IsFalse (allows_start p h rate l u len)

-- the link's last end is that of its run, as after every history
abbrev pub EndsItsRun : (rate : ℕ) → Link → Type 0
EndsItsRun rate l = l.free ≡ l.run + ceil_div l.sent rate

-- that moment: a packet that starts at the link's last end may end 1 ns sooner than by its own time, and then the next moment
-- is the least
abbrev pub least_start : Pace → List Ended → (rate : ℕ) → Link → (now len : ℕ) → ℕ
least_start p h rate l now len =
    let t = max now (wanted p h len - time_of len rate) in
    if int_lt (pos 0) (average p h) then now else if nat_le (wanted p h len) (end_of rate l t len) then t else t + 1
