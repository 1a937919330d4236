-- What a class that keeps to its own average may send: no more than its rate carries in the time, a burst ahead.
use Rattle.std.specs.Prelude.{ℕ, ◌≤◌, ◌+◌, ◌-◌, ◌*◌, ◌++◌, pos, ◌+ℤ◌, ◌-ℤ◌, ◌*ℤ◌, ◌≤ℤ◌, IsTrue, List, [], ◌∷◌}
use Rattle.play_base.specs.Units.{units, time_of}
use Rattle.cbq_estimator.specs.Average.{Pace, Ended, average, idle, EndsAreInOrder}
use Rattle.cbq_estimator.specs.Starts.{allows}

-- each of the newer packets was allowed after those before it
abbrev pub AreAllowed : Pace → (newer older : List Ended) → Type 0
AreAllowed p [] h = Unit {0}
AreAllowed p (e ∷ es) h = IsTrue (allows p (es ++ h) e.end e.len) × AreAllowed p es h

abbrev pub bytes : List Ended → ℕ
bytes [] = 0
bytes (e ∷ es) = e.len + bytes es

abbrev pub AreAtMost : (longest : ℕ) → List Ended → Type 0
AreAtMost longest [] = Unit {0}
AreAtMost longest (e ∷ es) = (e.len ≤ longest) × AreAtMost longest es

-- for a packet that is allowed, 31 times the rise of the average is at most 32 times its idle time plus its own time
abbrev pub RisesByIdleTime : (p : Pace) (e b : Ended) (h : List Ended) → Type 0
RisesByIdleTime p e b h =
    IsTrue (allows p (b ∷ h) e.end e.len) → b.end ≤ e.end
    → (pos 31 *ℤ (average p (e ∷ b ∷ h) -ℤ average p (b ∷ h)))
    ≤ℤ ((pos 32 *ℤ idle p (b ∷ h) e.end e.len) +ℤ pos (time_of e.len p.rate))

-- From the end of packet b to that of packet e, where e and all between them were allowed and none is longer than the longest:
-- 31 units <= rate (32 (last end - first end) + 31 (cap + longest packet's time)), the units being those of the packets after
-- b.
abbrev pub KeepsItsRate : (p : Pace) (longest : ℕ) (e : Ended) (es : List Ended) (b : Ended) (h : List Ended) → Type 0
KeepsItsRate p longest e es b h =
    EndsAreInOrder (e ∷ es ++ b ∷ h) → AreAllowed p (e ∷ es) (b ∷ h) → AreAtMost longest (e ∷ es)
    → 31 * units (bytes (e ∷ es)) ≤ p.rate * (32 * (e.end - b.end) + 31 * (p.cap + time_of longest p.rate))
