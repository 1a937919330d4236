-- How far a class of CBQ is from its rate: a moving average of its idle times (Floyd and Jacobson 1995, "Link-sharing and
-- resource management models for packet networks"), in nanoseconds and times 32, so that a decay by 1/32 is a whole
-- number. A history is the list of the ends of the packets of the class and of the classes below it, the newest first.
use Rattle.std.specs.Prelude.{ℕ, ◌≤◌, ◌*◌, ℤ, pos, ◌+ℤ◌, ◌-ℤ◌, int_div, List, [], ◌∷◌, Option, Some, None, unwrap_or}
use Rattle.std.specs.Int.{int_min}
use Rattle.play_base.specs.Units.{time_of}

-- a class's rate in bits per second, and the greatest value of its average
pub record Pace : Type 0 where
  pub rate : ℕ
  pub cap : ℕ

-- the time of a burst of `maxburst` packets of a size
abbrev pub cap_of : (rate maxburst packetsize : ℕ) → ℕ
cap_of rate maxburst packetsize = maxburst * time_of packetsize rate

-- the end of a packet's sending, and the packet's length
pub record Ended : Type 0 where
  pub end : ℕ
  pub len : ℕ

abbrev pub latest : List Ended → Option ℕ
latest [] = None
latest (e ∷ h) = Some e.end

abbrev pub last_end : List Ended → ℕ
last_end h = unwrap_or (latest h) 0

-- no end is before the one before it
abbrev pub EndsAreInOrder : List Ended → Type 0
EndsAreInOrder [] = Unit {0}
EndsAreInOrder (e ∷ h) = (last_end h ≤ e.end) × EndsAreInOrder h

-- the idle time of a packet that ends at `end`: since the end before it, less the packet's own time at the class's rate
abbrev pub idle : Pace → List Ended → (end len : ℕ) → ℤ
idle p h end len = (pos end -ℤ pos (last_end h)) -ℤ pos (time_of len p.rate)

-- an average less 1/32 of it, rounded towards zero
abbrev pub decayed : ℤ → ℤ
decayed a = a -ℤ int_div a (pos 32)

-- the average after one packet more: the first one leaves it as it is
abbrev pub moved : Pace → List Ended → (a : ℤ) → Ended → ℤ
moved p [] a e = a
moved p (b ∷ h) a e = int_min (pos p.cap) (decayed a +ℤ idle p (b ∷ h) e.end e.len)

abbrev pub average : Pace → List Ended → ℤ
average p [] = pos p.cap
average p (e ∷ h) = moved p h (average p h) e
