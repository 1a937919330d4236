-- What happens to the classes of HFSC: a packet is kept in a class, or the head of a class is sent. Moments are
-- nanoseconds, lengths bytes. Classes have numbers from 0, in the order of the file.
use Rattle.std.specs.Prelude.{ℕ, Bool, List}

pub data HfscEvent : Type 0 where
  -- a packet of `len` bytes arrived at the moment `at` and was kept in a class
  Enqueued : (class at len : ℕ) → HfscEvent
  -- the head of a class, of `len` bytes, was sent from `start` on, by real time or else by share
  Sent : (class len : ℕ) (real : Bool) (start : ℕ) → HfscEvent

-- the newest first
abbrev pub HfscHistory : Type 0
HfscHistory = List HfscEvent
