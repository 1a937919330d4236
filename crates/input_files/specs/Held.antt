-- Records whose bytes stand in one list.
use Rattle.std.specs.Prelude.{◌≤◌, ◌<◌, ◌+◌, ℕ, List, [], ◌∷◌, drop, length, take}
use Rattle.input_files.specs.Records.{Shown}
use Rattle.input_files.specs.declared.held.HeldRecord.{HeldRecord}
use Rattle.input_files.specs.declared.held.Seen.{Seen}

-- the record whose bytes stand at its place
abbrev pub shown_at : (bytes : List ℕ) → HeldRecord → Shown
shown_at bytes h = record { stamp = h.stamp; len = h.len; bytes = take h.captured (drop h.from bytes) }

-- a record is not empty, no longer than a capture may have it, and its bytes are there
pub record IsHeldRecord (bytes : List ℕ) (h : HeldRecord) : Type 0 where
  pub there : h.from + h.captured ≤ length bytes
  pub some : 0 < h.len
  pub most : h.len ≤ 262144
  pub short : h.captured ≤ 262144

abbrev pub AreHeld : (bytes : List ℕ) → List HeldRecord → Type 0
AreHeld bytes [] = Unit {0}
AreHeld bytes (h ∷ hs) = IsHeldRecord bytes h × AreHeld bytes hs

-- what a look at a record sees
abbrev pub shown_in : Seen → Shown
shown_in s = record { stamp = s.stamp; len = s.len; bytes = s.bytes.now }
