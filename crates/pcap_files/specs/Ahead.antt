-- Bytes that were taken from a file before they are asked for.
use Rattle.std.specs.Prelude.{◌≡◌, ◌≤◌, ◌<◌, ◌-◌, ℕ, List, ◌++◌, length, drop, Some}
use Rattle.play_base.specs.View.{View, Took}

-- the bytes of a file that are held: those that were passed, and those behind them
pub record HeldBytes : Type 0 where
  pub passed : List ℕ
  pub waiting : List ℕ

-- the last `count` of these bytes
abbrev pub last : (count : ℕ) → List ℕ → List ℕ
last count bytes = drop (length bytes - count) bytes

-- some bytes were taken from the file, and nothing else changed but counts
abbrev pub TookSome : View → View → ℕ → Type 0
TookSome old new file = (bytes : List ℕ) × Took old new file bytes

-- the bytes that were taken from the file stand behind those that were there
abbrev pub TookInto : View → View → ℕ → List ℕ → List ℕ → Type 0
TookInto old new file before after = (bytes : List ℕ) × Took old new file bytes × (after ≡ before ++ bytes)

-- and those are fewer than were needed
pub record TookFewer (need : ℕ) (old new : View) (file : ℕ) (before after : List ℕ) : Type 0 where
  pub took : TookInto old new file before after
  pub fewer : length after < need

-- From this place of the bytes on, `ahead` was taken from the file, and the rest is what the file has left.
pub record Pending (v : View) (file place_at : ℕ) (ahead bytes : List ℕ) : Type 0 where
  pub place : place_at ≤ length bytes
  pub rest : (rest : List ℕ) × (v.left file ≡ Some rest) × (drop place_at bytes ≡ ahead ++ rest)
