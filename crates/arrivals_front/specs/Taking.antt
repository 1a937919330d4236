-- What is taken of a file to the end of other bytes.
use Rattle.std.specs.Prelude.{◌≡◌, ◌<◌, ◌≤◌, ◌++◌, ℕ, List, [], length, Some}
use Rattle.capture_model.specs.Capture.{most_bytes}
use Rattle.play_base.specs.View.{View, Took}

-- these bytes were taken from the file, and stand behind those that were there
pub record Gained (old new : View) (file : ℕ) (before after : List ℕ) : Type 0 where
  pub more : List ℕ
  pub joined : after ≡ before ++ more
  pub took : Took old new file more

-- some bytes were taken of the file, and nothing else changed but counts; and at most so many
abbrev pub TookSome : View → View → (file : ℕ) → Type 0
TookSome old new file = (bytes : List ℕ) × Took old new file bytes

pub record TookUpTo (old new : View) (file most : ℕ) : Type 0 where
  pub bytes : List ℕ
  pub took : Took old new file bytes
  pub few : length bytes ≤ most

-- all that the file had left was taken, and stands behind the bytes that were there
abbrev pub IsRestOf : View → View → (file : ℕ) → (before after : List ℕ) → Type 0
IsRestOf old new file before after = (rest : List ℕ) → old.left file ≡ Some rest → (after ≡ before ++ rest) × (new.left file ≡ Some [])

-- those bytes and what the file had left are longer than a capture may be
abbrev pub IsLonger : View → (file : ℕ) → (before : List ℕ) → Type 0
IsLonger old file before = (rest : List ℕ) → old.left file ≡ Some rest → most_bytes < length (before ++ rest)
