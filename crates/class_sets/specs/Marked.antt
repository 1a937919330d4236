-- A set of classes: a bit for each class below 256, 64 in a word.
use Rattle.std.specs.Prelude.{◌≡◌, ◌≤◌, ◌<◌, ◌/◌, ◌%◌, ℕ, List, get_or}
use Rattle.std.specs.Int.{bit_at}

-- 1 where a class is marked, else 0
abbrev pub marked : List ℕ → (class : ℕ) → ℕ
marked words c = bit_at (get_or words (c / 64) 0) (c % 64)

-- the lowest bit of a word that is 1, from a place on
pub record IsLowest (word place i : ℕ) : Type 0 where
  pub from : place ≤ i
  pub inside : i < 64
  pub is : bit_at word i ≡ 1
  pub below : (j : ℕ) → place ≤ j → j < i → bit_at word j ≡ 0

-- the first class that is marked, from one on
pub record IsFirst (words : List ℕ) (from class : ℕ) : Type 0 where
  pub low : from ≤ class
  pub few : class < 256
  pub is : marked words class ≡ 1
  pub before : (c : ℕ) → from ≤ c → c < class → marked words c ≡ 0
