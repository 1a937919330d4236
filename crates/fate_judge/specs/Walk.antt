-- Tests of rows, each by what stands before it. The rows before a row are a list of which the newest is the first.
use Rattle.std.specs.Prelude.{◌≡◌, ◌+◌, ℕ, List, [], ◌∷◌, ◌++◌, length}
use Rattle.fate_check.specs.declared.reading.Row.{Row}

-- each row is so after those before it
abbrev pub EachRow : (IsSo : List Row → Row → Type 0) → (before : List Row) → List Row → Type 0
EachRow IsSo before [] = Unit {0}
EachRow IsSo before (r ∷ rows) = IsSo before r × EachRow IsSo (r ∷ before) rows

-- these rows, the newest first, and then those before them
abbrev pub newest_first : List Row → (before : List Row) → List Row
newest_first [] before = before
newest_first (r ∷ rows) before = newest_first rows (r ∷ before)

-- the first row that is not so; rows are counted from 1
pub record FirstFails (IsSo : List Row → Row → Type 0) (rows : List Row) (row : ℕ) : Type 0 where
  pub before : List Row
  pub at : Row
  pub behind : List Row
  pub parts : rows ≡ before ++ at ∷ behind
  pub place : row ≡ length before + 1
  pub passed : EachRow IsSo [] before
  pub fails : IsSo (newest_first before []) at → ⊥
