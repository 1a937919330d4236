-- The journals that a path stands for.
use Rattle.std.specs.Prelude.{◌≡◌, ◌≤◌, ◌<◌, ◌&&◌, ◌++◌, ℕ, nat_lt, nat_le, List, [], ◌∷◌, length, None, if◌then◌else◌}
use Rattle.altq_model.specs.History.{Decision}
use Rattle.altq_model.specs.Laws.{numbers, occurs}
use Rattle.play_loop.specs.declared.kept.KeptFate.{KeptFate}
use Rattle.play_chain.specs.declared.path.Path.{Path}
use Rattle.play_chain.specs.declared.seconds.Second.{Second}
use Rattle.play_chain.specs.Path.{fate_under, numbers_of, passage, sendings}
use Rattle.play_chain.specs.Tables.{IsFirstTable, in_tables, second_in, second_row}
use Rattle.play_chain.specs.Text.{path_header, rows_below}

-- the second fate of each sending up to this count has a row, and stands there if it is known
pub record HasSeconds (rows : List Second) (count : ℕ) (second : List Decision) : Type 0 where
  pub stands : (k : ℕ) → 0 < k → k ≤ count → second_in rows k ≡ second_row (fate_under second k)
  pub room : (k : ℕ) → 0 < k → k ≤ count → k < length rows

-- its tables hold the passages through these two journals, each of which has a number once; second fates are of sendings
pub record Represents (p : Path) (first : List KeptFate) (second : List Decision) : Type 0 where
  pub table : (n : ℕ) → in_tables p.firsts.rows.items p.seconds.rows.items n ≡ passage first second n
  pub firsts : IsFirstTable p.firsts first
  pub seconds : HasSeconds p.seconds.rows.items (length (sendings first)) second
  pub once : (n : ℕ) → occurs n (numbers_of first) ≤ 1
  pub of_sent : (k : ℕ) → length (sendings first) < k → fate_under second k ≡ None

-- the number of a first fate was not given before
pub record TakesFirst (p : Path) (n : ℕ) : Type 0 where
  pub first : List KeptFate
  pub second : List Decision
  pub stands : Represents p first second
  pub new : occurs n (numbers_of first) ≡ 0

-- the number of a second fate is that of a sending, and was not given before
pub record TakesSecond (p : Path) (k : ℕ) : Type 0 where
  pub first : List KeptFate
  pub second : List Decision
  pub stands : Represents p first second
  pub some : 0 < k
  pub sent : k ≤ length (sendings first)
  pub new : occurs k (numbers second) ≡ 0

-- the decisions of numbers from 1 to this count
abbrev pub of_sendings : (count : ℕ) → List Decision → List Decision
of_sendings count [] = []
of_sendings count (d ∷ js) = if nat_lt 0 d.0 && nat_le d.0 count then d ∷ of_sendings count js else of_sendings count js

-- no number that has a row is as great as this
abbrev pub bound : Path → ℕ
bound p = length p.firsts.rows.items

-- the rows of the numbers below m, and the text of all
abbrev pub rows_to : Path → (m : ℕ) → List ℕ
rows_to p m = rows_below m (in_tables p.firsts.rows.items p.seconds.rows.items)

abbrev pub text_of : Path → List ℕ
text_of p = path_header ++ rows_to p (bound p)
