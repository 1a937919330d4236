-- The tests of rows: the laws of a journal, said of the decisions of rows.
use Rattle.std.specs.Prelude.{◌≡◌, ◌≤◌, ◌<◌, ◌+◌, ◌⊎◌, ℕ, nat_lt, Bool, false, List, [], length, get_or}
use Rattle.altq_model.specs.History.{Arrival}
use Rattle.altq_model.specs.Laws.{numbers, occurs}
use Rattle.journal_laws.specs.Journal.{StartsAfterArrival, StartsAfterEnd, last_end}
use Rattle.fate_check.specs.declared.reading.Row.{Row}
use Rattle.fate_judge.specs.Given.{decision_of, decisions}
use Rattle.fate_judge.specs.Walk.{EachRow, FirstFails}

-- a row's number is one of the first `count`
pub record IsNumbered (count : ℕ) (before : List Row) (r : Row) : Type 0 where
  pub from_one : 0 < r.number
  pub there : r.number ≤ count

-- how many rows have this number
abbrev pub rows_of : (n : ℕ) → List Row → ℕ
rows_of n rows = occurs n (numbers (decisions rows))

-- no row before this one has its number
abbrev pub IsNewPacket : (before : List Row) → Row → Type 0
IsNewPacket before r = rows_of r.number before ≡ 0

-- by number less 1: whether a row has that number
abbrev pub AreSeen : (seen : List Bool) → (before : List Row) → Type 0
AreSeen seen before = (k : ℕ) → k < length seen → get_or seen k false ≡ nat_lt 0 (rows_of (k + 1) before)

-- each number of the first `count` has one row
pub record HaveOne (count : ℕ) (rows : List Row) : Type 0 where
  pub each : EachRow IsNewPacket [] rows
  pub all : (n : ℕ) → 0 < n → n ≤ count → 0 < rows_of n rows

-- each row is new, and a number has none: it lacks at the row after the last one
pub record Lacks (count : ℕ) (rows : List Row) (row : ℕ) : Type 0 where
  pub each : EachRow IsNewPacket [] rows
  pub number : ℕ
  pub from_one : 0 < number
  pub there : number ≤ count
  pub none : rows_of number rows ≡ 0
  pub place : row ≡ length rows + 1

-- where two rows have one number, the later fails
abbrev pub LacksOne : (count : ℕ) → List Row → (row : ℕ) → Type 0
LacksOne count rows row = FirstFails IsNewPacket rows row ⊎ Lacks count rows row

-- no start is before the packet's arrival or before the end of the sending before it
pub record IsInTime (arrived : List Arrival) (before : List Row) (r : Row) : Type 0 where
  pub after_arrival : StartsAfterArrival arrived (decisions before) (decision_of r)
  pub after_end : StartsAfterEnd (decisions before) (decision_of r)

-- the newest sending ended at this moment, or none did and it is 0
abbrev pub IsFree : (before : List Row) → (end : ℕ) → Type 0
IsFree before end = end ≡ last_end (decisions before)
