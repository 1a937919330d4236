-- Sendings that start as soon as they can.
use Rattle.std.specs.Prelude.{◌≡◌, ◌<◌, ◌+◌, ℕ, nat_lt, Bool, true, false, List, length, get_or, vec_len}
use Rattle.altq_model.specs.History.{Arrival}
use Rattle.altq_model.specs.Idle.{dropped}
use Rattle.altq_model.specs.Laws.{occurs}
use Rattle.journal_laws.specs.Journal.{last_end, numbers_sent, StartsAtOnce as DecisionStartsAtOnce}
use Rattle.fate_check.specs.declared.reading.Row.{Row}
use Rattle.fate_judge.specs.Given.{decision_of, decisions}
use Rattle.fate_busy.specs.declared.left.Left.{Left}

-- a sending starts at the greater of the end of the one before it and the least arrival of the packets that no row drops and no row
-- before it sends
abbrev pub StartsAtOnce : List Arrival → (rows before : List Row) → Row → Type 0
StartsAtOnce arrived rows before r = DecisionStartsAtOnce arrived (decisions rows) (decisions before) (decision_of r)

-- by number less 1: whether these rows drop it
abbrev pub AreDropped : (gone : List Bool) → (rows : List Row) → Type 0
AreDropped gone rows = (k : ℕ) → k < length gone → get_or gone k false ≡ nat_lt 0 (occurs (k + 1) (dropped (decisions rows)))

-- and whether these drop it or those before send it
abbrev pub AreGone : (gone : List Bool) → (rows before : List Row) → Type 0
AreGone gone rows before = (k : ℕ) → k < length gone
    → get_or gone k false ≡ nat_lt 0 (occurs (k + 1) (dropped (decisions rows)) + occurs (k + 1) (numbers_sent (decisions before)))

-- what is left after the rows before one
pub record IsLeft (count : ℕ) (rows before : List Row) (left : Left) : Type 0 where
  pub size : vec_len left.gone ≡ count
  pub gone : AreGone left.gone.items rows before
  pub first : (k : ℕ) → k < left.first → get_or left.gone.items k false ≡ true
  pub free : left.free ≡ last_end (decisions before)
