-- The bytes that a marker holds.
use Rattle.std.specs.Prelude.{ℕ, List}

-- those that are to be given as they stand, and behind them those that are not marked yet
pub record PendingBytes : Type 0 where
  pub ready : List ℕ
  pub pending : List ℕ
