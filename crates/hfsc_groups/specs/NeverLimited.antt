-- A list in which no class stands, nor ever stood.
use Rattle.std.specs.Prelude.{◌≡◌, ℕ, [], Some}
use Rattle.ranking.specs.declared.Ranking.{Ranking}
use Rattle.ranking.specs.Order.{key_of}
use Rattle.ranking.specs.Ranking.{HasPlace, keys_of, order_of}

-- none is there, and each key is 0
pub record IsNeverLimited (r : Ranking) : Type 0 where
  pub none : order_of r ≡ []
  pub keys : (c : ℕ) → HasPlace r c → key_of (keys_of r) c ≡ Some 0
