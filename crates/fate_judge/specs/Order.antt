-- The order of sendings and drops.
use Rattle.std.specs.Prelude.{◌≡◌, ◌<◌, ◌+◌, ℕ, max, List, [], ◌∷◌, length, get_or}
use Rattle.altq_model.specs.History.{Arrival}
use Rattle.altq_model.specs.Idle.{dropped}
use Rattle.journal_laws.specs.Journal.{DropsAtArrival, DropsInOrder, SendsAfterDrops, SendsInOrder, StartsInOrder, moments, numbers_sent_in, starts}
use Rattle.fate_check.specs.declared.reading.Row.{Row}
use Rattle.fate_judge.specs.Given.{decision_of, decisions}

-- numbers of a class's sendings rise, numbers of drops rise, starts do not fall; a drop stands after every sending that starts before
-- its arrival, and before every other sending
pub record RowIsInOrder (arrived : List Arrival) (before : List Row) (r : Row) : Type 0 where
  pub sends : SendsInOrder arrived (decisions before) (decision_of r)
  pub drops : DropsInOrder (decisions before) (decision_of r)
  pub starts : StartsInOrder (decisions before) (decision_of r)
  pub drop_at_arrival : DropsAtArrival arrived (decisions before) (decision_of r)
  pub send_after_drops : SendsAfterDrops arrived (decisions before) (decision_of r)

-- the least number above all of a list
abbrev pub above : List ℕ → ℕ
above [] = 0
above (n ∷ ns) = max (n + 1) (above ns)

-- what is above the numbers that each class sent
abbrev pub AreAbove : List Arrival → (before : List Row) → (sent : List ℕ) → Type 0
AreAbove arrived before sent = (c : ℕ) → c < length sent → get_or sent c 0 ≡ above (numbers_sent_in arrived c (decisions before))

-- and above all starts, above the numbers of drops, and above their arrivals
pub record IsOrder (arrived : List Arrival) (before : List Row) (sent : List ℕ) (start drop moment : ℕ) : Type 0 where
  pub numbers_sent : AreAbove arrived before sent
  pub starts : start ≡ above (starts (decisions before))
  pub numbers_dropped : drop ≡ above (dropped (decisions before))
  pub moments : moment ≡ above (moments arrived (dropped (decisions before)))
