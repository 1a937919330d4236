-- Rows that are of packets which arrived.
use Rattle.std.specs.Prelude.{◌≡◌, ◌≤◌, ◌<◌, ℕ, Bool, true, false, List, length, slice_get}
use Rattle.std.specs.Option.{option_map_or}
use Rattle.altq_model.specs.declared.Fate.{Fate}
use Rattle.altq_model.specs.declared.Fate.TheVariants.{Dropped, Sent}
use Rattle.altq_model.specs.declared.Reason.{Reason}
use Rattle.altq_model.specs.declared.Reason.TheVariants.{Full, Early, Forced}
use Rattle.altq_model.specs.declared.Rule.{Rule}
use Rattle.altq_model.specs.declared.Rule.TheVariants.{RealTime, Share, Own, Borrow}
use Rattle.altq_model.specs.History.{Arrival}
use Rattle.altq_model.specs.Laws.{at_of}
use Rattle.journal_laws.specs.Journal.{class_of, len_of}
use Rattle.fate_check.specs.declared.reading.Row.{Row}
use Rattle.fate_judge.specs.declared.given.Allowed.{Allowed}

abbrev pub can_send : Allowed → Rule → Bool
can_send c RealTime = c.real_time
can_send c Share = c.share
can_send c Own = c.own
can_send c Borrow = c.borrow

abbrev pub can_drop : Allowed → Reason → Bool
can_drop c Full = true
can_drop c Early = c.early
can_drop c Forced = c.early

abbrev pub can_occur : Allowed → Fate → Bool
can_occur c (Dropped reason) = can_drop c reason
can_occur c (Sent start end rule) = can_send c rule

-- a class that is not there has no packets
abbrev pub can_occur_in : List Allowed → (class : ℕ) → Fate → Bool
can_occur_in classes class fate = option_map_or (λ c. can_occur c fate) (slice_get classes class) false

-- number, arrival, length and class are those of a packet that arrived, and the row's fate can occur in the class
pub record IsOfArrival (classes : List Allowed) (arrived : List Arrival) (r : Row) : Type 0 where
  pub from_one : 0 < r.number
  pub there : r.number ≤ length arrived
  pub at : r.at ≡ at_of arrived r.number
  pub len : r.len ≡ len_of arrived r.number
  pub class : r.class ≡ class_of arrived r.number
  pub fate : can_occur_in classes r.class r.fate ≡ true

-- whatever stands before it
abbrev pub IsRead : List Allowed → List Arrival → (before : List Row) → Row → Type 0
IsRead classes arrived before r = IsOfArrival classes arrived r

-- a row's class is one of the first `count`
abbrev pub HasClass : (count : ℕ) → (before : List Row) → Row → Type 0
HasClass count before r = r.class < count
