-- How far a play has come, and how it ended.
use Rattle.std.specs.Prelude.{◌≡◌, ℕ, List, Some, None, Bool, true, false}
use Rattle.altq_model.specs.History.{Arrival, LabelledEvent}
use Rattle.altq_model.specs.Laws.{IsInTime, IsLate}
use Rattle.altq_model.specs.Play.{Policy, AreDue, due}

-- these are the first events of a play, each sending in time
pub record IsBegun (p : Policy) (rate seed : ℕ) (arrived : List Arrival) (g : List LabelledEvent) : Type 0 where
  pub events : AreDue p rate seed arrived g
  pub in_time : IsInTime g

-- the whole play, each sending in time
pub record IsPlayed (p : Policy) (rate seed : ℕ) (arrived : List Arrival) (g : List LabelledEvent) : Type 0 where
  pub begun : IsBegun p rate seed arrived g
  pub done : due p rate seed arrived g ≡ None

-- the events before a sending that is due next and would end too late
pub record IsCutOff (p : Policy) (rate seed : ℕ) (arrived : List Arrival) (g : List LabelledEvent) : Type 0 where
  pub begun : IsBegun p rate seed arrived g
  pub next : LabelledEvent
  pub is_due : due p rate seed arrived g ≡ Some next
  pub late : IsLate next.what

-- the play ended, or was cut off
abbrev pub HasEnded : (cut : Bool) → Policy → (rate seed : ℕ) → List Arrival → List LabelledEvent → Type 0
HasEnded false p rate seed arrived g = IsPlayed p rate seed arrived g
HasEnded true p rate seed arrived g = IsCutOff p rate seed arrived g
