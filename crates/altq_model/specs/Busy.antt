-- A busy link: each sending starts at the least moment at which one may. It reads the events, whatever their labels are.
use Rattle.std.specs.Prelude.{◌≡◌, ◌≤◌, ℕ, nat_lt, List, [], ◌∷◌, Some, if◌then◌else◌}
use Rattle.altq_model.specs.History.{Arrival, Event, Offered, Sent, head}
use Rattle.altq_model.specs.Link.{link}
use Rattle.altq_model.specs.Play.{Policy, IsOneOf}

-- the history as it was at the moment u: without its newest offers, of packets that arrived later than u. Where the history is
-- prompt it has all the arrivals up to u
abbrev pub as_of : (u : ℕ) → List Event → List Event
as_of u [] = []
as_of u (Offered a w v ∷ h) = if nat_lt u a.at then as_of u h else Offered a w v ∷ h
as_of u (Sent s ∷ h) = Sent s ∷ h

-- after a history a class of the policy waits, and may send its head at this moment
pub record SomeMaySend (p : Policy) (h : List Event) (u : ℕ) : Type 0 where
  pub class : ℕ
  pub held : IsOneOf class p.classes
  pub packet : Arrival
  pub front : head class h ≡ Some packet
  pub may : p.start_from h class u ≡ u

-- the least moment, not before the last end, such that after the offers of all arrivals up to it some waiting class may send at it
pub record IsLeastStart (p : Policy) (free : ℕ) (h : List Event) (s : ℕ) : Type 0 where
  pub after_end : free ≤ s
  pub may : SomeMaySend p (as_of s h) s
  pub least : (u : ℕ) → free ≤ u → SomeMaySend p (as_of u h) u → s ≤ u

-- each sending starts at that least moment
abbrev pub IsBusy : Policy → (rate : ℕ) → List Event → Type 0
IsBusy p rate [] = Unit {0}
IsBusy p rate (Offered a w v ∷ h) = IsBusy p rate h
IsBusy p rate (Sent s ∷ h) = IsLeastStart p (link rate h).free h s.start × IsBusy p rate h
