-- A link that never idles, by the events that have been.
use Rattle.std.specs.Prelude.{◌≡◌, ◌≤◌, ℕ, max, List}
use Rattle.altq_model.specs.Busy.{as_of}
use Rattle.altq_model.specs.History.{Arrival, Event}
use Rattle.altq_model.specs.Lawful.{IsHead, latest}
use Rattle.altq_model.specs.Play.{Policy}

-- a sending starts at the later of the last end and the earliest arrival of a waiting head
pub record StartsWithHead (p : Policy) (free : ℕ) (h : List Event) (s : ℕ) : Type 0 where
  pub class : ℕ
  pub packet : Arrival
  pub head : IsHead p h class packet
  pub start : s ≡ max free packet.at
  pub least : (c : ℕ) (b : Arrival) → IsHead p h c b → s ≤ max free b.at

-- what is offered comes in order: as of any moment from the last end on, nothing in the history came later than that moment
abbrev pub ComeInOrder : (free : ℕ) → List Event → Type 0
ComeInOrder free h = (u : ℕ) → free ≤ u → latest (as_of u h) ≤ u
