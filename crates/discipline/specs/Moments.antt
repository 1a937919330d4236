-- When a discipline may be asked and told, and which of its histories are in order.
use Rattle.std.specs.Prelude.{◌≡◌, ◌≤◌, ℕ, List, [], ◌∷◌, Some}
use Rattle.altq_model.specs.History.{Arrival, Event, Offered, Sent, Sending, head}
use Rattle.altq_model.specs.Link.{link}
use Rattle.altq_model.specs.Play.{Policy}
use Rattle.altq_model.specs.Lawful.{latest, first_at}
pub use Rattle.altq_model.specs.Laws.{StartsBefore}
use Rattle.link_clock.specs.Clock.{Clock}

-- no start is after it
abbrev pub StartsBy : (t : ℕ) → List Event → Type 0
StartsBy t [] = Unit {0}
StartsBy t (Offered a w v ∷ h) = StartsBy t h
StartsBy t (Sent s ∷ h) = (s.start ≤ t) × StartsBy t h

-- the longest packet, in bytes
abbrev pub longest : ℕ
longest = 262144

-- a packet may be so long
pub record IsSized (len : ℕ) : Type 0 where
  pub least : 1 ≤ len
  pub most : len ≤ longest

-- a packet may be offered: its length is one, no arrival was later than its own, and each start was before it
pub record IsOffer (a : Arrival) (h : List Event) : Type 0 where
  pub sized : IsSized a.len
  pub arrived : latest h ≤ a.at
  pub started : StartsBefore a.at h

-- a choice may be made at this moment under this clock: no event was later, and the clock is the link's after the sendings so far
pub record IsChoice (now : ℕ) (clock : Clock) (h : List Event) : Type 0 where
  pub arrived : latest h ≤ now
  pub started : StartsBy now h
  pub link : link clock.rate h ≡ clock.link

-- a sending was the one due: its start was the least moment at which a class might send, its class and rule were the pick's, its
-- packet was the head of its class, and no event before it was later
pub record WasDue (p : Policy) (h : List Event) (s : Sending) : Type 0 where
  pub packet : Arrival
  pub front : head s.class h ≡ Some packet
  pub len : s.len ≡ packet.len
  pub arrived : latest h ≤ s.start
  pub started : StartsBy s.start h
  pub first : first_at p s.start h p.classes ≡ Some s.start
  pub pick : p.pick h s.start ≡ record { class = s.class; rule = s.rule }

-- a history in which each offer came at a moment for it and has the policy's answer, and each sending was the one due
abbrev pub IsOrderly : Policy → List Event → Type 0
IsOrderly p [] = Unit {0}
IsOrderly p (Offered a w v ∷ h) = IsOffer a h × (v ≡ p.answer h w a) × IsOrderly p h
IsOrderly p (Sent s ∷ h) = WasDue p h s × IsOrderly p h
