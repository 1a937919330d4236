-- What comes next in a play, where the least moment at which a class may send is sought from one moment on for all classes.
use Rattle.std.specs.Prelude.{◌≡◌, ◌≤◌, ℕ, Bool, false, nat_le, List, None, Some, if◌then◌else◌}
use Rattle.std.specs.declared.option.Option.{Option}
use Rattle.altq_model.specs.declared.Rule.{Rule}
use Rattle.altq_model.specs.History.{Arrival, Event, head}
use Rattle.altq_model.specs.Laws.{clock_end}
use Rattle.altq_model.specs.Link.{end_of}
use Rattle.altq_model.specs.Play.{Policy}
use Rattle.altq_model.specs.Lawful.{first_at}
use Rattle.play_base.specs.declared.packet.Ticket.{Ticket}
use Rattle.link_clock.specs.Clock.{Clock}
use Rattle.discipline.specs.declared.pick.Sending.{Sending}
use Rattle.play_core.specs.declared.step.Step.{Step}
use Rattle.play_core.specs.declared.step.Step.TheVariants.{End, Offer, Send, Late}

-- the next arrival, if any, comes by t
abbrev pub comes_by : Option ℕ → (t : ℕ) → Bool
comes_by None t = false
comes_by (Some at) t = nat_le at t

-- the sending of a packet that would end at `end`, if that is not too late
abbrev pub step_at : Ticket → (class len : ℕ) → Rule → (start end : ℕ) → Step
step_at ticket class len rule start end =
    if nat_le clock_end end then Late
    else Send (record { ticket = ticket; class = class; len = len; rule = rule; start = start; end = end })

-- the next arrival comes before any class may send
pub record OffersFirst (p : Policy) (t : ℕ) (h : List Event) (arrival : Option ℕ) : Type 0 where
  pub at : ℕ
  pub next : arrival ≡ Some at
  pub first : (s : ℕ) → first_at p t h p.classes ≡ Some s → at ≤ s

-- this is the sending of the pick's head at a moment
pub record SendsHead (p : Policy) (h : List Event) (s : Sending) : Type 0 where
  pub pick : p.pick h s.start ≡ record { class = s.class; rule = s.rule }
  pub packet : Arrival
  pub front : head s.class h ≡ Some packet
  pub len : packet.len ≡ s.len

-- the pick's head would end too late
abbrev pub WouldEndLate : Policy → Clock → (start : ℕ) → List Event → Type 0
WouldEndLate p clock start h = (packet : Arrival) → head (p.pick h start).class h ≡ Some packet
    → clock_end ≤ end_of clock.rate clock.link start packet.len

-- what is sent at this moment
abbrev pub IsSentAt : Policy → Clock → (start : ℕ) → List Event → Step → Type 0
IsSentAt p clock start h End = ⊥
IsSentAt p clock start h Offer = ⊥
IsSentAt p clock start h (Send s) = (s.start ≡ start) × SendsHead p h s
IsSentAt p clock start h Late = WouldEndLate p clock start h

-- the least moment at which a class may send is before the next arrival, and the step is the sending at that moment
pub record SendsFirst (p : Policy) (clock : Clock) (t : ℕ) (h : List Event) (arrival : Option ℕ) (step : Step) : Type 0 where
  pub start : ℕ
  pub first : first_at p t h p.classes ≡ Some start
  pub later : comes_by arrival start ≡ false
  pub sent : IsSentAt p clock start h step

-- after a history the step is what comes next, given the next arrival
abbrev pub IsStep : Policy → Clock → (t : ℕ) → List Event → (arrival : Option ℕ) → Step → Type 0
IsStep p clock t h arrival End = (first_at p t h p.classes ≡ None) × (arrival ≡ None)
IsStep p clock t h arrival Offer = OffersFirst p t h arrival
IsStep p clock t h arrival (Send s) = SendsFirst p clock t h arrival (Send s)
IsStep p clock t h arrival Late = SendsFirst p clock t h arrival Late
