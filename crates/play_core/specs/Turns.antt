-- What the next event of a play is, and what is told of it.
use Rattle.std.specs.Prelude.{◌≡◌, ◌+◌, ℕ, List, ◌∷◌, None, Some, option_map, slice_get}
use Rattle.std.specs.declared.option.Option.{Option}
use Rattle.altq_model.specs.declared.Placed.{Placed}
use Rattle.altq_model.specs.declared.Verdict.{Verdict}
use Rattle.altq_model.specs.declared.Verdict.TheVariants.{Keep, Mark, Drop}
use Rattle.altq_model.specs.Arrivals.{Captured, arrival, bare_arrival, bare_arrivals}
use Rattle.altq_model.specs.History.{Arrival, Sent, LabelledEvent, unlabelled, offered, was_marked}
use Rattle.altq_model.specs.Play.{Policy, due, offer_of}
use Rattle.play_base.specs.declared.packet.Packet.{Packet}
use Rattle.play_core.specs.declared.turn.Dropped.{Dropped}
use Rattle.play_core.specs.declared.turn.LentPacket.{LentPacket}
use Rattle.play_core.specs.declared.turn.Departure.{Departure}
use Rattle.play_core.specs.declared.turn.Turn.{Turn}
use Rattle.play_core.specs.declared.turn.Turn.TheVariants.{End, Offer, Send, Late}
use Rattle.play_core.specs.Ended.{IsCutOff}
use Rattle.play_core.specs.Going.{numbered}

-- the offer of this arrival comes next
pub record IsNext (p : Policy) (rate seed : ℕ) (arrived : List Captured) (g : List LabelledEvent) (a : Captured) : Type 0 where
  pub there : slice_get arrived (offered (unlabelled g)) ≡ Some a
  pub is_due : due p rate seed (bare_arrivals arrived) g ≡ Some (offer_of p seed g (bare_arrival a))

-- the packet with the bytes that are lent
abbrev pub packet_of_lent : LentPacket → Packet
packet_of_lent p = record { number = p.number; at = p.at; len = p.len; bytes = p.bytes.now }

-- the next event is the offer of this packet, which was placed there
pub record Offers (p : Policy) (rate seed : ℕ) (arrived : List Captured) (g : List LabelledEvent) (a : Captured) (packet : LentPacket)
    (placed : Placed) : Type 0 where
  pub next : IsNext p rate seed arrived g a
  pub packet_is : packet_of_lent packet ≡ numbered (offered (unlabelled g) + 1) a
  pub placed_is : placed ≡ record { class = a.class; prec = a.prec }

-- what is told of a packet after its drop, or nothing
abbrev pub drop_of : Verdict → LentPacket → Option Dropped
drop_of Keep p = None
drop_of Mark p = None
drop_of (Drop reason) p = Some (record { number = p.number; at = p.at; len = p.len; reason = reason })

-- a sending, as the play's history has it
abbrev pub departs : Departure → LabelledEvent
departs d = record {
  label = d.packet.number;
  what = Sent (record { class = d.class; len = d.packet.len; rule = d.rule; start = d.start; end = d.end });
}

-- the sending of this packet comes next: the arrival of its number, marked as it was
pub record Departs (p : Policy) (rate seed : ℕ) (arrived : List Captured) (g : List LabelledEvent) (d : Departure) : Type 0 where
  pub is_due : due p rate seed (bare_arrivals arrived) g ≡ Some (departs d)
  pub packet_is : d.packet ≡ numbered d.packet.number (arrival arrived d.packet.number)
  pub mark_is : d.marked ≡ was_marked d.packet.number g

-- when the next arrival comes, if there is one
abbrev pub arrives : List Captured → List LabelledEvent → Option ℕ
arrives arrived g = option_map (λ (a : Arrival). a.at) (slice_get (bare_arrivals arrived) (offered (unlabelled g)))

-- the turn is the next event of the play, or says that none is left
abbrev pub ComesNext : Policy → (rate seed : ℕ) → List Captured → List LabelledEvent → Turn → Type 0
ComesNext p rate seed arrived g End = due p rate seed (bare_arrivals arrived) g ≡ None
ComesNext p rate seed arrived g Offer = (a : Captured) → slice_get arrived (offered (unlabelled g)) ≡ Some a → IsNext p rate seed arrived g a
ComesNext p rate seed arrived g (Send d) = Departs p rate seed arrived g d
ComesNext p rate seed arrived g Late = IsCutOff p rate seed (bare_arrivals arrived) g

-- the history after it: a sending is made
abbrev pub turned : Turn → List LabelledEvent → List LabelledEvent
turned End g = g
turned Offer g = g
turned (Send d) g = departs d ∷ g
turned Late g = g
