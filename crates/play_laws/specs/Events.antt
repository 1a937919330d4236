-- What the events of a play are: an offer of the next arrival, or a sending at the least moment at which one may be.
use Rattle.std.specs.Prelude.{◌≡◌, ◌≤◌, ◌<◌, ◌⊎◌, ◌+◌, ◌-◌, ℕ, List, [], ◌∷◌, length, Some, slice_get, if◌then◌else◌, nat_lt, nat_le, ◌&&◌}
use Rattle.altq_model.specs.History.{Arrival, Sending, Event, Offered, Sent, LabelledEvent, unlabelled, offered, head, waiting, labels, journal}
use Rattle.altq_model.specs.Laws.{occurs, numbers, IsOrdered, IsNotBefore, IsPrompt}
use Rattle.altq_model.specs.Link.{link, end_of, HasLinkEnds}
use Rattle.altq_model.specs.Play.{Policy, first_start, offer_of}
use Rattle.altq_model.specs.Lawful.{MaySend}

-- after a history this event is the offer of the next arrival, whose number is its place among the arrivals; no class may send
-- before that arrival
pub record IsOffer (p : Policy) (rate seed : ℕ) (arrived : List Arrival) (g : List LabelledEvent) (e : LabelledEvent) : Type 0 where
  pub packet : Arrival
  pub next : slice_get arrived (offered (unlabelled g)) ≡ Some packet
  pub offer : e ≡ offer_of p seed g packet
  pub place : e.label ≡ offered (unlabelled g) + 1
  pub first : (s : ℕ) → first_start p (link rate (unlabelled g)).free (unlabelled g) p.classes ≡ Some s → packet.at ≤ s

-- after a history this event is a sending of a class's head, with the link's end; it starts at the least moment at which a class
-- may send, its class and rule are the pick's, and every arrival up to its start was offered before
pub record IsSending (p : Policy) (rate : ℕ) (arrived : List Arrival) (g : List LabelledEvent) (e : LabelledEvent) : Type 0 where
  pub sending : Sending
  pub packet : Arrival
  pub event : e.what ≡ Sent sending
  pub number : slice_get (labels sending.class g) 0 ≡ Some e.label
  pub front : head sending.class (unlabelled g) ≡ Some packet
  pub len : sending.len ≡ packet.len
  pub end : sending.end ≡ end_of rate (link rate (unlabelled g)) sending.start sending.len
  pub least : first_start p (link rate (unlabelled g)).free (unlabelled g) p.classes ≡ Some sending.start
  pub class : sending.class ≡ (p.pick (unlabelled g) sending.start).class
  pub rule : sending.rule ≡ (p.pick (unlabelled g) sending.start).rule
  pub may : MaySend p (link rate (unlabelled g)).free (unlabelled g) sending.class sending.start
  pub passed : (a : Arrival) → slice_get arrived (offered (unlabelled g)) ≡ Some a → sending.start < a.at

-- each event of a history is one of the two
abbrev pub EachFollows : Policy → (rate seed : ℕ) → List Arrival → List LabelledEvent → Type 0
EachFollows p rate seed arrived [] = Unit {0}
EachFollows p rate seed arrived (e ∷ g) =
    (IsOffer p rate seed arrived g e ⊎ IsSending p rate arrived g e) × EachFollows p rate seed arrived g

-- a sending is of the arrival of its number, and has its class and its length
pub record SendsArrival (arrived : List Arrival) (n : ℕ) (s : Sending) : Type 0 where
  pub packet : Arrival
  pub from_one : 0 < n
  pub arrival : slice_get arrived (n - 1) ≡ Some packet
  pub class : s.class ≡ packet.class
  pub len : s.len ≡ packet.len

-- an event is of the arrival of its number
abbrev pub IsOfArrival : List Arrival → (n : ℕ) → Event → Type 0
IsOfArrival arrived n (Offered a w v) = (0 < n) × (slice_get arrived (n - 1) ≡ Some a)
IsOfArrival arrived n (Sent s) = SendsArrival arrived n s

abbrev pub AreOfArrivals : List Arrival → List LabelledEvent → Type 0
AreOfArrivals arrived [] = Unit {0}
AreOfArrivals arrived (e ∷ g) = IsOfArrival arrived e.label e.what × AreOfArrivals arrived g

-- each number up to the count of offers has at most one fate, and no other number has one
abbrev pub IsDecidedOnce : List LabelledEvent → Type 0
IsDecidedOnce g = (n : ℕ) → occurs n (numbers (journal g)) ≤ (if nat_lt 0 n && nat_le n (offered (unlabelled g)) then 1 else 0)

-- what waits has no fate yet, and each number waits in one place
abbrev pub WaitsOnce : List LabelledEvent → Type 0
WaitsOnce g = (n c : ℕ) → occurs n (labels c g) + occurs n (numbers (journal g)) ≤ (if nat_lt 0 n && nat_le n (offered (unlabelled g)) then 1 else 0)

-- what holds of the first events of a play
pub record HasLaws (p : Policy) (rate seed : ℕ) (arrived : List Arrival) (g : List LabelledEvent) : Type 0 where
  pub each : EachFollows p rate seed arrived g
  pub of_arrivals : AreOfArrivals arrived g
  -- no more packets were offered than arrive, and no more have a fate than were offered
  pub came : offered (unlabelled g) ≤ length arrived
  pub few : length (journal g) ≤ offered (unlabelled g)
  pub once : IsDecidedOnce g
  pub waits_once : WaitsOnce g
  pub ordered : IsOrdered g
  pub not_before : IsNotBefore arrived g
  pub prompt : IsPrompt (unlabelled g)
  pub ends : HasLinkEnds rate (unlabelled g)

-- every arrival was offered, and nothing waits in any class
pub record IsWhole (arrived : List Arrival) (g : List LabelledEvent) : Type 0 where
  pub offers : offered (unlabelled g) ≡ length arrived
  pub empty : (c : ℕ) → waiting c (unlabelled g) ≡ []
