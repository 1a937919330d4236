-- The words of a discipline's laws.
use Rattle.std.specs.Prelude.{◌≡◌, ◌≤◌, ◌<◌, ◌==◌, ◌+◌, ℕ, List, [], ◌∷◌, length, None, Some, slice_get}
use Rattle.std.specs.declared.option.Option.{Option}
use Rattle.play_base.specs.declared.packet.Ticket.{Ticket}
use Rattle.altq_model.specs.declared.Verdict.{Verdict}
use Rattle.altq_model.specs.History.{Arrival, DrawnWords, Event, Offered, Sent, LabelledEvent, unlabelled, labels, waiting, with_offer, without_head}
use Rattle.altq_model.specs.Laws.{occurs}
use Rattle.altq_model.specs.Play.{Policy}
use Rattle.altq_model.specs.Lawful.{first_at}
use Rattle.leaf_queue.specs.declared.node.Entry.{Entry}
use Rattle.leaf_queue.specs.Words.{Drew}
use Rattle.discipline.specs.declared.pick.Pick.{Pick}
use Rattle.discipline.specs.declared.pick.Pick.TheVariants.{Send, Wait, Empty}
use Rattle.discipline.specs.declared.pick.Sending.{Sending}

abbrev pub entry : Ticket → (len prec : ℕ) → Entry
entry ticket len prec = record { ticket = ticket; len = len; prec = prec }

abbrev pub arrival_with : (class len prec now : ℕ) → Arrival
arrival_with class len prec now = record { class = class; len = len; prec = prec; at = now }

-- an offer that keeps puts the entry at the end of its class's list, one that drops leaves every list
abbrev pub after_offer : Verdict → (class : ℕ) → Entry → (ℕ → List Entry) → ℕ → List Entry
after_offer v class x lists c = with_offer (class == c) v x (lists c)

-- a sending removes the head of its class's list
abbrev pub after_sent : (class : ℕ) → (ℕ → List Entry) → ℕ → List Entry
after_sent class lists c = without_head (class == c) (lists c)

-- how many entries stand in the lists of these classes
abbrev pub held_in : (ℕ → List Entry) → List ℕ → ℕ
held_in lists [] = 0
held_in lists (c ∷ cs) = length (lists c) + held_in lists cs

-- how many may
abbrev pub room_of : (ℕ → ℕ) → List ℕ → ℕ
room_of limits [] = 0
room_of limits (c ∷ cs) = limits c + room_of limits cs

-- no class is twice in a list
abbrev pub AreDistinct : List ℕ → Type 0
AreDistinct cs = (c : ℕ) → occurs c cs ≤ 1

-- the verdict is the policy's, and exactly the random words that it takes were drawn
pub record IsAnswer (p : Policy) (h : List Event) (old : DrawnWords) (a : Arrival) (v : Verdict) (new : DrawnWords) : Type 0 where
  pub verdict : v ≡ (p.answer h old a).verdict
  pub words : Drew old new (p.answer h old a).took

-- the offer of a packet under a ticket, as a history has it
abbrev pub offer_of : Policy → List LabelledEvent → Ticket → DrawnWords → Arrival → LabelledEvent
offer_of p h ticket w a = record { label = ticket.0; what = Offered a w (p.answer (unlabelled h) w a) }

-- a sending, as a history has it
abbrev pub sent_of : Sending → LabelledEvent
sent_of s = record {
  label = s.ticket.0;
  what = Sent (record { class = s.class; len = s.len; rule = s.rule; start = s.start; end = s.end });
}

-- the clock has the rate, where there is one
abbrev pub HasRate : Option ℕ → (rate : ℕ) → Type 0
HasRate None rate = Unit {0}
HasRate (Some r) rate = rate ≡ r

-- what is sent is the head of its class's list
abbrev pub NamesHead : (ℕ → List Entry) → Pick → Type 0
NamesHead lists (Send ticket class len rule) = (prec : ℕ) × (slice_get (lists class) 0 ≡ Some (entry ticket len prec))
NamesHead lists (Wait till) = Unit {0}
NamesHead lists Empty = Unit {0}

abbrev pub Sends : Pick → Type 0
Sends (Send ticket class len rule) = Unit {0}
Sends (Wait till) = ⊥
Sends Empty = ⊥

-- it is the least moment, later than now, at which something is sent
pub record IsLeast (due : ℕ → Pick) (now till : ℕ) : Type 0 where
  pub later : now < till
  pub sends : Sends (due till)
  pub least : (t : ℕ) → now ≤ t → t < till → Sends (due t) → ⊥

abbrev pub Waits : (ℕ → Pick) → (now : ℕ) → Pick → Type 0
Waits due now (Send ticket class len rule) = Unit {0}
Waits due now (Wait till) = IsLeast due now till
Waits due now Empty = Unit {0}

-- the tickets of a list
abbrev pub tickets : List Entry → List ℕ
tickets [] = []
tickets (x ∷ xs) = x.ticket.0 ∷ tickets xs

-- the lengths and the precedences, of a list's entries and of packets
abbrev pub seen : List Entry → List (ℕ × ℕ)
seen [] = []
seen (x ∷ xs) = (x.len, x.prec) ∷ seen xs

abbrev pub seen_of : List Arrival → List (ℕ × ℕ)
seen_of [] = []
seen_of (a ∷ ws) = (a.len, a.prec) ∷ seen_of ws

-- a list is what waits in its class after a history
pub record Shows (c : ℕ) (xs : List Entry) (h : List LabelledEvent) : Type 0 where
  pub labels : tickets xs ≡ labels c h
  pub packets : seen xs ≡ seen_of (waiting c (unlabelled h))

-- what is due after a history at a moment is the policy's: nothing where nothing waits; a sending of the pick's class and by its
-- rule where the first moment at which a class may send is now; else a wait till that moment
abbrev pub IsDue : Policy → List Event → (now : ℕ) → Pick → Type 0
IsDue p h now (Send ticket class len rule) =
    (first_at p now h p.classes ≡ Some now) × (p.pick h now ≡ record { class = class; rule = rule })
IsDue p h now (Wait till) = (first_at p now h p.classes ≡ Some till) × (now < till)
IsDue p h now Empty = first_at p now h p.classes ≡ None
