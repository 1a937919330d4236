-- The play of an interface: the history in which each event is a function of those before it. It is the same for every
-- discipline and every queue rule; these enter as a policy.
use Rattle.std.specs.Prelude.{◌≡◌, ◌⊎◌, ◌+◌, ◌*◌, ℕ, zero, suc, min, max, nat_le, List, [], ◌∷◌, length, if◌then◌else◌, None, Some, slice_get, option_map}
use Rattle.std.specs.declared.option.Option.{Option}
use Rattle.altq_model.specs.declared.Rule.{Rule}
use Rattle.altq_model.specs.History.{Arrival, Answer, DrawnWords, Event, Offered, Sent, LabelledEvent, unlabelled, offered, drawn, head, labels}
use Rattle.altq_model.specs.Link.{link, end_of}

-- which class sends, and by which rule
pub record Choice : Type 0 where
  pub class : ℕ
  pub rule : Rule

-- what decides in a play. Only its classes send: a history may hold packets of others, which never start and are never picked
pub record Policy : Type 0 where
  -- the queue classes, in the order of the file
  pub classes : List ℕ
  -- after a history, the answer of its class's queue to a packet, by the random words that come next
  pub answer : List Event → DrawnWords → Arrival → Answer
  -- after a history, the least moment from t on at which a class may send its head
  pub start_from : List Event → (c t : ℕ) → ℕ
  -- after a history, the class that sends at a moment at which one may
  pub pick : List Event → (t : ℕ) → Choice

-- a class is one of these
abbrev pub IsOneOf : (c : ℕ) → List ℕ → Type 0
IsOneOf c [] = ⊥
IsOneOf c (d ∷ ds) = (d ≡ c) ⊎ IsOneOf c ds

-- the least moment, not before the last end nor before its head's arrival, at which a class may send; None if it is empty
abbrev pub class_start : Policy → (free : ℕ) → List Event → (c : ℕ) → Option ℕ
class_start p free h c = option_map (λ (a : Arrival). p.start_from h c (max free a.at)) (head c h)

abbrev pub lesser : Option ℕ → Option ℕ → Option ℕ
lesser None o = o
lesser (Some s) None = Some s
lesser (Some s) (Some t) = Some (min s t)

-- the least moment, not before the last end, at which a class that waits, and whose head has arrived by then, may send; None if
-- nothing waits
abbrev pub first_start : Policy → (free : ℕ) → List Event → List ℕ → Option ℕ
first_start p free h [] = None
first_start p free h (c ∷ cs) = lesser (class_start p free h c) (first_start p free h cs)

-- the offer of a packet: its number is its place among the offers
abbrev pub offer_of : Policy → (seed : ℕ) → List LabelledEvent → Arrival → LabelledEvent
offer_of p seed g a =
    let w : DrawnWords = record { seed = seed; drawn = drawn (unlabelled g) } in
    record { label = offered (unlabelled g) + 1; what = Offered a w (p.answer (unlabelled g) w a) }

-- the sending of a class's head, given its number and its packet
abbrev pub head_sent : (rate : ℕ) → List LabelledEvent → (s : ℕ) → Choice → Option ℕ → Option Arrival → Option LabelledEvent
head_sent rate g s c (Some n) (Some a) = Some (record {
  label = n;
  what = Sent (record { class = c.class; len = a.len; rule = c.rule; start = s; end = end_of rate (link rate (unlabelled g)) s a.len });
})
head_sent rate g s c None a = None
head_sent rate g s c (Some n) None = None

abbrev pub sent_at : (rate : ℕ) → List LabelledEvent → (s : ℕ) → Choice → Option LabelledEvent
sent_at rate g s c = head_sent rate g s c (slice_get (labels c.class g) 0) (head c.class (unlabelled g))

-- what comes next, given the next arrival and the least moment at which something may be sent: an arrival up to that moment is
-- offered first
abbrev pub due_from : Policy → (rate seed : ℕ) → List LabelledEvent → Option Arrival → Option ℕ → Option LabelledEvent
due_from p rate seed g None None = None
due_from p rate seed g (Some a) None = Some (offer_of p seed g a)
due_from p rate seed g None (Some s) = sent_at rate g s (p.pick (unlabelled g) s)
due_from p rate seed g (Some a) (Some s) =
    if nat_le a.at s then Some (offer_of p seed g a) else sent_at rate g s (p.pick (unlabelled g) s)

-- the event that follows a history, or None at the end
abbrev pub due : Policy → (rate seed : ℕ) → List Arrival → List LabelledEvent → Option LabelledEvent
due p rate seed arrived g =
    due_from p rate seed g (slice_get arrived (offered (unlabelled g)))
    (first_start p (link rate (unlabelled g)).free (unlabelled g) p.classes)

-- each event is the one that was due: these are the first events of the play
abbrev pub AreDue : Policy → (rate seed : ℕ) → List Arrival → List LabelledEvent → Type 0
AreDue p rate seed arrived [] = Unit {0}
AreDue p rate seed arrived (e ∷ g) = (due p rate seed arrived g ≡ Some e) × AreDue p rate seed arrived g

-- the play of these arrivals: each event was due, and none is due after the last
pub record IsPlay (p : Policy) (rate seed : ℕ) (arrived : List Arrival) (g : List LabelledEvent) : Type 0 where
  pub events : AreDue p rate seed arrived g
  pub done : due p rate seed arrived g ≡ None

-- the play, computed event by event, for at most `turns` events
abbrev pub play_on : (turns : ℕ) → Policy → (rate seed : ℕ) → List Arrival → List LabelledEvent → List LabelledEvent
play_on zero p rate seed arrived g = g
play_on (suc turns) p rate seed arrived g =
    elim (due p rate seed arrived g) [ None ↦ g | Some e ↦ play_on turns p rate seed arrived (e ∷ g) ]

abbrev pub play : Policy → (rate seed : ℕ) → List Arrival → List LabelledEvent
play p rate seed arrived = play_on (2 * length arrived) p rate seed arrived []
