-- What happened in a play. A history is a list of events, the newest first: `e ∷ h` is "h, and then e".
use Rattle.std.specs.Prelude.{◌==◌, ◌&&◌, ◌+◌, ℕ, Bool, true, false, List, [], ◌∷◌, ◌++◌, drop, slice_get, if◌then◌else◌}
use Rattle.std.specs.declared.option.Option.{Option}
use Rattle.altq_model.specs.declared.Rule.{Rule}
use Rattle.altq_model.specs.declared.Verdict.{Verdict}
use Rattle.altq_model.specs.declared.Verdict.TheVariants.{Keep, Mark, Drop}
use Rattle.altq_model.specs.declared.Fate.{Fate}
use Rattle.altq_model.specs.declared.Fate.TheVariants

-- a packet that comes to its class: its length in bytes, its precedence, its arrival in nanoseconds
pub record Arrival : Type 0 where
  pub class : ℕ
  pub len : ℕ
  pub prec : ℕ
  pub at : ℕ

-- a seed, and how many of its random words were drawn
pub record DrawnWords : Type 0 where
  pub seed : ℕ
  pub drawn : ℕ

-- how a queue answers an offer: its verdict, and how many random words it drew for it
pub record Answer : Type 0 where
  pub verdict : Verdict
  pub took : ℕ

-- the sending of a class's head
pub record Sending : Type 0 where
  pub class : ℕ
  pub len : ℕ
  pub rule : Rule
  pub start : ℕ
  pub end : ℕ

-- an offer of a packet to its class's queue, with the random words as they were before it, or a sending
pub data Event : Type 0 where
  Offered : Arrival → DrawnWords → Answer → Event
  Sent : Sending → Event

-- an event and the label of its packet: its number in a play, its ticket in a discipline. No rule reads labels
pub record LabelledEvent : Type 0 where
  pub label : ℕ
  pub what : Event

-- the events, whatever their labels are
abbrev pub unlabelled : List LabelledEvent → List Event
unlabelled [] = []
unlabelled (e ∷ g) = e.what ∷ unlabelled g

-- how many packets were offered
abbrev pub offered : List Event → ℕ
offered [] = 0
offered (Offered a w v ∷ h) = offered h + 1
offered (Sent s ∷ h) = offered h

-- how many words were drawn
abbrev pub drawn : List Event → ℕ
drawn [] = 0
drawn (Offered a w v ∷ h) = drawn h + v.took
drawn (Sent s ∷ h) = drawn h

-- a packet with this verdict waits until it is sent
abbrev pub is_kept : Verdict → Bool
is_kept Keep = true
is_kept Mark = true
is_kept (Drop r) = false

-- it leaves marked
abbrev pub is_mark : Verdict → Bool
is_mark Keep = false
is_mark Mark = true
is_mark (Drop r) = false

-- a class's waiting packets after one more was offered, or after a sending
abbrev pub with_offer : {X : Type 0} → Bool → Verdict → X → List X → List X
with_offer mine v x xs = if is_kept v && mine then xs ++ x ∷ [] else xs

abbrev pub without_head : {X : Type 0} → Bool → List X → List X
without_head mine xs = if mine then drop 1 xs else xs

-- the packets that wait in a class, in order of number: those that were kept and not sent
abbrev pub waiting : (c : ℕ) → List Event → List Arrival
waiting c [] = []
waiting c (Offered a w v ∷ h) = with_offer (a.class == c) v.verdict a (waiting c h)
waiting c (Sent s ∷ h) = without_head (s.class == c) (waiting c h)

-- the head: the first packet that waits in a class
abbrev pub head : (c : ℕ) → List Event → Option Arrival
head c h = slice_get (waiting c h) 0

-- the labels of what waits in a class, in the same order
abbrev pub labels_after : (c label : ℕ) → Event → List ℕ → List ℕ
labels_after c label (Offered a w v) ns = with_offer (a.class == c) v.verdict label ns
labels_after c label (Sent s) ns = without_head (s.class == c) ns

abbrev pub labels : (c : ℕ) → List LabelledEvent → List ℕ
labels c [] = []
labels c (e ∷ g) = labels_after c e.label e.what (labels c g)

-- the newest offer under this label was marked
abbrev pub marked_after : (n label : ℕ) → Event → Bool → Bool
marked_after n label (Offered a w v) before = if label == n then is_mark v.verdict else before
marked_after n label (Sent s) before = before

abbrev pub was_marked : (n : ℕ) → List LabelledEvent → Bool
was_marked n [] = false
was_marked n (e ∷ g) = marked_after n e.label e.what (was_marked n g)

-- a decision: the number of a packet, and its fate
abbrev pub Decision : Type 0
Decision = ℕ × Fate

-- what an offer with this verdict decides of a packet: a drop, or nothing yet
abbrev pub dropped_by : Verdict → ℕ → List Decision
dropped_by Keep n = []
dropped_by Mark n = []
dropped_by (Drop r) n = (n, TheVariants.Dropped r) ∷ []

abbrev pub decided : (n : ℕ) → Event → List Decision
decided n (Offered a w v) = dropped_by v.verdict n
decided n (Sent s) = (n, TheVariants.Sent s.start s.end s.rule) ∷ []

-- the journal: the decisions in their order, a drop at its offer and a sending at its start
abbrev pub journal : List LabelledEvent → List Decision
journal [] = []
journal (e ∷ g) = journal g ++ decided e.label e.what
