-- The classes of a discipline in a row, each with its queue and the list of its packets. Those that may hold packets are the
-- queue classes.
use Rattle.std.specs.Prelude.{◌≡◌, ◌≤◌, ◌<◌, ◌==◌, ◌+◌, ℕ, Bool, List, [], ◌∷◌, length, map, if◌then◌else◌}
use Rattle.altq_model.specs.declared.Verdict.{Verdict}
use Rattle.altq_model.specs.History.{DrawnWords, Event, Offered, LabelledEvent, unlabelled, waiting}
use Rattle.altq_model.specs.Policies.{Answering}
use Rattle.leaf_queue.specs.declared.node.Entry.{Entry}
use Rattle.leaf_queue.specs.Lists.{Listed}
use Rattle.leaf_queue.specs.Words.{Drew}
use Rattle.leaf_queue.specs.Queue.{QueueEvent, Saying, by_queues, told_of}
use Rattle.discipline.specs.Laws.{Shows, arrival_with, seen, seen_of}
use Rattle.class_rows.specs.Leaf.{HasPrecs}

-- the numbers of the queue classes of a list whose first class has the number c
abbrev pub holding : (c : ℕ) → List Bool → List ℕ
holding c [] = []
holding c (h ∷ hs) = if h then c ∷ holding (c + 1) hs else holding (c + 1) hs

-- the list of a class, where the first of the lists is that of class c
abbrev pub list_at : (c : ℕ) → List (List Entry) → (class : ℕ) → List Entry
list_at c [] class = []
list_at c (xs ∷ lists) class = if c == class then xs else list_at (c + 1) lists class

-- its limit
abbrev pub limit_at : (c : ℕ) → List ℕ → (class : ℕ) → ℕ
limit_at c [] class = 0
limit_at c (m ∷ limits) class = if c == class then m else limit_at (c + 1) limits class

-- the sum of limits
abbrev pub limits_sum : List ℕ → ℕ
limits_sum [] = 0
limits_sum (m ∷ limits) = m + limits_sum limits

-- the most packets of a class: its queue's limit where it is a queue class, else none
abbrev pub most_of : {Q : Type 0} → (Q → ℕ) → Q → Bool → ℕ
most_of most q h = if h then most q else 0

abbrev pub limits_of : {Q : Type 0} → (Q → ℕ) → List Q → List Bool → List ℕ
limits_of most [] hs = []
limits_of most (q ∷ queues) [] = []
limits_of most (q ∷ queues) (h ∷ hs) = most_of most q h ∷ limits_of most queues hs

-- what contracts see: the number of the first class, the queues, which classes are queue classes, and the lists
pub record ClassQueuesView (Q : Type 0) : Type 0 where
  pub first : ℕ
  pub queues : List Q
  pub holds : List Bool
  pub listed : Listed

-- the list of a class
abbrev pub list_in : {Q : Type 0} → ClassQueuesView Q → (class : ℕ) → List Entry
list_in d = list_at d.first d.listed.lists

-- its limit
abbrev pub limit_in : {Q : Type 0} → (Q → ℕ) → ClassQueuesView Q → (class : ℕ) → ℕ
limit_in most d = limit_at d.first (limits_of most d.queues d.holds)

-- the queue classes
abbrev pub classes_in : {Q : Type 0} → ClassQueuesView Q → List ℕ
classes_in d = holding d.first d.holds

-- a number that is none of the classes'
abbrev pub IsOther : {Q : Type 0} → ClassQueuesView Q → (class : ℕ) → Type 0
IsOther d class = d.first ≤ class → class < d.first + length d.queues → ⊥

-- what the queues answer, after a history
abbrev pub answering : {Q : Type 0} → (Q → Saying) → ClassQueuesView Q → Answering
answering says d = by_queues d.first (map says d.queues)

-- no list is longer than it may be
abbrev pub Fit : {Q : Type 0} → (Q → ℕ) → List Q → List Bool → List (List Entry) → Type 0
Fit most [] [] [] = Unit {0}
Fit most [] [] (xs ∷ lists) = ⊥
Fit most [] (h ∷ hs) lists = ⊥
Fit most (q ∷ queues) [] lists = ⊥
Fit most (q ∷ queues) (h ∷ hs) [] = ⊥
Fit most (q ∷ queues) (h ∷ hs) (xs ∷ lists) = (length xs ≤ most_of most q h) × HasPrecs xs × Fit most queues hs lists

-- there is room for as many as the limits of the queue classes allow
pub record IsRow {Q : Type 0} (most : Q → ℕ) (first room : ℕ) (queues : List Q) (holds : List Bool) (l : Listed) : Type 0 where
  pub fit : Fit most queues holds l.lists
  pub sum : room ≡ limits_sum (limits_of most queues holds)
  pub there : room ≤ l.room
  pub bound : room ≤ 2560000
  pub count_bound : length queues ≤ 256

-- each list, the first being that of class c, is what waits in its class, and each queue was told what the history tells it
abbrev pub RowsStand : {Q : Type 0} → (Q → List QueueEvent → Type 0) → (c : ℕ) → List Q → List (List Entry) → List Event → Type 0
RowsStand stands c [] [] b = Unit {0}
RowsStand stands c [] (xs ∷ lists) b = ⊥
RowsStand stands c (q ∷ queues) [] b = ⊥
RowsStand stands c (q ∷ queues) (xs ∷ lists) b =
    (seen xs ≡ seen_of (waiting c b)) × stands q (told_of c b) × RowsStand stands (c + 1) queues lists b

-- the row stands for a history
pub record RowRepresents {Q : Type 0} (stands : Q → List QueueEvent → Type 0) (d : ClassQueuesView Q) (h : List LabelledEvent) : Type 0 where
  pub shown : (c : ℕ) → Shows c (list_in d c) h
  pub rows : RowsStand stands d.first d.queues d.listed.lists (unlabelled h)

-- after a history an offer was answered by the class's queue, and the row stands for the history with it
pub record Answers {Q : Type 0} (stands : Q → List QueueEvent → Type 0) (says : Q → Saying) (old new : ClassQueuesView Q) (h : List LabelledEvent)
    (class : ℕ) (x : Entry) (now : ℕ) (before : DrawnWords) (v : Verdict) (after : DrawnWords) : Type 0 where
  pub verdict : v ≡ (answering says old (unlabelled h) before (arrival_with class x.len x.prec now)).verdict
  pub words : Drew before after (answering says old (unlabelled h) before (arrival_with class x.len x.prec now)).took
  pub recorded : RowRepresents stands new (record {
    label = x.ticket.0;
    what = Offered (arrival_with class x.len x.prec now) before (answering says old (unlabelled h) before (arrival_with class x.len x.prec now));
  } ∷ h)

-- the same classes with queues that answer alike
pub record SameRow {Q : Type 0} (most : Q → ℕ) (says : Q → Saying) (old new : ClassQueuesView Q) : Type 0 where
  pub first : new.first ≡ old.first
  pub holds : new.holds ≡ old.holds
  pub count : length new.queues ≡ length old.queues
  pub limits : limit_in most new ≡ limit_in most old
  pub answers : answering says new ≡ answering says old

-- a queue that was asked and told nothing, with a limit that is allowed
pub record IsNewQueue {Q : Type 0} (stands : Q → List QueueEvent → Type 0) (most : Q → ℕ) (q : Q) : Type 0 where
  pub recorded : stands q []
  pub least : 1 ≤ most q
  pub most_allowed : most q ≤ 10000
