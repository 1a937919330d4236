-- What a queue is asked and told in a history, and what queues answer.
use Rattle.std.specs.Prelude.{◌==◌, ◌+◌, ◌-◌, ℕ, nat_le, Bool, List, [], ◌∷◌, length, if◌then◌else◌, slice_get, unwrap_or}
use Rattle.altq_model.specs.declared.Reason.TheVariants.{Full}
use Rattle.altq_model.specs.declared.Verdict.TheVariants.{Keep, Drop}
use Rattle.altq_model.specs.History.{Arrival, Answer, DrawnWords, Event, Offered, Sent, waiting}
use Rattle.altq_model.specs.Policies.{Answering}
use Rattle.leaf_queue.specs.declared.rule.Waiting.{Waiting}

-- it was asked of a packet at a moment, with what waited and the random words as they were, and answered; or it was told that a
-- packet left, and what waits after it
pub data QueueEvent : Type 0 where
  Enqueued : (now : ℕ) → Waiting → (prec : ℕ) → DrawnWords → Answer → QueueEvent
  Dequeued : (now prec : ℕ) → Waiting → QueueEvent

-- how a queue answers an offer: by what it was asked and told, the newest first, the moment, what waits, the precedence and the
-- random words
abbrev pub Saying : Type 0
Saying = List QueueEvent → (now : ℕ) → Waiting → (prec : ℕ) → DrawnWords → Answer

-- a queue without RED or RIO drops exactly where its waiting packets equal its limit
abbrev pub tail_says : (limit : ℕ) → Saying
tail_says limit q now waiting prec w = record { verdict = if waiting.all == limit then Drop Full else Keep; took = 0 }

-- how many of the precedences are at most p
abbrev pub at_most : (p : ℕ) → List ℕ → ℕ
at_most p [] = 0
at_most p (x ∷ xs) = (if nat_le x p then 1 else 0) + at_most p xs

-- how many wait, given their precedences
abbrev pub waiting_of : List ℕ → Waiting
waiting_of precs = record { best = at_most 0 precs; middle = at_most 1 precs; all = length precs }

abbrev pub precs_of : List Arrival → List ℕ
precs_of [] = []
precs_of (a ∷ ws) = a.prec ∷ precs_of ws

abbrev pub after_asked : (mine : Bool) → Arrival → DrawnWords → Answer → List Arrival → List QueueEvent → List QueueEvent
after_asked mine a w v ws q = if mine then Enqueued a.at (waiting_of (precs_of ws)) a.prec w v ∷ q else q

-- the head of these leaves
abbrev pub head_gone : (now : ℕ) → List Arrival → List QueueEvent → List QueueEvent
head_gone now [] q = q
head_gone now (a ∷ ws) q = Dequeued now a.prec (waiting_of (precs_of ws)) ∷ q

abbrev pub after_gone : (mine : Bool) → (now : ℕ) → List Arrival → List QueueEvent → List QueueEvent
after_gone mine now ws q = if mine then head_gone now ws q else q

-- what the queue of a class is asked and told in a history
abbrev pub told_of : (c : ℕ) → List Event → List QueueEvent
told_of c [] = []
told_of c (Offered a w v ∷ h) = after_asked (a.class == c) a w v (waiting c h) (told_of c h)
told_of c (Sent s ∷ h) = after_gone (s.class == c) s.start (waiting c h) (told_of c h)

-- after a history a packet is answered by one queue, whatever its class
abbrev pub by_queue : Saying → Answering
by_queue say h w a = say (told_of a.class h) a.at (waiting_of (precs_of (waiting a.class h))) a.prec w

-- the queue at a place in a list; what has no place there is answered as the first is
abbrev pub queue_at : List Saying → (k : ℕ) → Saying
queue_at [] k = λ q now waiting prec w. record { verdict = Keep; took = 0 }
queue_at (s ∷ says) k = unwrap_or (slice_get (s ∷ says) k) s

-- after a history a packet is answered by its class's queue, the classes being a first one and those that follow it
abbrev pub by_queues : (first : ℕ) → List Saying → Answering
by_queues first says h w a = by_queue (queue_at says (a.class - first)) h w a
