-- What RED says after what it was asked and told, the newest first. The average moves with every packet that is offered, dropped
-- ones too.
use Rattle.std.specs.Prelude.{◌≡◌, ℕ, ◌*◌, ◌^◌, ◌==◌, List, [], ◌∷◌, if◌then◌else◌, ℤ, negsuc}
use Rattle.altq_model.specs.History.{Answer, DrawnWords}
use Rattle.leaf_queue.specs.declared.rule.Waiting.{Waiting}
use Rattle.leaf_queue.specs.Queue.{QueueEvent, Enqueued, Dequeued, Saying}
use Rattle.leaf_queue.specs.Words.{word}
use Rattle.red_average.specs.declared.ruling.Thresholds.{Thresholds}
use Rattle.red_average.specs.Average.{moved}
use Rattle.red_average.specs.Ruling.{Ruled, ruled}

-- 5 and 15 packets
abbrev pub thresholds : Thresholds
thresholds = record { low = 5 * 2 ^ 21; high = 15 * 2 ^ 21 }

-- the start of the packet that last left the queue empty, 0 if there is none
abbrev pub idle_of : List QueueEvent → ℕ
idle_of [] = 0
idle_of (Enqueued now waiting prec w v ∷ q) = idle_of q
idle_of (Dequeued now prec waiting ∷ q) = if waiting.all == 0 then now else idle_of q

abbrev pub average_of : (step : ℕ) → List QueueEvent → ℕ
average_of step [] = 0
average_of step (Enqueued now waiting prec w v ∷ q) = moved step (idle_of q) now waiting.all (average_of step q)
average_of step (Dequeued now prec waiting ∷ q) = average_of step q

-- what follows for a packet, by what waits, the average and the count before it, and the next random word
abbrev pub ruling_at : (step limit idle average : ℕ) → (count : ℤ) → (now : ℕ) → Waiting → DrawnWords → Ruled
ruling_at step limit idle a c now waiting w =
    ruled thresholds (waiting.all == limit) (moved step idle now waiting.all a) c (word w.seed w.drawn)

-- the count after the last packet that was offered, -1 at first
abbrev pub count_of : (step limit : ℕ) → List QueueEvent → ℤ
count_of step limit [] = negsuc 0
count_of step limit (Enqueued now waiting prec w v ∷ q) =
    (ruling_at step limit (idle_of q) (average_of step q) (count_of step limit q) now waiting w).ruling.count
count_of step limit (Dequeued now prec waiting ∷ q) = count_of step limit q

abbrev pub answer_of : Ruled → Answer
answer_of r = record { verdict = r.ruling.verdict; took = r.took }

abbrev pub red_says : (step limit : ℕ) → Saying
red_says step limit q now waiting prec w =
    answer_of (ruling_at step limit (idle_of q) (average_of step q) (count_of step limit q) now waiting w)

-- these are the average, the count and the beginning of the idle time after a history
pub record Represents (step limit a : ℕ) (c : ℤ) (i : ℕ) (q : List QueueEvent) : Type 0 where
  pub average : a ≡ average_of step q
  pub count : c ≡ count_of step limit q
  pub idle : i ≡ idle_of q
