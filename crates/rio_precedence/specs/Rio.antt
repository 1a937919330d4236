-- What RIO says after what it was asked and told, the newest first (Clark and Fang 1998, "Explicit allocation of best-effort packet
-- delivery service"). The average of precedence j is over the packets of precedence at most j; the count of a precedence is its own.
use Rattle.std.specs.Prelude.{◌≡◌, ◌≤◌, ℕ, ◌==◌, nat_le, List, [], ◌∷◌, if◌then◌else◌, ℤ, pos, negsuc, slice_index, slice_index_or}
use Rattle.altq_model.specs.History.{DrawnWords}
use Rattle.leaf_queue.specs.declared.rule.Waiting.{Waiting}
use Rattle.leaf_queue.specs.Queue.{QueueEvent, Enqueued, Dequeued, Saying}
use Rattle.leaf_queue.specs.Words.{word}
use Rattle.red_average.specs.Average.{moved}
use Rattle.red_average.specs.Ruling.{Ruled, ruled}
use Rattle.red_average.specs.Red.{answer_of}
use Rattle.rio_precedence.specs.Precedence.{seen, thresholds_of}

-- the beginning of the idle time after a packet of precedence prec left
abbrev pub idle_after : (j prec now : ℕ) → Waiting → (idle : ℕ) → ℕ
idle_after j prec now waiting idle = if nat_le prec j then (if seen j waiting == 0 then now else idle) else idle

-- the start of the packet of precedence at most j that last left none of them, 0 if there is none
abbrev pub idle_of : (j : ℕ) → List QueueEvent → ℕ
idle_of j [] = 0
idle_of j (Enqueued now waiting prec w v ∷ q) = idle_of j q
idle_of j (Dequeued now prec waiting ∷ q) = idle_after j prec now waiting (idle_of j q)

-- the average after a packet of precedence prec was offered
abbrev pub average_after : (step j prec now : ℕ) → Waiting → (idle a : ℕ) → ℕ
average_after step j prec now waiting idle a = if nat_le prec j then moved step idle now (seen j waiting) a else a

abbrev pub average_of : (step j : ℕ) → List QueueEvent → ℕ
average_of step j [] = 0
average_of step j (Enqueued now waiting prec w v ∷ q) = average_after step j prec now waiting (idle_of j q) (average_of step j q)
average_of step j (Dequeued now prec waiting ∷ q) = average_of step j q

-- what follows for a packet, by what waits, the average and the count of its precedence, and the next random word: the queue is full
-- by all that wait
abbrev pub ruling_at : (limit prec average : ℕ) → (count : ℤ) → Waiting → DrawnWords → Ruled
ruling_at limit prec a c waiting w = ruled (thresholds_of prec) (waiting.all == limit) a c (word w.seed w.drawn)

-- the count after the last packet of this precedence that was offered, -1 at first
abbrev pub count_of : (step limit j : ℕ) → List QueueEvent → ℤ
count_of step limit j [] = negsuc 0
count_of step limit j (Enqueued now waiting prec w v ∷ q) =
    if j == prec then (ruling_at limit prec (average_after step prec prec now waiting (idle_of prec q) (average_of step prec q))
    (count_of step limit prec q) waiting w).ruling.count
    else count_of step limit j q
count_of step limit j (Dequeued now prec waiting ∷ q) = count_of step limit j q

abbrev pub rio_says : (step limit : ℕ) → Saying
rio_says step limit q now waiting prec w =
    answer_of (ruling_at limit prec (average_after step prec prec now waiting (idle_of prec q) (average_of step prec q))
    (count_of step limit prec q) waiting w)

-- these are the averages, the counts and the beginnings of the idle times after a history
pub record Represents (step limit : ℕ) (averages : List ℕ) (counts : List ℤ) (idles : List ℕ) (q : List QueueEvent) : Type 0 where
  pub average : (j : ℕ) → j ≤ 2 → slice_index averages j ≡ average_of step j q
  pub count : (j : ℕ) → j ≤ 2 → slice_index_or counts j (pos 0) ≡ count_of step limit j q
  pub idle : (j : ℕ) → j ≤ 2 → slice_index idles j ≡ idle_of j q
