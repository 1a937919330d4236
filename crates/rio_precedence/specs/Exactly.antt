-- The averages without rounding (Floyd and Jacobson 1993, section 4): a step makes the average 511/512 of itself and 1/512 of the
-- waiting packets. After n steps it is a fraction of 512^n, in packets times 2^21.
use Rattle.std.specs.Prelude.{ℕ, zero, suc, ◌+◌, ◌*◌, ◌^◌, ◌==◌, nat_le, List, [], ◌∷◌, if◌then◌else◌}
use Rattle.leaf_queue.specs.declared.rule.Waiting.{Waiting}
use Rattle.leaf_queue.specs.Queue.{QueueEvent, Enqueued, Dequeued}
use Rattle.red_average.specs.Average.{idle_steps}
use Rattle.red_average.specs.Red as red
use Rattle.rio_precedence.specs.Precedence.{seen}
use Rattle.rio_precedence.specs.Rio as rio

-- top / 512^steps
pub record Exact : Type 0 where
  pub top : ℕ
  pub steps : ℕ

abbrev pub exact_zero : Exact
exact_zero = record { top = 0; steps = 0 }

-- one step where `q` packets wait: 511/512 · top/512^steps + 1/512 · 2^21 · q
abbrev pub exact_stepped : (q : ℕ) → Exact → Exact
exact_stepped q e = record { top = 511 * e.top + 2 ^ 21 * q * 512 ^ e.steps; steps = e.steps + 1 }

-- steps with no packet waiting
abbrev pub exact_idled : (steps : ℕ) → Exact → Exact
exact_idled zero e = e
exact_idled (suc m) e = exact_idled m (exact_stepped 0 e)

-- after an arrival that finds `q` packets waiting: one step, or where none waits one for each whole `step` since `idle`
abbrev pub exact_moved : (step idle now q : ℕ) → Exact → Exact
exact_moved step idle now q e = if q == 0 then exact_idled (idle_steps step idle now) e else exact_stepped q e

-- RED's, which moves with every packet
abbrev pub exact_of : (step : ℕ) → List QueueEvent → Exact
exact_of step [] = exact_zero
exact_of step (Enqueued now waiting prec w v ∷ q) = exact_moved step (red.idle_of q) now waiting.all (exact_of step q)
exact_of step (Dequeued now prec waiting ∷ q) = exact_of step q

-- RIO's of precedence j, which moves with the packets of precedence at most j
abbrev pub exact_after : (step j prec now : ℕ) → Waiting → (idle : ℕ) → Exact → Exact
exact_after step j prec now waiting idle e = if nat_le prec j then exact_moved step idle now (seen j waiting) e else e

abbrev pub exact_of_precedence : (step j : ℕ) → List QueueEvent → Exact
exact_of_precedence step j [] = exact_zero
exact_of_precedence step j (Enqueued now waiting prec w v ∷ q) =
    exact_after step j prec now waiting (rio.idle_of j q) (exact_of_precedence step j q)
exact_of_precedence step j (Dequeued now prec waiting ∷ q) = exact_of_precedence step j q
