-- A queue and its list: what both are after an offer and after the head leaves.
use Rattle.std.specs.Prelude.{◌≤◌, ℕ, List, [], ◌∷◌, ◌++◌, if◌then◌else◌, slice_set}
use Rattle.altq_model.specs.declared.Verdict.{Verdict}
use Rattle.altq_model.specs.History.{is_kept}
use Rattle.leaf_queue.specs.declared.node.Entry.{Entry}
use Rattle.leaf_queue.specs.Lists.{list_of, precs_in}
use Rattle.leaf_queue.specs.Queue.{QueueEvent, Dequeued, waiting_of}

-- the lists after an offer to a place
abbrev pub after_verdict : Verdict → (place : ℕ) → Entry → List (List Entry) → List (List Entry)
after_verdict v place x lists = if is_kept v then slice_set lists place (list_of lists place ++ x ∷ []) else lists

-- what a queue was told where the head of this list leaves
abbrev pub gone : (now : ℕ) → List Entry → List QueueEvent → List QueueEvent
gone now [] q = q
gone now (x ∷ xs) q = Dequeued now x.prec (waiting_of (precs_in xs)) ∷ q

-- each precedence is 0, 1 or 2
abbrev pub HasPrecs : List Entry → Type 0
HasPrecs [] = Unit {0}
HasPrecs (x ∷ xs) = (x.prec ≤ 2) × HasPrecs xs
