-- What one class has after a history: its packets, its real-time count and its openings.
use Rattle.std.specs.Prelude.{◌==◌, ◌+◌, ℕ, Bool, true, false, List, [], ◌∷◌, ◌++◌, drop, Option, None, Some, if◌then◌else◌}
use Rattle.play_base.specs.Units.{units}
use Rattle.runtime_curve.specs.declared.Opening.{Opening}
use Rattle.runtime_curve.specs.Opening.{opening}
use Rattle.hfsc_model.specs.Event.{HfscHistory, Enqueued, Sent}

-- a packet that waits
pub record Waiting : Type 0 where
  pub at : ℕ
  pub len : ℕ

-- the packets that wait, the head first; the units that were sent by real time; and the openings, the newest first
pub record Leaf : Type 0 where
  pub waiting : List Waiting
  pub count : ℕ
  pub openings : List Opening

abbrev pub new_leaf : Leaf
new_leaf = record { waiting = []; count = 0; openings = [] }

-- a packet kept while nothing waits opens the class, with the count that it has then
abbrev pub opened : List Waiting → ℕ → ℕ → List Opening → List Opening
opened [] at count os = opening at count ∷ os
opened (w ∷ ws) at count os = os

abbrev pub after_kept : ℕ → ℕ → Leaf → Leaf
after_kept at len l = record {
  waiting = l.waiting ++ record { at = at; len = len } ∷ [];
  count = l.count;
  openings = opened l.waiting at l.count l.openings;
}

-- only what is sent by real time counts
abbrev pub after_sent : ℕ → Bool → Leaf → Leaf
after_sent len real l = record {
  waiting = drop 1 l.waiting;
  count = if real then l.count + units len else l.count;
  openings = l.openings;
}

abbrev pub leaf : HfscHistory → ℕ → Leaf
leaf [] c = new_leaf
leaf (Enqueued d at len ∷ h) c = if d == c then after_kept at len (leaf h c) else leaf h c
leaf (Sent d len real start ∷ h) c = if d == c then after_sent len real (leaf h c) else leaf h c

abbrev pub is_waiting : List Waiting → Bool
is_waiting [] = false
is_waiting (w ∷ ws) = true

-- the length of the head
abbrev pub head_len : List Waiting → Option ℕ
head_len [] = None
head_len (w ∷ ws) = Some w.len
