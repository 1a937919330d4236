-- Which class goes first.
use Rattle.std.specs.Prelude.{◌≡◌, ◌≤◌, ◌+◌, ◌-◌, ℕ, nat_lt, true, List, length, get_or, if◌then◌else◌}
use Rattle.altq_model.specs.Play.{IsOneOf}
use Rattle.cbq_model.specs.declared.CbqClass.{CbqClass}
use Rattle.cbq_model.specs.Choice.{Situation, may, rounds}
use Rattle.cbq_model.specs.Tree.{class_of, numbers}

-- it waits, and may send its head at t
pub record IsCandidate (cs : List CbqClass) (rate : ℕ) (s : Situation) (t c : ℕ) : Type 0 where
  pub there : IsOneOf c (numbers cs)
  pub may : may cs rate s c t ≡ true

-- how many of n classes stand before c in a ring that begins at `start`: those from there on, and at the end of the file those from
-- its beginning
abbrev pub place_in : (n start c : ℕ) → ℕ
place_in n start c = if nat_lt c start then (n - start) + c else c - start

-- the place of a class in the ring of its priority
abbrev pub place : List CbqClass → Situation → (c : ℕ) → ℕ
place cs s c = place_in (length cs) (get_or s.cursors (class_of cs c).priority 0) c

pub record IsFirst (cs : List CbqClass) (rate : ℕ) (s : Situation) (t c : ℕ) : Type 0 where
  pub candidate : IsCandidate cs rate s t c
  pub greatest : (d : ℕ) → IsCandidate cs rate s t d → (class_of cs d).priority ≤ (class_of cs c).priority
  pub fewest : (d : ℕ) → IsCandidate cs rate s t d → (class_of cs d).priority ≡ (class_of cs c).priority → rounds cs rate s c ≤ rounds cs rate s d
  pub earliest : (d : ℕ) → IsCandidate cs rate s t d → (class_of cs d).priority ≡ (class_of cs c).priority → rounds cs rate s d ≡ rounds cs rate s c
      → place cs s c ≤ place cs s d
