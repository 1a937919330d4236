-- Classes of which one holds packets: what is held, and the histories that it stands for.
use Rattle.std.specs.Prelude.{◌≡◌, ◌≤◌, ◌<◌, ◌+◌, ℕ, List, [], ◌∷◌, length}
use Rattle.altq_model.specs.declared.Rule.TheVariants.{Share}
use Rattle.altq_model.specs.History.{LabelledEvent, unlabelled}
use Rattle.altq_model.specs.Play.{Policy}
use Rattle.altq_model.specs.Policies.{strict}
use Rattle.leaf_queue.specs.declared.node.Entry.{Entry}
use Rattle.leaf_queue.specs.Queue.{QueueEvent, Saying}
use Rattle.discipline.specs.declared.pick.Pick.{Pick}
use Rattle.discipline.specs.declared.pick.Pick.TheVariants.{Send, Empty}
use Rattle.discipline.specs.Moments.{IsOrderly}
use Rattle.class_rows.specs.Rows.{ClassQueuesView, RowRepresents, answering, classes_in, list_in}

-- what contracts see of it
pub record Single (Q : Type 0) : Type 0 where
  pub class : ℕ
  pub rows : ClassQueuesView Q

-- the class is in the row, and no other holds packets
pub record IsSingle {Q : Type 0} (class : ℕ) (d : ClassQueuesView Q) : Type 0 where
  pub classes : classes_in d ≡ class ∷ []
  pub low : d.first ≤ class
  pub high : class < d.first + length d.queues
  pub others : (c : ℕ) → (class ≡ c → ⊥) → list_in d c ≡ []

-- the head of its list is due
abbrev pub due_in : (class : ℕ) → List Entry → Pick
due_in class [] = Empty
due_in class (x ∷ xs) = Send x.ticket class x.len Share

abbrev pub due_of : {Q : Type 0} → Single Q → Pick
due_of d = due_in d.class (list_in d.rows d.class)

-- its policy: one queue
abbrev pub policy_of : {Q : Type 0} → (Q → Saying) → Single Q → Policy
policy_of says d = strict (d.class ∷ []) Share (answering says d.rows)

-- it stands for a history: its classes are told it, and it is in order
pub record Represents {Q : Type 0} (stands : Q → List QueueEvent → Type 0) (says : Q → Saying) (d : Single Q) (h : List LabelledEvent) : Type 0 where
  pub recorded : RowRepresents stands d.rows h
  pub orderly : IsOrderly (policy_of says d) (unlabelled h)
