-- Classes in a row, of which the first that is not empty is sent: what it holds, and the histories that it stands for.
use Rattle.std.specs.Prelude.{◌≡◌, ◌≤◌, ◌+◌, ℕ, zero, suc, true, List, [], ◌∷◌, length, replicate}
use Rattle.altq_model.specs.declared.Rule.{Rule}
use Rattle.altq_model.specs.History.{LabelledEvent, unlabelled}
use Rattle.altq_model.specs.Policies.{strict}
use Rattle.altq_model.specs.Play.{Policy}
use Rattle.leaf_queue.specs.declared.node.Entry.{Entry}
use Rattle.leaf_queue.specs.Queue.{QueueEvent, Saying}
use Rattle.discipline.specs.declared.pick.Pick.{Pick}
use Rattle.discipline.specs.declared.pick.Pick.TheVariants.{Send, Empty}
use Rattle.discipline.specs.Moments.{IsOrderly}
use Rattle.plain_disciplines.specs.Plain.{IsPlain}
use Rattle.class_rows.specs.Rows.{ClassQueuesView, RowRepresents, answering, classes_in, list_in}

-- `count` classes from c on
abbrev pub classes_from : (c count : ℕ) → List ℕ
classes_from c zero = []
classes_from c (suc n) = c ∷ classes_from (c + 1) n

-- the head of the first list that is not empty is due
abbrev pub pick_head : (c : ℕ) → Rule → List Entry → Pick → Pick
pick_head c rule [] other = other
pick_head c rule (x ∷ xs) other = Send x.ticket c x.len rule

abbrev pub first_pick : Rule → (ℕ → List Entry) → List ℕ → Pick
first_pick rule lists [] = Empty
first_pick rule lists (c ∷ cs) = pick_head c rule (lists c) (first_pick rule lists cs)

-- what contracts see of it
pub record Ordered (Q : Type 0) : Type 0 where
  pub rule : Rule
  pub rows : ClassQueuesView Q

-- every class is a queue class, and the classes fit 32 bits
pub record IsStrict {Q : Type 0} (d : ClassQueuesView Q) : Type 0 where
  pub holds : d.holds ≡ replicate (length d.queues) true
  pub first_bound : d.first ≤ 1000000
  pub count_bound : length d.queues ≤ 256

-- what is due
abbrev pub strict_due : {Q : Type 0} → Ordered Q → Pick
strict_due d = first_pick d.rule (list_in d.rows) (classes_in d.rows)

-- its policy
abbrev pub strict_of : {Q : Type 0} → (Q → Saying) → Ordered Q → Policy
strict_of says d = strict (classes_in d.rows) d.rule (answering says d.rows)

-- it stands for a history
pub record Represents {Q : Type 0} (stands : Q → List QueueEvent → Type 0) (says : Q → Saying) (d : Ordered Q) (h : List LabelledEvent) : Type 0 where
  pub recorded : RowRepresents stands d.rows h
  pub orderly : IsOrderly (strict_of says d) (unlabelled h)
  pub plain : IsPlain (strict_of says d)
