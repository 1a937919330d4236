-- One class whose packets start at the multiples of a gap: its policy, and what it holds.
use Rattle.std.specs.Prelude.{◌≡◌, ◌≤◌, ◌==◌, ◌*◌, ℕ, Bool, true, List, [], ◌∷◌, length, if◌then◌else◌}
use Rattle.altq_model.specs.declared.Rule.TheVariants.{Own}
use Rattle.altq_model.specs.History.{LabelledEvent, unlabelled}
use Rattle.altq_model.specs.Policies.{Answering}
use Rattle.altq_model.specs.Play.{Policy}
use Rattle.play_base.specs.Units.{ceil_div}
use Rattle.leaf_queue.specs.declared.node.Entry.{Entry}
use Rattle.leaf_queue.specs.Queue.{QueueEvent, Saying}
use Rattle.discipline.specs.declared.pick.Pick.{Pick}
use Rattle.discipline.specs.declared.pick.Pick.TheVariants.{Send, Wait, Empty}
use Rattle.discipline.specs.Moments.{IsOrderly}
use Rattle.plain_disciplines.specs.Plain.{IsPlain}
use Rattle.class_rows.specs.Rows.{ClassQueuesView, RowRepresents, answering, list_in}

-- the least multiple of a gap from a moment on
abbrev pub multiple_from : (gap t : ℕ) → ℕ
multiple_from gap t = ceil_div t gap * gap

-- the class's head may start at the multiples of the gap
abbrev pub paced : (class gap : ℕ) → Answering → Policy
paced class gap answer = record {
  classes = class ∷ [];
  answer = answer;
  start_from = λ h c t. multiple_from gap t;
  pick = λ h t. record { class = class; rule = Own };
}

-- what contracts see of it
pub record Pacing (Q : Type 0) : Type 0 where
  pub gap : ℕ
  pub rows : ClassQueuesView Q

-- there is one class
pub record IsPacing {Q : Type 0} (gap : ℕ) (d : ClassQueuesView Q) : Type 0 where
  pub gap_there : 1 ≤ gap
  pub one : length d.queues ≡ 1
  pub holds : d.holds ≡ true ∷ []

abbrev pub due_at : Bool → (class till : ℕ) → Entry → Pick
due_at now class till x = if now then Send x.ticket class x.len Own else Wait till

-- what is due where this is the list
abbrev pub paced_due : (class gap : ℕ) → List Entry → (now : ℕ) → Pick
paced_due class gap [] now = Empty
paced_due class gap (x ∷ xs) now = due_at (multiple_from gap now == now) class (multiple_from gap now) x

abbrev pub due_of : {Q : Type 0} → Pacing Q → (now : ℕ) → Pick
due_of d now = paced_due d.rows.first d.gap (list_in d.rows d.rows.first) now

-- its policy
abbrev pub paced_of : {Q : Type 0} → (Q → Saying) → Pacing Q → Policy
paced_of says d = paced d.rows.first d.gap (answering says d.rows)

-- it stands for a history: its class is told it, and the history is in order
pub record Represents {Q : Type 0} (stands : Q → List QueueEvent → Type 0) (says : Q → Saying) (d : Pacing Q) (h : List LabelledEvent) : Type 0 where
  pub gap : 1 ≤ d.gap
  pub recorded : RowRepresents stands d.rows h
  pub orderly : IsOrderly (paced_of says d) (unlabelled h)
  pub plain : IsPlain (paced_of says d)
