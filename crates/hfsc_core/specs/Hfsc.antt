-- The discipline: what it holds, what is due, and the histories that it stands for.
use Rattle.std.specs.Prelude.{◌≡◌, ◌≤◌, ◌<◌, ◌+◌, ◌^◌, ℕ, List, [], ◌∷◌, length}
use Rattle.altq_model.specs.declared.Rule.{Rule}
use Rattle.altq_model.specs.declared.Rule.TheVariants.{RealTime, Share}
use Rattle.altq_model.specs.History.{LabelledEvent, unlabelled, offered}
use Rattle.altq_model.specs.Lawful.{latest}
use Rattle.altq_model.specs.Play.{Policy}
use Rattle.leaf_queue.specs.declared.node.Entry.{Entry}
use Rattle.leaf_queue.specs.Queue.{QueueEvent, Saying}
use Rattle.discipline.specs.declared.pick.Pick.{Pick}
use Rattle.discipline.specs.declared.pick.Pick.TheVariants.{Send, Wait, Empty}
use Rattle.discipline.specs.Moments.{IsOrderly}
use Rattle.class_rows.specs.Rows.{ClassQueuesView, RowRepresents, answering, classes_in, list_in}
use Rattle.hfsc_model.specs.Event.{HfscHistory}
use Rattle.hfsc_model.specs.Leaf.{Waiting, leaf}
use Rattle.hfsc_policy.specs.Classes.{leaves}
use Rattle.hfsc_policy.specs.Events.{hfsc_history}
use Rattle.hfsc_policy.specs.Heads.{kept_in}
use Rattle.hfsc_policy.specs.Policy.{hfsc_policy}
use Rattle.hfsc_core.specs.declared.chooser.Chooser.{Chooser}
use Rattle.hfsc_core.specs.declared.chooser.Chosen.{Chosen}
use Rattle.hfsc_core.specs.declared.chooser.Chosen.TheVariants.{Real, Shared, Later, Nothing}
use Rattle.hfsc_core.specs.Chooser.{Represents, chosen_now, classes_of, woken_at}

-- what contracts see of it
pub record HfscView (Q : Type 0) : Type 0 where
  pub chooser : Chooser
  pub rows : ClassQueuesView Q
  pub kept : ℕ

-- the lengths of a list's entries, and of the packets that wait
abbrev pub lens : List Entry → List ℕ
lens [] = []
lens (x ∷ xs) = x.len ∷ lens xs

abbrev pub lens_of : List Waiting → List ℕ
lens_of [] = []
lens_of (w ∷ ws) = w.len ∷ lens_of ws

-- a history after which the lists hold what waits, and in which `kept` packets were kept
pub record Known (x : Chooser) (lists : ℕ → List Entry) (kept : ℕ) (h : HfscHistory) : Type 0 where
  pub stands : Represents x h
  pub shown : (c : ℕ) → lens (lists c) ≡ lens_of (leaf h c).waiting
  pub count : kept_in h ≡ kept

-- the leaves are the queue classes, and there is a history
pub record IsHfsc {Q : Type 0} (x : Chooser) (rows : ClassQueuesView Q) (kept : ℕ) : Type 0 where
  pub first : rows.first ≡ 0
  pub count : length rows.queues ≡ length (classes_of x)
  pub holds : classes_in rows ≡ leaves (classes_of x)
  pub known : (h : HfscHistory) × Known x (list_in rows) kept h

-- the head of a list is sent by a rule
abbrev pub send_head : (class : ℕ) → Rule → List Entry → Pick
send_head class rule [] = Empty
send_head class rule (x ∷ xs) = Send x.ticket class x.len rule

abbrev pub pick_of : (ℕ → List Entry) → Chosen → Pick
pick_of lists (Real c) = send_head c RealTime (lists c)
pick_of lists (Shared c) = send_head c Share (lists c)
pick_of lists (Later t) = Wait t
pick_of lists Nothing = Empty

-- the classes of what is chosen are in a row, and its moment fits 64 bits
abbrev pub MayAsk : {Q : Type 0} → ClassQueuesView Q → Chosen → Type 0
MayAsk d (Real c) = (d.first ≤ c) × (c < d.first + length d.queues)
MayAsk d (Shared c) = (d.first ≤ c) × (c < d.first + length d.queues)
MayAsk d (Later t) = t < 2 ^ 64
MayAsk d Nothing = Unit {0}

-- what is due
abbrev pub due_of : {Q : Type 0} → HfscView Q → (now : ℕ) → Pick
due_of d now = pick_of (list_in d.rows) (chosen_now d.chooser now)

-- its policy
abbrev pub policy_of : {Q : Type 0} → (Q → Saying) → HfscView Q → Policy
policy_of says d = hfsc_policy (classes_of d.chooser) (answering says d.rows)

-- it stands for a history: its classes are told it, both choices stand for what HFSC sees of it, and it is in order
pub record HfscStands {Q : Type 0} (stands : Q → List QueueEvent → Type 0) (says : Q → Saying) (d : HfscView Q) (h : List LabelledEvent) : Type 0 where
  pub recorded : RowRepresents stands d.rows h
  pub chooser : Represents d.chooser (hfsc_history (unlabelled h))
  pub kept : kept_in (hfsc_history (unlabelled h)) ≡ d.kept
  pub counted : d.kept ≤ offered (unlabelled h)
  pub woken : (t : ℕ) → latest (unlabelled h) ≤ t → woken_at d.chooser ≤ t
  pub orderly : IsOrderly (policy_of says d) (unlabelled h)
