-- What CBQ is with its queues, and the histories that it stands for.
use Rattle.std.specs.Prelude.{◌≡◌, ◌≤◌, ◌<◌, ℕ, List, [], length}
use Rattle.altq_model.specs.History.{LabelledEvent, unlabelled}
use Rattle.altq_model.specs.Lawful.{IsLawful, IsSteady}
use Rattle.altq_model.specs.Link.{link}
use Rattle.altq_model.specs.Play.{Policy}
use Rattle.leaf_queue.specs.Queue.{QueueEvent, Saying}
use Rattle.class_rows.specs.Rows.{ClassQueuesView, RowRepresents, answering, classes_in, list_in}
use Rattle.discipline.specs.Laws.{AreDistinct}
use Rattle.discipline.specs.Moments.{IsOrderly}
use Rattle.cbq_model.specs.Capped.{AreSendings}
use Rattle.cbq_model.specs.Rounds.{cbq, credits, cursors, estimates}
use Rattle.cbq_model.specs.Tree.{numbers}
use Rattle.class_sets.specs.Held.{HeldBack}
use Rattle.cbq_sharing.specs.Held.{AreHeld}
use Rattle.cbq_sharing.specs.Rings.{AreRings}
use Rattle.cbq_sharing.specs.Shared.{Shared}
use Rattle.cbq_sharing.specs.Waiting.{AreSized, AreWaiting}

-- what contracts see of it
pub record Ruling (Q : Type 0) : Type 0 where
  pub shares : Shared
  pub rows : ClassQueuesView Q

-- sets of classes: those that wait, those that are held back, and those of each priority with the tops
pub record Sets : Type 0 where
  pub waiting : List ℕ
  pub held : HeldBack
  pub sets : List (List ℕ)
  pub tops : List ℕ

-- the classes are numbered from 0 on, each is a queue class, no other number has a packet, and the sets are what they are called
pub record IsRuling {Q : Type 0} (d : Shared) (rows : ClassQueuesView Q) (k : Sets) : Type 0 where
  pub first : rows.first ≡ 0
  pub count : length rows.queues ≡ length d.tree
  pub credit_each : length d.credits ≡ length d.tree
  pub classes : classes_in rows ≡ numbers d.tree
  pub sized : (c : ℕ) → AreSized (list_in rows c)
  pub others : (c : ℕ) → length d.tree ≤ c → list_in rows c ≡ []
  pub few : length d.tree ≤ 256
  pub waiting : AreWaiting k.waiting (list_in rows)
  pub held : AreHeld d (list_in rows) k.held
  pub rings : AreRings d.tree k.sets k.tops

-- its policy
abbrev pub cbq_of : {Q : Type 0} → (Q → Saying) → Ruling Q → Policy
cbq_of says d = cbq d.shares.tree d.shares.rate (answering says d.rows)

-- it stands for a history: its classes are told it, what it keeps is that of the history, and the history is in order and of CBQ's
-- sendings
pub record Represents {Q : Type 0} (stands : Q → List QueueEvent → Type 0) (says : Q → Saying) (d : Ruling Q) (h : List LabelledEvent) : Type 0 where
  pub recorded : RowRepresents stands d.rows h
  pub estimates : d.shares.estimates ≡ estimates d.shares.tree (unlabelled h)
  pub credits : d.shares.credits ≡ credits d.shares.tree d.shares.rate (unlabelled h)
  pub cursors : d.shares.cursors ≡ cursors d.shares.tree (unlabelled h)
  pub ended : (rate : ℕ) → rate ≡ d.shares.rate → d.shares.ended ≤ (link rate (unlabelled h)).free
  pub rate : 0 < d.shares.rate
  pub classes : classes_in d.rows ≡ numbers d.shares.tree
  pub lawful : IsLawful (cbq_of says d)
  pub steady : IsSteady (cbq_of says d)
  pub distinct : AreDistinct (cbq_of says d).classes
  pub orderly : IsOrderly (cbq_of says d) (unlabelled h)
  pub sendings : AreSendings d.shares.tree d.shares.rate (unlabelled h)
