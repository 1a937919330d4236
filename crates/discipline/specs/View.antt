-- What a discipline shows of itself, and what no call changes of it.
use Rattle.std.specs.Prelude.{◌≡◌, ℕ, List}
use Rattle.std.specs.declared.option.Option.{Option}
use Rattle.altq_model.specs.History.{LabelledEvent}
use Rattle.altq_model.specs.Play.{Policy}
use Rattle.leaf_queue.specs.declared.node.Entry.{Entry}
use Rattle.link_clock.specs.Clock.{Clock}
use Rattle.discipline.specs.declared.pick.Pick.{Pick}

pub record DisciplineView : Type 1 where
  -- the policy of whose plays its histories are a part
  pub policy : Policy
  -- the most packets that may wait in each class
  pub limits : ℕ → ℕ
  -- the rate of the link in bits per second; None for a discipline that does not depend on it
  pub link_rate : Option ℕ
  -- what else no call changes, in numbers; [] for most
  pub fixed : List ℕ
  -- the entries that wait in each class, the head in front
  pub lists : ℕ → List Entry
  -- the histories that it represents, the newest event first. Each is in order, and each sending in it was the pick due
  pub represents : List LabelledEvent → Type 0
  -- what is due under a clock at a moment
  pub due : Clock → ℕ → Pick
  -- how many offers it has counted, where it counts them; else 0
  pub given : ℕ
  -- the moment of the latest event and the end of the latest sending that it stores, in nanoseconds; 0 where it stores none
  pub moment : ℕ
  pub ended : ℕ

-- what no call changes
pub record SameKind (old new : DisciplineView) : Type 0 where
  pub policy : new.policy ≡ old.policy
  pub limits : new.limits ≡ old.limits
  pub link_rate : new.link_rate ≡ old.link_rate
  pub fixed : new.fixed ≡ old.fixed

-- nothing that can be told from it changes
pub record Unchanged (old new : DisciplineView) : Type 0 where
  pub kind : SameKind old new
  pub lists : (c : ℕ) → new.lists c ≡ old.lists c
  pub represents : (h : List LabelledEvent) → old.represents h → new.represents h
  pub due : (clock : Clock) (now : ℕ) → new.due clock now ≡ old.due clock now
  pub moment : new.moment ≡ old.moment
  pub ended : new.ended ≡ old.ended
