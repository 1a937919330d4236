-- A stretch of a history in which a class does not borrow.
use Rattle.std.specs.Prelude.{◌≡◌, ◌++◌, ℕ, List, ◌∷◌}
use Rattle.altq_model.specs.History.{Event, Sent, Sending}
use Rattle.cbq_model.specs.declared.CbqClass.{CbqClass}
use Rattle.cbq_model.specs.Capped.{AreOwn, IsBottom}

-- a stretch of a history, from a sending of a class that has no children and is not the root, up to another one of it; the class borrows
-- for none of those after the first
pub record IsOwnStretch (cs : List CbqClass) (c : ℕ) (h : List Event) (last : Sending) (between : List Event) (first : Sending) : Type 0 where
  pub after : List Event
  pub before : List Event
  pub all : h ≡ after ++ (Sent last ∷ between ++ Sent first ∷ before)
  pub bottom : IsBottom cs c
  pub of_last : last.class ≡ c
  pub of_first : first.class ≡ c
  pub own : AreOwn c (Sent last ∷ between)
