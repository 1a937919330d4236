-- The classes that are held back, and those that are awake.
use Rattle.std.specs.Prelude.{◌≡◌, ◌<◌, ◌+◌, ℕ, false, List, length, get_or, None, Some}
use Rattle.play_base.specs.Units.{time_of}
use Rattle.cbq_estimator.specs.Estimate.{Estimate}
use Rattle.cbq_estimator.specs.Now.{allows_now}
use Rattle.cbq_model.specs.Choice.{may}
use Rattle.cbq_model.specs.Tree.{class_of, is_root, lender_of}
use Rattle.leaf_queue.specs.declared.node.Entry.{Entry}
use Rattle.link_clock.specs.Clock.{Clock}
use Rattle.class_sets.specs.Held.{HeldBack}
use Rattle.class_sets.specs.Marked.{marked}
use Rattle.cbq_sharing.specs.Shared.{Shared, head_len, no_estimate, situation_in}
use Rattle.cbq_sharing.specs.Waiting.{waits}

-- a class that asks nobody for a loan allows no packet of a length that ends sooner than one that starts at `moment` and has the link's
-- whole time for it
pub record IsHeldBack (d : Shared) (c len moment : ℕ) : Type 0 where
  pub alone : lender_of (class_of d.tree c) ≡ None
  pub inner : is_root d.tree c ≡ false
  pub refused : (end : ℕ) → end < moment + time_of len d.rate → allows_now (get_or d.estimates c no_estimate) end len ≡ false

-- a packet waits in each class that is held back, and may not be sent before the class's moment
pub record AreHeld (d : Shared) (lists : ℕ → List Entry) (h : HeldBack) : Type 0 where
  pub rate : 0 < d.rate
  pub wait : (c : ℕ) → marked h.set c ≡ 1 → waits (lists c) ≡ 1
  pub head : (c len : ℕ) → marked h.set c ≡ 1 → head_len (lists c) ≡ Some len → IsHeldBack d c len (get_or h.moments c 0)

-- a class is held back as before, and its average is the same
pub record IsUntold (old : List ℕ) (before after : List Estimate) (c : ℕ) : Type 0 where
  pub was : marked old c ≡ 1
  pub same : get_or after c no_estimate ≡ get_or before c no_estimate

-- the classes that are asked at a moment: a packet waits in each of them, and none of the others may send then
pub record AreAwake (d : Shared) (lists : ℕ → List Entry) (clock : Clock) (now : ℕ) (words : List ℕ) : Type 0 where
  pub wait : (c : ℕ) → marked words c ≡ 1 → waits (lists c) ≡ 1
  pub others : (c : ℕ) → c < length d.tree → marked words c ≡ 0 → may d.tree d.rate (situation_in d lists clock.link) c now ≡ false
