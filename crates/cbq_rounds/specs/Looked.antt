-- What a look at some classes has found.
use Rattle.std.specs.Prelude.{◌≡◌, ◌≤◌, ◌<◌, ◌+◌, ℕ, true, false, List, length, Option, Some}
use Rattle.cbq_model.specs.declared.CbqClass.{CbqClass}
use Rattle.cbq_model.specs.declared.Rank.{Rank}
use Rattle.cbq_model.specs.Choice.{goes_before, may, rank_in}
use Rattle.cbq_model.specs.Tree.{class_of}
use Rattle.leaf_queue.specs.declared.node.Entry.{Entry}
use Rattle.link_clock.specs.Clock.{Clock}
use Rattle.cbq_rounds.specs.Due.{start_in}
use Rattle.cbq_sharing.specs.Shared.{Shared, situation_in}

-- it is that of one of the classes from b on, b + n excluded
pub record IsOfOne (f : ℕ → Option ℕ) (b n u : ℕ) : Type 0 where
  pub class : ℕ
  pub low : b ≤ class
  pub high : class < b + n
  pub is : f class ≡ Some u

-- a moment is there, and is no later
pub record IsNoLater (o : Option ℕ) (v : ℕ) : Type 0 where
  pub first : ℕ
  pub is : o ≡ Some first
  pub most : first ≤ v

-- its priority is at least p, and a class of p stands before `from`
pub record IsSeen (cs : List CbqClass) (p from c : ℕ) : Type 0 where
  pub low : p ≤ (class_of cs c).priority
  pub before : (class_of cs c).priority ≡ p → c < from

-- it is the rank of a class of a priority of at least p that may send now
pub record IsAble (d : Shared) (lists : ℕ → List Entry) (clock : Clock) (now p : ℕ) (r : Rank) : Type 0 where
  pub class : ℕ
  pub place : class < length d.tree
  pub able : may d.tree d.rate (situation_in d lists clock.link) class now ≡ true
  pub is : r ≡ rank_in d.tree d.rate (situation_in d lists clock.link) class
  pub low : p ≤ (class_of d.tree class).priority

-- one was found that another does not go before
pub record IsLed (found : Option Rank) (r : Rank) : Type 0 where
  pub one : Rank
  pub is : found ≡ Some one
  pub behind : goes_before r one ≡ false

-- the best class of those that were seen and may send now
pub record HasAsked (d : Shared) (lists : ℕ → List Entry) (clock : Clock) (now p from : ℕ) (found : Option Rank) : Type 0 where
  pub of_able : (r : Rank) → found ≡ Some r → IsAble d lists clock now p r
  pub led : (c : ℕ) → c < length d.tree → IsSeen d.tree p from c → may d.tree d.rate (situation_in d lists clock.link) c now ≡ true
      → IsLed found (rank_in d.tree d.rate (situation_in d lists clock.link) c)

-- the first moment of the classes before `from`
pub record HasFirst (d : Shared) (lists : ℕ → List Entry) (clock : Clock) (now from : ℕ) (at : Option ℕ) : Type 0 where
  pub of_one : (u : ℕ) → at ≡ Some u → IsOfOne (start_in d lists clock now) 0 (length d.tree) u
  pub no_later : (c v : ℕ) → c < length d.tree → c < from → start_in d lists clock now c ≡ Some v → IsNoLater at v
