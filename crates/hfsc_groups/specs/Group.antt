-- The children of a class in the order of their virtual times, and those that open late in that of the moments from which
-- they open.
use Rattle.std.specs.Prelude.{◌≡◌, ◌≤◌, ◌<◌, ◌+◌, ◌-◌, ◌&&◌, ◌==◌, ℕ, max, Bool, true, List, [], length, Option, None, Some, slice_get, slice_set, slice_index_or, if◌then◌else◌}
use Rattle.std.specs.List.{find}
use Rattle.ranking.specs.Order.{is_in, key_of}
use Rattle.ranking.specs.Ranking.{HasPlace, IsReplaced, first_of, keys_of, order_of}
use Rattle.ranking.specs.declared.Ranking.{Ranking}
use Rattle.hfsc_model.specs.declared.HfscClass.{HfscClass}
use Rattle.hfsc_model.specs.RealTime.{has_come}
use Rattle.hfsc_model.specs.Tree.{is_child}
use Rattle.hfsc_groups.specs.declared.node.Node.{Node}
use Rattle.hfsc_groups.specs.declared.group.Group.{Group}
use Rattle.hfsc_groups.specs.declared.late.LimitedChildren.{LimitedChildren}
use Rattle.hfsc_groups.specs.Lists.{MayReplace}
use Rattle.hfsc_groups.specs.Late.{HasLatePlace, IsDelayed, IsNewLate, MayDelay, first_key, is_late, late_keys, late_order}
use Rattle.hfsc_groups.specs.Node.{is_child_in, is_active_child, time_in, opens_in}

-- exactly the active children of p stand in a list, each with its key
pub record Ranks (nodes : List Node) (p : ℕ) (key : Option Node → Option ℕ) (ranking : Ranking) : Type 0 where
  pub places : (c : ℕ) → is_child_in nodes p c ≡ true → HasPlace ranking c
  pub exactly : (c : ℕ) → is_in c (order_of ranking) ≡ is_active_child nodes p c
  pub keys : (c : ℕ) → is_active_child nodes p c ≡ true → key_of (keys_of ranking) c ≡ key (slice_get nodes c)

-- exactly the active children of p that open late stand in a list; each that is active has its key
pub record Delays (nodes : List Node) (p : ℕ) (late : LimitedChildren) : Type 0 where
  pub places : (c : ℕ) → is_child_in nodes p c ≡ true → HasLatePlace late c
  pub exactly : (c : ℕ) → is_in c (late_order late) ≡ (is_active_child nodes p c && is_late (opens_in (slice_get nodes c)))
  pub keys : (c : ℕ) → is_active_child nodes p c ≡ true → key_of (late_keys late) c ≡ opens_in (slice_get nodes c)

-- no child of p has a greater virtual time
abbrev pub IsHighest : List Node → ℕ → ℕ → Type 0
IsHighest nodes p high = (c : ℕ) → is_child_in nodes p c ≡ true → time_in (slice_get nodes c) ≤ high

-- the least such number: the greatest virtual time of the children of p, 0 where there is none
pub record IsHigh (nodes : List Node) (p high : ℕ) : Type 0 where
  pub highest : IsHighest nodes p high
  pub least : (other : ℕ) → IsHighest nodes p other → high ≤ other

abbrev pub time_key : Option Node → Option ℕ
time_key o = Some (time_in o)

pub record GroupHolds (nodes : List Node) (p : ℕ) (g : Group) : Type 0 where
  pub times : Ranks nodes p time_key g.times
  pub moments : Delays nodes p g.moments
  pub high : IsHigh nodes p g.high

-- the groups hold the children of the classes
pub record GroupsHold (nodes : List Node) (groups : List Group) : Type 0 where
  pub count : length groups ≡ length nodes
  pub each : (p : ℕ) (g : Group) → slice_get groups p ≡ Some g → GroupHolds nodes p g

-- no child is active, and none was; there is a place for each class from `first` on up to `places` classes
pub record IsNewGroup (first places : ℕ) (g : Group) : Type 0 where
  pub times : order_of g.times ≡ []
  pub moments : IsNewLate first (places - first) g.moments
  pub time_first : first_of g.times ≡ first
  pub time_keys : length (keys_of g.times) ≡ first + (places - first)
  pub high : g.high ≡ 0

-- the group of p, in which each of its children has a place
pub record IsEmpty (cs : List HfscClass) (p : ℕ) (g : Group) : Type 0 where
  pub times : order_of g.times ≡ []
  pub moments : late_order g.moments ≡ []
  pub time_keys : (c : ℕ) → is_child cs p c ≡ true → HasPlace g.times c
  pub moment_keys : (c : ℕ) → is_child cs p c ≡ true → HasLatePlace g.moments c
  pub high : g.high ≡ 0

pub record AreEmpty (cs : List HfscClass) (groups : List Group) : Type 0 where
  pub count : length groups ≡ length cs
  pub each : (p : ℕ) (d : Group) → p < length groups → IsEmpty cs p (slice_index_or groups p d)

-- what holds before a child is placed anew in both lists, and after
pub record MayChange (class : ℕ) (was : Bool) (g : Group) : Type 0 where
  pub times : MayReplace class was g.times
  pub moments : MayDelay class was g.moments

pub record IsChanged (class : ℕ) (is : Bool) (time : ℕ) (opens : Option ℕ) (old new : Group) : Type 0 where
  pub times : IsReplaced class is (Some time) old.times new.times
  pub moments : IsDelayed class is opens old.moments new.moments
  pub high : new.high ≡ max old.high time

-- its answers, by what it holds
abbrev pub ranked_in : Group → List ℕ
ranked_in g = order_of g.times

-- the first moment from which a child opens; 0 where one opens at once, or none is active
abbrev pub first_moment : Group → Option ℕ
first_moment g = if length (late_order g.moments) == length (order_of g.times) then first_key (late_keys g.moments) (late_order g.moments) else Some 0

-- the first child in the order of virtual times that is open at a moment
abbrev pub first_open : ℕ → Group → Option ℕ
first_open now g = find (λ c. has_come (key_of (late_keys g.moments) c) now) (order_of g.times)

-- what holds before a class is placed anew in the lists of its parent, and after
pub record MayRank (class : ℕ) (was : Bool) (x : Node) (groups : List Group) : Type 0 where
  pub low : (p : ℕ) → x.parent ≡ Some p → p < length groups
  pub may : (p : ℕ) (g : Group) → x.parent ≡ Some p → slice_get groups p ≡ Some g → MayChange class was g

pub record AreRankedIn (p class : ℕ) (x : Node) (groups new : List Group) : Type 0 where
  pub old : Group
  pub changed : Group
  pub at : slice_get groups p ≡ Some old
  pub set : new ≡ slice_set groups p changed
  pub change : IsChanged class x.active x.time x.opens old changed

pub record AreRanked (class : ℕ) (x : Node) (groups new : List Group) : Type 0 where
  pub none : x.parent ≡ None → new ≡ groups
  pub some : (p : ℕ) → x.parent ≡ Some p → AreRankedIn p class x groups new
