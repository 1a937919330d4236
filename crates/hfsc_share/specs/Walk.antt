-- A walk from a leaf up to the root, on which an event is taken in class by class.
use Rattle.std.specs.Prelude.{◌≡◌, ◌<◌, ◌+◌, ◌/◌, ◌∷◌, [], ℕ, Bool, true, false, List, length, Option, None, Some, slice_get}
use Rattle.hfsc_model.specs.declared.HfscClass.{HfscClass}
use Rattle.hfsc_model.specs.Event.{HfscHistory}
use Rattle.hfsc_model.specs.Tree.{is_leaf, is_under}
use Rattle.hfsc_model.specs.RealTime.{IsOpenBy}
use Rattle.hfsc_model.specs.Share.{active}
use Rattle.hfsc_model.specs.Limit.{arrivals_of}
use Rattle.hfsc_groups.specs.declared.node.Node.{Node}
use Rattle.hfsc_groups.specs.declared.group.Group.{Group}
use Rattle.hfsc_groups.specs.Classes.{AreClasses, AreSmall}
use Rattle.hfsc_groups.specs.Node.{NodeStands, parent_in, active_in, opens_in, time_in}
use Rattle.hfsc_groups.specs.Group.{first_moment, ranked_in}

-- c is the next class of the walk or stands above it
abbrev pub is_over : List HfscClass → Option ℕ → ℕ → Bool
is_over cs None c = false
is_over cs (Some d) c = is_under cs c d

-- a leaf in which nothing waits, or in which a packet waits
pub record IsLeafThat (cs : List HfscClass) (h : HfscHistory) (leaf : ℕ) (waits : Bool) : Type 0 where
  pub leaf_is : is_leaf cs leaf ≡ true
  pub waits_is : active cs h leaf ≡ waits

-- while the walk goes up: the classes of the path from the next one up stand for h, the history before the event, all others
-- for g, with it
pub record Walks (cs : List HfscClass) (h g : HfscHistory) (last leaf : ℕ) (next : Option ℕ) (nodes : List Node) : Type 0 where
  pub classes : AreClasses cs
  pub count : length nodes ≡ length cs
  pub small : AreSmall cs g
  pub arrivals : (c : ℕ) → IsOpenBy (arrivals_of cs g c) last
  pub on_path : (c : ℕ) → next ≡ Some c → is_under cs c leaf ≡ true
  pub before : (c : ℕ) (x : Node) → slice_get nodes c ≡ Some x → is_over cs next c ≡ true → NodeStands cs h last c x
  pub after : (c : ℕ) (x : Node) → slice_get nodes c ≡ Some x → is_over cs next c ≡ false → NodeStands cs g last c x

-- a step of the walk, in which the activity of `class` alone may change
pub record IsStep (class : ℕ) (old new : List Node) : Type 0 where
  pub count : length new ≡ length old
  pub parents : (c : ℕ) → parent_in (slice_get new c) ≡ parent_in (slice_get old c)
  pub others : (c : ℕ) → (c ≡ class → ⊥) → active_in (slice_get new c) ≡ active_in (slice_get old c)

-- a class that is active and opens at once
pub record IsOpenIn (nodes : List Node) (c : ℕ) : Type 0 where
  pub active : active_in (slice_get nodes c) ≡ true
  pub opens : opens_in (slice_get nodes c) ≡ Some 0

-- the last of a list that begins with c
abbrev pub last_of : ℕ → List ℕ → ℕ
last_of c [] = c
last_of c (d ∷ ds) = last_of d ds

-- the virtual time to take among these children: the middle of the first and the last, or the high mark
abbrev pub start_among : List Node → Group → List ℕ → ℕ
start_among nodes g [] = g.high
start_among nodes g (c ∷ cs) = (time_in (slice_get nodes c) + time_in (slice_get nodes (last_of c cs))) / 2

abbrev pub start_of : List Node → Option Group → ℕ
start_of nodes None = 0
start_of nodes (Some g) = start_among nodes g (ranked_in g)

abbrev pub start_below : List Node → List Group → Option ℕ → ℕ
start_below nodes groups None = 0
start_below nodes groups (Some p) = start_of nodes (slice_get groups p)

abbrev pub moment_of : Option Group → Option ℕ
moment_of None = Some 0
moment_of (Some g) = first_moment g

abbrev pub has_some : List ℕ → Bool
has_some [] = false
has_some (c ∷ cs) = true

abbrev pub has_ranked : Option Group → Bool
has_ranked None = false
has_ranked (Some g) = has_some (ranked_in g)

-- so far on its way a walk from a leaf has left the tree as it was, and the activity of all other leaves; the next class is
-- no leaf
pub record IsOnWay (leaf : ℕ) (active : Bool) (next : Option ℕ) (old new : List Node) : Type 0 where
  pub count : length new ≡ length old
  pub parents : (c : ℕ) → parent_in (slice_get new c) ≡ parent_in (slice_get old c)
  pub others : (c : ℕ) → ((d : ℕ) → parent_in (slice_get old d) ≡ Some c → ⊥) → (c ≡ leaf → ⊥) → active_in (slice_get new c) ≡ active_in (slice_get old c)
  pub here : active_in (slice_get new leaf) ≡ active
  pub low : (c : ℕ) → next ≡ Some c → c < length new
  pub inner : (c : ℕ) → next ≡ Some c → ((d : ℕ) → parent_in (slice_get old d) ≡ Some c → ⊥) → ⊥

-- how far the walk can go
abbrev pub steps_left : Option ℕ → ℕ
steps_left None = 0
steps_left (Some c) = c + 1
