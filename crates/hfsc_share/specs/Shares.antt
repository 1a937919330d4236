-- What a value stands for, and what it answers by what it holds.
use Rattle.std.specs.Prelude.{◌≡◌, ℕ, max, zero, suc, Bool, false, List, [], length, Option, None, Some, slice_get, if◌then◌else◌}
use Rattle.hfsc_model.specs.declared.HfscClass.{HfscClass}
use Rattle.hfsc_model.specs.Event.{HfscHistory}
use Rattle.hfsc_model.specs.RealTime.{has_come, IsOpenBy}
use Rattle.hfsc_model.specs.Tree.{class_of}
use Rattle.hfsc_model.specs.Limit.{arrivals_of}
use Rattle.hfsc_groups.specs.declared.group.Group.{Group}
use Rattle.hfsc_groups.specs.declared.node.Node.{Node}
use Rattle.hfsc_groups.specs.Node.{parent_in, active_in, opens_in, NodeStands}
use Rattle.hfsc_groups.specs.Group.{first_open, ranked_in}
use Rattle.hfsc_groups.specs.Classes.{AreClasses}
use Rattle.hfsc_share.specs.declared.Shares.{Shares}

abbrev pub classes_of : Shares → ℕ
classes_of s = length s.nodes.items

abbrev pub parent_at : Shares → ℕ → Option ℕ
parent_at s c = parent_in (slice_get s.nodes.items c)

abbrev pub is_active_at : Shares → ℕ → Bool
is_active_at s c = active_in (slice_get s.nodes.items c)

-- the moment of the last wake, 0 where there was none
abbrev pub last_wake : Shares → ℕ
last_wake s = s.woken

-- a class that is no class's parent
abbrev pub IsLeafAt : Shares → ℕ → Type 0
IsLeafAt s c = (d : ℕ) → parent_at s d ≡ Some c → ⊥

-- it has the tree of these classes, of which none is active
pub record NoneIsActive (cs : List HfscClass) (s : Shares) : Type 0 where
  pub classes : classes_of s ≡ length cs
  pub parents : (c : ℕ) → parent_at s c ≡ (class_of cs c).parent
  pub idle : (c : ℕ) → is_active_at s c ≡ false
  pub woken : last_wake s ≡ 0

-- the tree is as it was, and so is the activity of all leaves but one
pub record IsSameBut (leaf : ℕ) (old new : Shares) : Type 0 where
  pub classes : classes_of new ≡ classes_of old
  pub parents : (c : ℕ) → parent_at new c ≡ parent_at old c
  pub others : (c : ℕ) → IsLeafAt old c → (c ≡ leaf → ⊥) → is_active_at new c ≡ is_active_at old c

-- each class has what it has after the history
pub record Represents (s : Shares) (cs : List HfscClass) (h : HfscHistory) : Type 0 where
  pub classes : AreClasses cs
  pub count : length s.nodes.items ≡ length cs
  pub each : (c : ℕ) (x : Node) → slice_get s.nodes.items c ≡ Some x → NodeStands cs h s.woken c x
  pub arrivals : (c : ℕ) → IsOpenBy (arrivals_of cs h c) s.woken

-- its answers, by what it holds
abbrev pub order_at : Shares → ℕ → List ℕ
order_at s p = elim (slice_get s.groups.items p) [ None ↦ [] | Some g ↦ ranked_in g ]

abbrev pub child_of : List Group → ℕ → ℕ → Option ℕ
child_of groups now c = elim (slice_get groups c) [ None ↦ None | Some g ↦ first_open now g ]

abbrev pub down : ℕ → List Group → ℕ → ℕ → ℕ
down zero groups now c = c
down (suc levels) groups now c = elim (child_of groups now c) [ None ↦ c | Some d ↦ down levels groups now d ]

abbrev pub pick_now : Shares → ℕ → Option ℕ
pick_now s now =
    if is_active_at s 0 then (if has_come (opens_in (slice_get s.nodes.items 0)) now then Some (down 8 s.groups.items now 0) else None) else None

abbrev pub not_before : ℕ → Option ℕ → Option ℕ
not_before last None = None
not_before last (Some t) = Some (max last t)

abbrev pub soonest_now : Shares → Option ℕ
soonest_now s = if is_active_at s 0 then not_before s.woken (opens_in (slice_get s.nodes.items 0)) else None
