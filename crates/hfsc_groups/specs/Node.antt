-- What is held of a class, and what it stands for.
use Rattle.std.specs.Prelude.{◌≡◌, ◌≤◌, ◌<◌, ◌+◌, ◌^◌, ◌&&◌, ℕ, min, max, Bool, true, false, List, [], ◌∷◌, length, Option, None, Some, slice_get, slice_index_or, IsSome}
use Rattle.service_curve.specs.declared.Curve.{Curve}
use Rattle.runtime_curve.specs.declared.Opening.{Opening}
use Rattle.runtime_curve.specs.Opening.{opening}
use Rattle.runtime_curve.specs.Deadline.{deadline, later_of}
use Rattle.hfsc_model.specs.declared.HfscClass.{HfscClass}
use Rattle.hfsc_model.specs.Event.{HfscHistory}
use Rattle.hfsc_model.specs.RealTime.{has_come}
use Rattle.hfsc_model.specs.Tree.{class_of, is_number}
use Rattle.hfsc_model.specs.Share.{active, activations, or_zero, total, virtual_time}
use Rattle.hfsc_model.specs.Limit.{arrivals_of}
use Rattle.hfsc_groups.specs.declared.node.Node.{Node}
use Rattle.hfsc_groups.specs.Curves.{IsBy, RunningStands, last_in, limit_opens, share_of, since}
use Rattle.hfsc_groups.specs.Classes.{opens_under}

-- the fields of a node, where there is one
abbrev pub parent_in : Option Node → Option ℕ
parent_in None = None
parent_in (Some x) = x.parent

abbrev pub active_in : Option Node → Bool
active_in None = false
active_in (Some x) = x.active

abbrev pub time_in : Option Node → ℕ
time_in None = 0
time_in (Some x) = x.time

abbrev pub opens_in : Option Node → Option ℕ
opens_in None = None
opens_in (Some x) = x.opens

-- c is a child of p, and active
abbrev pub is_child_in : List Node → ℕ → ℕ → Bool
is_child_in nodes p c = is_number p (parent_in (slice_get nodes c))

abbrev pub is_active_child : List Node → ℕ → ℕ → Bool
is_active_child nodes p c = is_child_in nodes p c && active_in (slice_get nodes c)

-- every parent stands earlier
abbrev pub AreParentsFirst : List Node → Type 0
AreParentsFirst nodes = (c p : ℕ) → parent_in (slice_get nodes c) ≡ Some p → p < c

-- no arrival made a class active later than `woken`
abbrev pub AreLimitsBy : ℕ → List Node → Type 0
AreLimitsBy woken nodes = (c : ℕ) (x : Node) → slice_get nodes c ≡ Some x → IsBy woken x.limit

-- from the last wake on the moment from which a packet waits on an open path tells whether one does
pub record OpensAt (cs : List HfscClass) (h : HfscHistory) (last c : ℕ) (o : Option ℕ) : Type 0 where
  pub some : IsSome o
  pub from : (now : ℕ) → last ≤ now → opens_under cs h now c ≡ has_come o now

-- the node x stands for the class c after the history h, in which the last wake was at `last`
pub record NodeStands (cs : List HfscClass) (h : HfscHistory) (last c : ℕ) (x : Node) : Type 0 where
  pub parent : x.parent ≡ (class_of cs c).parent
  pub share : RunningStands x.share (share_of (class_of cs c)) (activations cs h c)
  pub limit : RunningStands x.limit (class_of cs c).limit (arrivals_of cs h c)
  pub total : total cs h c ≡ x.total
  pub active : active cs h c ≡ x.active
  pub time : virtual_time cs h c ≡ x.time
  pub opens : x.active ≡ true → OpensAt cs h last c x.opens

-- a class without a packet
pub record IsNewNode (k : HfscClass) (x : Node) : Type 0 where
  pub parent : x.parent ≡ k.parent
  pub share : RunningStands x.share (share_of k) []
  pub limit : RunningStands x.limit k.limit []
  pub total : x.total ≡ 0
  pub active : x.active ≡ false
  pub time : x.time ≡ 0
  pub never : last_in x.limit ≡ None

-- all classes without a packet
pub record AreNew (ks : List HfscClass) (nodes : List Node) : Type 0 where
  pub count : length nodes ≡ length ks
  pub each : (c : ℕ) (d : Node) → c < length nodes → IsNewNode (class_of ks c) (slice_index_or nodes c d)

-- y is x made active by an arrival at `at`, with a virtual time of at least `start`
pub record IsActivated (at start : ℕ) (x y : Node) : Type 0 where
  pub parent : y.parent ≡ x.parent
  pub total : y.total ≡ x.total
  pub active : y.active ≡ true
  pub time : y.time ≡ min (max x.time start) (2 ^ 79)
  pub share : (o : Option Curve) (os : List Opening) → RunningStands x.share o os → RunningStands y.share o (opening y.time x.total ∷ os)
  pub limit : (o : Option Curve) (os : List Opening) → RunningStands x.limit o os → RunningStands y.limit o (opening at x.total ∷ os)
  pub by : IsBy at y.limit

-- y is x, which was active or is made so
pub record IsAwake (at start : ℕ) (x y : Node) : Type 0 where
  pub parent : y.parent ≡ x.parent
  pub later : x.time ≤ y.time
  pub by : IsBy at y.limit
  pub active : y.active ≡ true
  pub same : x.active ≡ true → y ≡ x
  pub begun : x.active ≡ false → IsActivated at start x y

-- y is x after `amount` units more were sent
pub record IsServed (amount : ℕ) (waits : Bool) (x y : Node) : Type 0 where
  pub parent : y.parent ≡ x.parent
  pub total : y.total ≡ min (x.total + amount) (2 ^ 99)
  pub active : y.active ≡ (x.active && waits)
  pub share : y.share ≡ x.share
  pub limit : y.limit ≡ x.limit
  pub same : y.total ≡ x.total → y.time ≡ x.time
  pub none : x.share ≡ None → y.time ≡ x.time
  pub grown : x.active ≡ true → x.total < y.total → (s : Curve) (os : List Opening) → RunningStands x.share (Some s) os
      → y.time ≡ min (max x.time (or_zero (deadline s os y.total))) (2 ^ 79)
  pub later : x.time ≤ y.time

-- y is x with the moment from which it opens computed anew, after a last wake
pub record IsReopened (last : ℕ) (below : Option ℕ) (x y : Node) : Type 0 where
  pub parent : y.parent ≡ x.parent
  pub total : y.total ≡ x.total
  pub active : y.active ≡ x.active
  pub share : y.share ≡ x.share
  pub limit : y.limit ≡ x.limit
  pub time : y.time ≡ x.time
  pub opens : x.active ≡ true → (o : Option Curve) (os : List Opening) → RunningStands x.limit o os
      → y.opens ≡ since last (later_of (limit_opens o os x.total) below)
