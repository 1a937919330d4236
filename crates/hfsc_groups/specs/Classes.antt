-- The classes of a tree that shares a link, and when it is small enough for what is kept of it.
use Rattle.std.specs.Prelude.{◌≡◌, ◌↔◌, ◌≤◌, ◌^◌, ◌&&◌, ◌||◌, ℕ, not, Bool, true, List, Option, All, IsSome, IsSomeAnd, IfSome}
use Rattle.std.specs.List.{list_any, list_all}
use Rattle.service_curve.specs.declared.Curve.{Curve}
use Rattle.hfsc_model.specs.declared.HfscClass.{HfscClass}
use Rattle.hfsc_model.specs.Event.{HfscHistory}
use Rattle.hfsc_model.specs.Leaf.{leaf, is_waiting}
use Rattle.hfsc_model.specs.Tree.{numbers, path, is_under, IsTree}
use Rattle.hfsc_model.specs.Share.{waits_under, total, virtual_time, active}
use Rattle.hfsc_model.specs.Limit.{is_within, shares_under}
use Rattle.hfsc_model.specs.RealTime.{has_come}
use Rattle.hfsc_groups.specs.Curves.{IsCurve}

-- the second slope of a link-sharing curve is at least 1, so that it reaches every amount
pub record IsShare (s : Curve) : Type 0 where
  pub curve : IsCurve s
  pub second : 1 ≤ s.m2

-- an upper limit lets through at least 1,000 bits per second
pub record IsLimit (s : Curve) : Type 0 where
  pub curve : IsCurve s
  pub first : 1000 ≤ s.m1
  pub second : 1000 ≤ s.m2

-- every class but a root has a link-sharing curve
pub record IsClass (k : HfscClass) : Type 0 where
  pub share : IsSome k.parent → IsSomeAnd k.share IsShare
  pub limit : IfSome k.limit IsLimit

pub record AreClasses (cs : List HfscClass) : Type 0 where
  pub tree : IsTree cs
  pub each : All IsClass cs

-- a packet waits in a class
abbrev pub waits_in : HfscHistory → ℕ → Bool
waits_in h c = is_waiting (leaf h c).waiting

-- no total and no virtual time passes what is kept of them
pub record IsSmall (cs : List HfscClass) (h : HfscHistory) (c : ℕ) : Type 0 where
  pub units : total cs h c ≤ 2 ^ 99
  pub time : virtual_time cs h c ≤ 2 ^ 79

abbrev pub AreSmall : List HfscClass → HfscHistory → Type 0
AreSmall cs h = (c : ℕ) → IsSmall cs h c

-- the classes from the leaf d up to and with c are within their limits
abbrev pub is_open_to : List HfscClass → HfscHistory → ℕ → ℕ → ℕ → Bool
is_open_to cs h now c d = list_all (λ x. not (is_under cs c x) || is_within cs h now x) (path cs d)

-- a packet waits in a leaf from which the path is open up to and with c
abbrev pub opens_under : List HfscClass → HfscHistory → ℕ → ℕ → Bool
opens_under cs h now c = list_any (λ d. waits_under cs h c d && is_open_to cs h now c d) (numbers cs)

-- the least moment, not before the last wake, from which the limits let some active leaf be served; there is one exactly
-- where a leaf is active
pub record IsSoonest (cs : List HfscClass) (h : HfscHistory) (last : ℕ) (o : Option ℕ) : Type 0 where
  pub some : IsSome o ↔ (active cs h 0 ≡ true)
  pub from : (now : ℕ) → last ≤ now → shares_under cs h now 0 ≡ has_come o now
  pub later : IfSome o (λ t. last ≤ t)
