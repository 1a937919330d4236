-- The order of link sharing, as properties.
use Rattle.std.specs.Prelude.{◌≡◌, ◌≤◌, ℕ, true, false, List, [], ◌∷◌, Some}
use Rattle.service_curve.specs.declared.Curve.{Curve}
use Rattle.hfsc_model.specs.declared.HfscClass.{HfscClass}
use Rattle.hfsc_model.specs.Event.{HfscHistory}
use Rattle.hfsc_model.specs.Limit.{may_share, shares_under}
use Rattle.hfsc_model.specs.Share.{has_parent, virtual_time}
use Rattle.hfsc_model.specs.Tree.{class_of, is_child, path}

-- d is a child of c, and a packet waits in a leaf, which is d or stands below it and whose path is open
pub record IsOpenChild (cs : List HfscClass) (h : HfscHistory) (now c d : ℕ) : Type 0 where
  pub child : is_child cs c d ≡ true
  pub shares : shares_under cs h now d ≡ true

-- of these children of c it has the least virtual time, and of those with the least it stands first in the file
pub record IsLeastChild (cs : List HfscClass) (h : HfscHistory) (now c d : ℕ) : Type 0 where
  pub there : IsOpenChild cs h now c d
  pub least : (e : ℕ) → IsOpenChild cs h now c e → virtual_time cs h d ≤ virtual_time cs h e
  pub first : (e : ℕ) → IsOpenChild cs h now c e → virtual_time cs h e ≡ virtual_time cs h d → d ≤ e

-- on a path up to the root each class is such a child of the next
abbrev pub AreLeastChildren : List HfscClass → HfscHistory → (now : ℕ) → List ℕ → Type 0
AreLeastChildren cs h now [] = Unit {0}
AreLeastChildren cs h now (d ∷ []) = Unit {0}
AreLeastChildren cs h now (d ∷ c ∷ up) = IsLeastChild cs h now c d × AreLeastChildren cs h now (c ∷ up)

-- a packet waits in the leaf, its path is open, and it is so on each level of its path
pub record IsSharePick (cs : List HfscClass) (h : HfscHistory) (now l : ℕ) : Type 0 where
  pub opened : may_share cs h now l ≡ true
  pub levels : AreLeastChildren cs h now (path cs l)

abbrev pub NoneMayShare : List HfscClass → HfscHistory → (now : ℕ) → Type 0
NoneMayShare cs h now = (d : ℕ) → may_share cs h now d ≡ false

-- the second slope of each link-sharing curve below the root is at least 1, so that the curve reaches every amount
abbrev pub HaveSlopes : List HfscClass → Type 0
HaveSlopes cs = (c : ℕ) (s : Curve) → has_parent cs c ≡ true → (class_of cs c).share ≡ Some s → 1 ≤ s.m2

-- a class had no greater virtual time after any part of the history, of which the first events are left out one by one
abbrev pub AreBehind : List HfscClass → (c time : ℕ) → HfscHistory → Type 0
AreBehind cs c time [] = virtual_time cs [] c ≤ time
AreBehind cs c time (e ∷ h) = (virtual_time cs (e ∷ h) c ≤ time) × AreBehind cs c time h
