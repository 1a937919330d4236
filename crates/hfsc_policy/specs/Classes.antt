-- What is asked of the classes of an interface.
use Rattle.std.specs.Prelude.{◌≡◌, ◌≤◌, ◌<◌, ℕ, true, List, length, None, Some}
use Rattle.std.specs.List.{filter}
use Rattle.service_curve.specs.declared.Curve.{Curve}
use Rattle.service_curve.specs.Curve.{IsInRange}
use Rattle.hfsc_model.specs.declared.HfscClass.{HfscClass}
use Rattle.hfsc_model.specs.Tree.{class_of, numbers, is_leaf, is_parent, IsTree}
use Rattle.hfsc_model.specs.Share.{has_parent}

-- a limit lets through at least 1,000 bits per second from its bend on
pub record IsLimit (s : Curve) : Type 0 where
  pub in_range : IsInRange s
  pub second : 1000 ≤ s.m2

-- they are a tree under the first class, which is the root; a class with children has no real-time curve; link-sharing curves are
-- in range, and limits as above
pub record IsClassTree (cs : List HfscClass) : Type 0 where
  pub some : 0 < length cs
  pub tree : IsTree cs
  pub one_root : (c : ℕ) → 0 < c → c < length cs → has_parent cs c ≡ true
  pub inside : (c : ℕ) → is_parent cs c ≡ true → (class_of cs c).real ≡ None
  pub shares : (c : ℕ) (s : Curve) → has_parent cs c ≡ true → (class_of cs c).share ≡ Some s → IsInRange s
  pub limits : (c : ℕ) (s : Curve) → (class_of cs c).limit ≡ Some s → IsLimit s

-- the classes that may hold packets, in the order of the file
abbrev pub leaves : List HfscClass → List ℕ
leaves cs = filter (is_leaf cs) (numbers cs)

abbrev pub HaveNoLimits : List HfscClass → Type 0
HaveNoLimits cs = (c : ℕ) → (class_of cs c).limit ≡ None
