-- The tree of the classes. Exactly the first class has no parent, and every other parent stands earlier in the file.
use Rattle.std.specs.Prelude.{◌≡◌, ◌<◌, ◌==◌, ◌&&◌, ℕ, zero, suc, not, nat_lt, Bool, false, List, [], ◌∷◌, length, map, get_or, Option, None, Some}
use Rattle.std.specs.List.{list_any, range_with_len}
use Rattle.service_curve.specs.declared.Curve.{Curve}
use Rattle.hfsc_model.specs.declared.HfscClass.{HfscClass}

abbrev pub no_class : HfscClass
no_class = record { parent = None; real = None; share = None; limit = None }

abbrev pub class_of : List HfscClass → ℕ → HfscClass
class_of cs c = get_or cs c no_class

-- the numbers of the classes
abbrev pub numbers : List HfscClass → List ℕ
numbers cs = range_with_len 0 (length cs)

abbrev pub is_number : ℕ → Option ℕ → Bool
is_number c None = false
is_number c (Some p) = p == c

-- p is the parent of c
abbrev pub is_child : List HfscClass → ℕ → ℕ → Bool
is_child cs p c = is_number p (class_of cs c).parent

abbrev pub is_parent : List HfscClass → ℕ → Bool
is_parent cs p = list_any (is_child cs p) (numbers cs)

-- a class that is no class's parent
abbrev pub is_leaf : List HfscClass → ℕ → Bool
is_leaf cs c = nat_lt c (length cs) && not (is_parent cs c)

-- a class, its parent and so on up to the root, over at most `levels` levels
abbrev pub path_up : ℕ → List HfscClass → Option ℕ → List ℕ
path_up zero cs o = []
path_up (suc levels) cs None = []
path_up (suc levels) cs (Some c) = c ∷ path_up levels cs (class_of cs c).parent

-- a tree has at most 8 levels
abbrev pub path : List HfscClass → ℕ → List ℕ
path cs c = path_up 8 cs (Some c)

-- d is c or stands below it
abbrev pub is_under : List HfscClass → ℕ → ℕ → Bool
is_under cs c d = list_any (λ x. x == c) (path cs d)

-- the real-time curve of each class
abbrev pub reals : List HfscClass → List (Option Curve)
reals cs = map (λ (k : HfscClass). k.real) cs

-- the first class is the root, every other parent stands earlier in the file, and no class is deeper than 8 levels
pub record IsTree (cs : List HfscClass) : Type 0 where
  pub root : (class_of cs 0).parent ≡ None
  pub earlier : (c p : ℕ) → (class_of cs c).parent ≡ Some p → p < c
  pub levels : (c : ℕ) → path_up 9 cs (Some c) ≡ path cs c
