-- The classes of an interface as a family: children, leaves and levels, the default class, and which classes hold packets.
use Rattle.std.specs.Prelude.{◌≡◌, ℕ, ◌+◌, ◌==◌, ◌&&◌, Bool, false, not, List, length, map, filter, position, unwrap_or, nat_lt, Option, Some, None, slice_get}
use Rattle.std.specs.List.{list_any, enumerate_from}
use Rattle.conf_tree.specs.declared.class.Class.{Class}
use Rattle.conf_tree.specs.declared.interface.Kind.{Kind}
use Rattle.conf_tree.specs.declared.interface.Kind.TheVariants.{Hfsc, Cbq}

-- a class of this parent
abbrev pub names_parent : ℕ → Option ℕ → Bool
names_parent p None = false
names_parent p (Some q) = q == p

abbrev pub is_child : ℕ → Class → Bool
is_child p c = names_parent p c.parent

-- the numbers of the children of a class, in the order of the text; a class without any is a leaf
abbrev pub children : List Class → ℕ → List ℕ
children classes p = map (λ numbered. numbered.0) (filter (λ numbered. is_child p numbered.1) (enumerate_from 0 classes))

abbrev pub is_leaf : List Class → ℕ → Bool
is_leaf classes k = not (list_any (λ c. is_child k c) classes)

-- a class is on a level: the root on the first, each other class below its parent
pub data IsOnLevel (classes : List Class) : ℕ → ℕ → Type 0 where
  root : (k : ℕ) (c : Class) → slice_get classes k ≡ Some c → c.parent ≡ None → IsOnLevel classes k 1
  below : (k p level : ℕ) (c : Class) → slice_get classes k ≡ Some c → c.parent ≡ Some p → IsOnLevel classes p level
      → IsOnLevel classes k (level + 1)

-- the number of the default class; 0, the root's, if there were none
abbrev pub default_class : List Class → ℕ
default_class classes = unwrap_or (position (λ c. c.is_default) classes) 0

-- a class that holds packets: in HFSC a leaf, in CBQ every class
abbrev pub is_queue_class : Kind → List Class → ℕ → Bool
is_queue_class Hfsc classes k = nat_lt k (length classes) && is_leaf classes k
is_queue_class Cbq classes k = nat_lt k (length classes)
