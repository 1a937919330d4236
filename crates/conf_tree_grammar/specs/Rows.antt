-- A small tree, and options of its classes.
use Rattle.std.specs.Prelude.{zero, suc, ℕ, List, [], ◌∷◌, codes}
use Rattle.conf_lines.specs.declared.item.Item.{Item}
use Rattle.conf_lines.specs.declared.item.What.TheVariants as what
use Rattle.conf_lines.specs.declared.options.Key.{Key}
use Rattle.conf_lines.specs.declared.options.Key.TheVariants as key
use Rattle.conf_tree.specs.declared.interface.Kind.TheVariants.{Hfsc}
use Rattle.conf_tree_grammar.specs.Sayings.{Saying, Class, Conditioner, Filter, Interface}

-- a curve, a rate, a part in percent, and `default`, as options
abbrev pub curve : Key → List Item → List Item
curve key items =
    record { word = 6; what = what.Key key } ∷ record { word = 7; what = what.Rate 1000000 } ∷ record { word = 8; what = what.Whole 0 }
    ∷ record { word = 9; what = what.Rate 1000000 } ∷ items

abbrev pub part : Key → ℕ → List Item
part key n = record { word = 6; what = what.Key key } ∷ record { word = 7; what = what.Whole n } ∷ []

abbrev pub default : List Item
default = record { word = 6; what = what.Key key.Default } ∷ []

-- interface if0 hfsc, class root NULL, class a root, class b a default, filter b, conditioner a
abbrev pub small : List Saying
small =
    Conditioner (codes "if0") (codes "a") ∷ Filter (codes "if0") (codes "b") ∷ Class Hfsc (codes "if0") (codes "b") (codes "a") default
    ∷ Class Hfsc (codes "if0") (codes "a") (codes "root") (curve key.Rt []) ∷ Class Hfsc (codes "if0") (codes "root") (codes "NULL") []
    ∷ Interface (codes "if0") Hfsc 8000000 ∷ []

-- what may not stand
abbrev pub Never : Type 0 → Type 0
Never A = A → ⊥

-- a root, and classes below it, each below the one before: the last is on level n + 1
abbrev pub name_of : ℕ → List ℕ
name_of zero = codes "a"
name_of (suc n) = 98 ∷ name_of n

abbrev pub chain : ℕ → List Saying
chain zero = Class Hfsc (codes "if0") (name_of 0) (codes "NULL") [] ∷ []
chain (suc n) = Class Hfsc (codes "if0") (name_of (suc n)) (name_of n) [] ∷ chain n
