-- The end of the text: each interface that has classes has a default, and one that has none has two implied classes.
use Rattle.std.specs.Prelude.{ℕ, ◌==◌, ◌&&◌, length, Bool, not, List, [], ◌∷◌, map, if◌then◌else◌, Option, Some, None, Result, Ok, Err, codes, is_some}
use Rattle.service_curve.specs.declared.Curve.{Curve}
use Rattle.service_curve.specs.Curve.{straight}
use Rattle.conf_lines.specs.declared.fault.ConfPlace.{ConfPlace}
use Rattle.conf_tree.specs.declared.branch.Branch.{Branch}
use Rattle.conf_tree.specs.declared.class.Class.{Class}
use Rattle.conf_tree.specs.declared.interface.Interface.{Interface}
use Rattle.conf_tree.specs.declared.interface.Kind.{Kind}
use Rattle.conf_tree.specs.declared.interface.Kind.TheVariants.{Hfsc, Cbq}
use Rattle.conf_tree.specs.Places.{fault_at}
use Rattle.conf_lines.specs.declared.fault.ConfKind.TheVariants.{NoDefault}
use Rattle.conf_tree.specs.Settings.{unset, of_kind, class_of}
use Rattle.conf_tree.specs.Tree.{Begun}

-- a class that is implied: the default class is the one with a parent
abbrev pub implied_hfsc : List ℕ → Option ℕ → Option Curve → Class
implied_hfsc name parent share = class_of name parent 0 (record (of_kind Hfsc unset) { share = share; is_default = is_some parent })

abbrev pub implied_cbq : List ℕ → Option ℕ → ℕ → Class
implied_cbq name parent rate = class_of name parent rate (record (of_kind Cbq unset) { borrow = is_some parent; is_default = is_some parent })

-- the implied classes: a root, and below it the default class with the whole bandwidth, which borrows in CBQ
abbrev pub implied_classes : Kind → ℕ → List Class
implied_classes Hfsc rate =
    implied_hfsc (codes "root") None None ∷ implied_hfsc (codes "default") (Some 0) (Some (straight rate)) ∷ []
implied_classes Cbq rate = implied_cbq (codes "root") None rate ∷ implied_cbq (codes "default") (Some 0) rate ∷ []

-- either of them: the root has no curve in HFSC
abbrev pub share_below : Option ℕ → ℕ → Option Curve
share_below None rate = None
share_below (Some parent) rate = Some (straight rate)

abbrev pub implied : Kind → List ℕ → Option ℕ → ℕ → Class
implied Hfsc name parent rate = implied_hfsc name parent (share_below parent rate)
implied Cbq name parent rate = implied_cbq name parent rate

abbrev pub is_empty : {A : Type 0} → List A → Bool
is_empty xs = length xs == 0

abbrev pub classes_of : Kind → ℕ → List Branch → List Class
classes_of kind rate classes = if is_empty classes then implied_classes kind rate else map (λ c. c.class) classes

abbrev pub whole : Begun → Interface
whole b = record {
  name = b.name;
  rate = b.rate;
  kind = b.kind;
  implied = is_empty b.classes;
  classes = classes_of b.kind b.rate b.classes;
  filters = b.filters;
}

-- the first interface that has classes and no default, at its line and word 0
abbrev pub undecided : Begun → Bool
undecided b = not (is_empty b.classes) && not b.chosen

abbrev pub first_undecided : List Begun → Option ConfPlace
first_undecided [] = None
first_undecided (b ∷ interfaces) = if undecided b then Some (fault_at b.line 0 NoDefault) else first_undecided interfaces

abbrev pub finished_unless : List Begun → Option ConfPlace → Result (List Interface) ConfPlace
finished_unless interfaces (Some fault) = Err fault
finished_unless interfaces None = Ok (map whole interfaces)

abbrev pub finished : List Begun → Result (List Interface) ConfPlace
finished interfaces = finished_unless interfaces (first_undecided interfaces)
