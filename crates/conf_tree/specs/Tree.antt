-- An interface as far as its statements are read, and what they do to it.
use Rattle.std.specs.Prelude.{ℕ, ◌||◌, Bool, true, false, List, [], ◌∷◌, ◌++◌, Option, Some, None, is_none, position, slice_get, slice_set, bytes_eq}
use Rattle.traffic_meter.specs.declared.rule.MeterRule.{MeterRule}
use Rattle.conf_tree.specs.declared.branch.Branch.{Branch}
use Rattle.conf_tree.specs.declared.conditioner.Conditioner.{Conditioner}
use Rattle.conf_tree.specs.declared.filter.Filter.{Filter}
use Rattle.conf_tree.specs.declared.interface.Kind.{Kind}

-- its statement's line, its name, its bandwidth and its kind; whether it has a root and a default class; its classes and
-- filters in the order of the text
pub record Begun : Type 0 where
  pub line : ℕ
  pub name : List ℕ
  pub rate : ℕ
  pub kind : Kind
  pub rooted : Bool
  pub chosen : Bool
  pub classes : List Branch
  pub filters : List Filter

abbrev pub begun : ℕ → List ℕ → ℕ → Kind → Begun
begun line name rate kind =
    record { line = line; name = name; rate = rate; kind = kind; rooted = false; chosen = false; classes = []; filters = [] }

abbrev pub interface_name : Begun → List ℕ
interface_name b = b.name

abbrev pub class_name : Branch → List ℕ
class_name c = c.class.name

-- the number of the interface, or of the class, of a name
abbrev pub interface_number : List ℕ → List Begun → Option ℕ
interface_number name interfaces = position (λ b. bytes_eq name b.name) interfaces

abbrev pub class_number : List ℕ → List Branch → Option ℕ
class_number name classes = position (λ c. bytes_eq name c.class.name) classes

-- a class that is named as a parent has no real-time curve
abbrev pub as_parent : Branch → Branch
as_parent c = record c { class = record c.class { real = None }; inner = true }

abbrev pub as_filtered : Branch → Branch
as_filtered c = record c { filtered = true }

abbrev pub as_metered : MeterRule → Branch → Branch
as_metered rule c = record c { class = record c.class { meter = Some rule } }

-- the class of a number changed
abbrev pub changed_to : List Branch → ℕ → (Branch → Branch) → Option Branch → List Branch
changed_to classes i change None = classes
changed_to classes i change (Some c) = slice_set classes i (change c)

abbrev pub changed : List Branch → ℕ → (Branch → Branch) → List Branch
changed classes i change = changed_to classes i change (slice_get classes i)

abbrev pub with_parent : List Branch → Option ℕ → List Branch
with_parent classes None = classes
with_parent classes (Some i) = changed classes i as_parent

-- a class more, a filter more, and a conditioner more
abbrev pub add_class : Begun → Branch → Begun
add_class b c = record b {
  rooted = b.rooted || is_none c.class.parent;
  chosen = b.chosen || c.class.is_default;
  classes = with_parent b.classes c.class.parent ++ c ∷ [];
}

abbrev pub add_filter : Begun → Filter → Begun
add_filter b f = record b { classes = changed b.classes f.class as_filtered; filters = b.filters ++ f ∷ [] }

abbrev pub add_conditioner : Begun → Conditioner → Begun
add_conditioner b c = record b { classes = changed b.classes c.class (as_metered c.rule) }
