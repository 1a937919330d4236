-- What a statement says of the tree of a configuration, where it spells a statement of the grammar of lines.
use Rattle.std.specs.Prelude.{ℕ, List, drop, Option, Some, None}
use Rattle.conf_lines.specs.declared.fault.ConfPlace.{ConfPlace}
use Rattle.conf_lines.specs.declared.item.Item.{Item}
use Rattle.conf_lines.specs.declared.statement.Form.{Form}
use Rattle.conf_lines.specs.declared.statement.Form.TheVariants as form
use Rattle.conf_lines.specs.declared.statement.Statement.{Statement}
use Rattle.conf_tree.specs.declared.interface.Kind.{Kind}
use Rattle.conf_tree.specs.declared.interface.Kind.TheVariants.{Hfsc, Cbq}
use Rattle.conf_tree.specs.Items.{name_at}
use Rattle.conf_tree.specs.Options.{kind_by_options, rate_by_options}

-- an interface of a name, a kind and a bandwidth; a class of a kind, on an interface, of a name, below a parent, with its options; a filter,
-- and a conditioner, that name a class of an interface
pub data Saying : Type 0 where
  Interface : (name : List ℕ) → (kind : Kind) → (bandwidth : ℕ) → Saying
  Class : (kind : Kind) → (interface name parent : List ℕ) → (options : List Item) → Saying
  Filter : (interface class : List ℕ) → Saying
  Conditioner : (interface class : List ℕ) → Saying

abbrev pub interface_said : Option (List ℕ) → Option Kind → ℕ → Option Saying
interface_said (Some name) (Some kind) bandwidth = Some (Interface name kind bandwidth)
interface_said (Some name) None bandwidth = None
interface_said None kind bandwidth = None

abbrev pub class_said : Kind → Option (List ℕ) → Option (List ℕ) → Option (List ℕ) → List Item → Option Saying
class_said kind (Some interface) (Some name) (Some parent) options = Some (Class kind interface name parent options)
class_said kind (Some interface) (Some name) None options = None
class_said kind (Some interface) None parent options = None
class_said kind None name parent options = None

abbrev pub filter_said : Option (List ℕ) → Option (List ℕ) → Option Saying
filter_said (Some interface) (Some class) = Some (Filter interface class)
filter_said (Some interface) None = None
filter_said None class = None

abbrev pub conditioner_said : Option (List ℕ) → Option (List ℕ) → Option Saying
conditioner_said (Some interface) (Some class) = Some (Conditioner interface class)
conditioner_said (Some interface) None = None
conditioner_said None class = None

-- by its form: the bandwidth is 100,000,000 if it is not given
abbrev pub said_by : Form → List Item → Option Saying
said_by form.Interface items = interface_said (name_at items 0) (kind_by_options None (drop 1 items)) (rate_by_options 100000000 (drop 1 items))
said_by form.ClassHfsc items = class_said Hfsc (name_at items 0) (name_at items 1) (name_at items 2) (drop 3 items)
said_by form.ClassCbq items = class_said Cbq (name_at items 0) (name_at items 1) (name_at items 2) (drop 3 items)
said_by form.Filter items = filter_said (name_at items 0) (name_at items 1)
said_by form.Filter6 items = filter_said (name_at items 0) (name_at items 1)
said_by form.Conditioner items = conditioner_said (name_at items 0) (name_at items 1)
said_by form.Unread items = None

-- a statement that does not spell one of the grammar of lines says nothing
abbrev pub unless : Option ConfPlace → Option Saying → Option Saying
unless None said = said
unless (Some fault) said = None

abbrev pub saying : Statement → Option Saying
saying s = unless s.fault (said_by s.form s.items)
