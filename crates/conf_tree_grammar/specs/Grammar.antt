-- THE GRAMMAR OF THE TREE, as a user writes it: what each statement may say behind those before it, after altq.conf(5) in this project's
-- own profile. What stands before is a list of sayings that has the last one first.
use Rattle.std.specs.Prelude.{◌≡◌, ◌≤◌, ◌+◌, ◌&&◌, ◌||◌, not, ℕ, Bool, true, false, List, [], ◌∷◌, nat_le, Option, Some, None, if◌then◌else◌, codes, bytes_eq}
use Rattle.conf_lines.specs.declared.item.Item.{Item}
use Rattle.conf_tree.specs.declared.interface.Kind.{Kind}
use Rattle.conf_tree.specs.declared.interface.Kind.TheVariants.{Hfsc, Cbq}
use Rattle.conf_tree_grammar.specs.Options.{AreRates, defaults, has_rate, has_share, real_time_stays}
use Rattle.conf_tree_grammar.specs.Sayings.{Saying, Class, Conditioner, Filter, Interface}

-- what was said of an interface
abbrev pub interface_of : Saying → List ℕ
interface_of (Interface name kind bandwidth) = name
interface_of (Class kind interface name parent options) = interface
interface_of (Filter interface class) = interface
interface_of (Conditioner interface class) = interface

abbrev pub said_of : List ℕ → List Saying → List Saying
said_of name [] = []
said_of name (y ∷ before) = if bytes_eq name (interface_of y) then y ∷ said_of name before else said_of name before

-- how many interfaces there are
abbrev pub interfaces : List Saying → ℕ
interfaces [] = 0
interfaces (Interface name kind bandwidth ∷ before) = interfaces before + 1
interfaces (y ∷ before) = interfaces before

-- OF ONE INTERFACE: its kind, where it stands, and its bandwidth
abbrev pub kind_said : List Saying → Option Kind
kind_said [] = None
kind_said (Interface name kind bandwidth ∷ before) = Some kind
kind_said (y ∷ before) = kind_said before

abbrev pub bandwidth_said : List Saying → ℕ
bandwidth_said [] = 0
bandwidth_said (Interface name kind bandwidth ∷ before) = bandwidth
bandwidth_said (y ∷ before) = bandwidth_said before

-- how many classes and filters it has, and how many times `default` stands in its classes
abbrev pub classes : List Saying → ℕ
classes [] = 0
classes (Class kind interface name parent options ∷ before) = classes before + 1
classes (y ∷ before) = classes before

abbrev pub filters : List Saying → ℕ
filters [] = 0
filters (Filter interface class ∷ before) = filters before + 1
filters (y ∷ before) = filters before

abbrev pub all_defaults : List Saying → ℕ
all_defaults [] = 0
all_defaults (Class kind interface name parent options ∷ before) = defaults options + all_defaults before
all_defaults (y ∷ before) = all_defaults before

-- the parent NULL means that the class is the root
abbrev pub is_null : List ℕ → Bool
is_null parent = bytes_eq parent (codes "NULL")

abbrev pub has_root : List Saying → Bool
has_root [] = false
has_root (Class kind interface name parent options ∷ before) = is_null parent || has_root before
has_root (y ∷ before) = has_root before

-- its class of a name: whether it stands, whether it is the default class, whether its real-time curve stays
abbrev pub of_class : (Kind → List Item → Bool) → List Saying → List ℕ → Bool
of_class says [] x = false
of_class says (Class kind interface name parent options ∷ before) x = if bytes_eq x name then says kind options else of_class says before x
of_class says (y ∷ before) x = of_class says before x

abbrev pub has_class : List Saying → List ℕ → Bool
has_class before x = of_class (λ kind options. true) before x

abbrev pub one_default : List Item → Bool
one_default options = nat_le 1 (defaults options)

abbrev pub is_default : List Saying → List ℕ → Bool
is_default before x = of_class (λ kind options. one_default options) before x

abbrev pub stays_of_kind : Kind → List Item → Bool
stays_of_kind Hfsc options = real_time_stays options
stays_of_kind Cbq options = false

abbrev pub keeps_real_time : List Saying → List ℕ → Bool
keeps_real_time before x = of_class stays_of_kind before x

-- its level: the root's is 1, each other class's is its parent's and 1
abbrev pub level : List Saying → List ℕ → ℕ
level [] x = 0
level (Class kind interface name parent options ∷ before) x =
    if bytes_eq x name then (if is_null parent then 1 else level before parent + 1) else level before x
level (y ∷ before) x = level before x

-- what names it: a class as its parent, a filter, a conditioner
abbrev pub has_child : List Saying → List ℕ → Bool
has_child [] x = false
has_child (Class kind interface name parent options ∷ before) x = (not (is_null parent) && bytes_eq x parent) || has_child before x
has_child (y ∷ before) x = has_child before x

abbrev pub has_filter : List Saying → List ℕ → Bool
has_filter [] x = false
has_filter (Filter interface class ∷ before) x = bytes_eq x class || has_filter before x
has_filter (y ∷ before) x = has_filter before x

abbrev pub has_conditioner : List Saying → List ℕ → Bool
has_conditioner [] x = false
has_conditioner (Conditioner interface class ∷ before) x = bytes_eq x class || has_conditioner before x
has_conditioner (y ∷ before) x = has_conditioner before x

-- A PARENT: it stands before, its level is at most 7, and its real-time curve does not stay. In HFSC a parent holds no packets: it is not
-- the default class, and neither a filter nor a conditioner names it.
pub record HoldsNone (before : List Saying) (x : List ℕ) : Type 0 where
  pub default : is_default before x ≡ false
  pub filter : has_filter before x ≡ false
  pub conditioner : has_conditioner before x ≡ false

pub record MayBeParent (kind : Kind) (before : List Saying) (x : List ℕ) : Type 0 where
  pub stands : has_class before x ≡ true
  pub level : level before x ≤ 7
  pub real_time : keeps_real_time before x ≡ false
  pub packets : kind ≡ Hfsc → HoldsNone before x

-- a class other than the root has a link-sharing curve in HFSC, a rate in CBQ
abbrev pub has_own : Kind → List Item → Bool
has_own Hfsc options = has_share options
has_own Cbq options = has_rate options

-- A CLASS: its interface stands before and is of its kind; there are at most 255 others; its name is new; it is the first root, or below
-- a class that may be a parent; `default` stands once at most
pub record MayBeClass (before : List Saying) (kind : Kind) (name parent : List ℕ) (options : List Item) : Type 0 where
  pub stands : kind_said before ≡ Some kind
  pub room : classes before ≤ 255
  pub new : has_class before name ≡ false
  pub root : is_null parent ≡ true → has_root before ≡ false
  pub below : is_null parent ≡ false → MayBeParent kind before parent
  pub own : is_null parent ≡ false → has_own kind options ≡ true
  pub default : defaults options + all_defaults before ≤ 1
  pub rates : AreRates (bandwidth_said before) options

-- A FILTER, a conditioner: its interface stands before, and so does its class, which in HFSC has no children
pub record MayBeNamed (before : List Saying) (class : List ℕ) : Type 0 where
  pub kind : Kind
  pub said : kind_said before ≡ Some kind
  pub stands : has_class before class ≡ true
  pub leaf : kind ≡ Hfsc → has_child before class ≡ false

pub record MayBeFilter (before : List Saying) (class : List ℕ) : Type 0 where
  pub named : MayBeNamed before class
  pub room : filters before ≤ 1023

pub record MayBeConditioner (before : List Saying) (class : List ℕ) : Type 0 where
  pub named : MayBeNamed before class
  pub first : has_conditioner before class ≡ false

-- AN INTERFACE: there are at most 15 others, and its name is new
pub record MayBeInterface (before : List Saying) (name : List ℕ) : Type 0 where
  pub room : interfaces before ≤ 15
  pub new : kind_said (said_of name before) ≡ None

abbrev pub MayBeSaid : List Saying → Saying → Type 0
MayBeSaid before (Interface name kind bandwidth) = MayBeInterface before name
MayBeSaid before (Class kind interface name parent options) = MayBeClass (said_of interface before) kind name parent options
MayBeSaid before (Filter interface class) = MayBeFilter (said_of interface before) class
MayBeSaid before (Conditioner interface class) = MayBeConditioner (said_of interface before) class

-- THE WHOLE: each statement may stand behind those before it, and at the end each interface that has classes has one default class
abbrev pub HaveDefaults : List Saying → Type 0
HaveDefaults all = (name : List ℕ) → 1 ≤ classes (said_of name all) → all_defaults (said_of name all) ≡ 1

abbrev pub IsTreeFrom : List Saying → List Saying → Type 0
IsTreeFrom before [] = HaveDefaults before
IsTreeFrom before (y ∷ more) = MayBeSaid before y × IsTreeFrom (y ∷ before) more

abbrev pub IsTree : List Saying → Type 0
IsTree sayings = IsTreeFrom [] sayings
