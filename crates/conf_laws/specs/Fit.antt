-- What the numbers, the names and the tree of a configuration keep to, after altq.conf(5): each configuration that a text has is so.
use Rattle.std.specs.Prelude.{◌≡◌, ◌≢◌, ◌≤◌, ◌<◌, ◌*◌, ◌^◌, ◌⊎◌, ℕ, true, false, List, [], length, Option, Some, None, slice_get, codes, bit_and}
use Rattle.service_curve.specs.declared.Curve.{Curve}
use Rattle.conf_lines.specs.Laws.{AreBytes}
use Rattle.line_text.specs.Names.{is_name}
use Rattle.conf_lines.specs.Options.{most_rate}
use Rattle.conf_tree.specs.declared.class.Class.{Class}
use Rattle.conf_tree.specs.declared.filter.Addresses.{Addresses}
use Rattle.conf_tree.specs.declared.filter.Addresses.TheVariants.{V4, V6}
use Rattle.conf_tree.specs.declared.filter.Filter.{Filter}
use Rattle.conf_tree.specs.declared.interface.Interface.{Interface}
use Rattle.conf_tree.specs.declared.interface.Kind.{Kind}
use Rattle.conf_tree.specs.declared.interface.Kind.TheVariants.{Hfsc, Cbq}
use Rattle.conf_tree.specs.Family.{IsOnLevel}
use Rattle.conf_tree.specs.Masks.{masked, prefix}
use Rattle.conf_tree.specs.Meters.{IsMeterIfAny}
use Rattle.conf_tree.specs.Whole.{implied_classes}

-- a NAME: 1 to 64 letters, digits and a few signs
abbrev pub IsName : List ℕ → Type 0
IsName name = is_name name ≡ true

abbrev pub IsBetween : ℕ → ℕ → ℕ → Type 0
IsBetween low high n = (low ≤ n) × (n ≤ high)

-- A curve that may be set: slopes of at most 10^12, the first at least `low` and the second at least `least`, and not 0 < m1 < m2; a
-- bend in whole milliseconds, at most 10^6 of them. It has a bend where its slopes differ, and there alone.
pub record IsCurve (low least : ℕ) (s : Curve) : Type 0 where
  pub first : IsBetween low most_rate s.m1
  pub second : IsBetween least most_rate s.m2
  pub bend : (d : ℕ) × (d ≤ 1000000) × (s.d ≡ d * 10 ^ 6)
  pub upward : (s.m1 ≡ 0) ⊎ (s.m2 ≤ s.m1)
  pub one_slope : s.d ≡ 0 → s.m1 ≡ s.m2
  pub two_slopes : s.m1 ≡ s.m2 → s.d ≡ 0

abbrev pub IsCurveIfAny : ℕ → ℕ → Option Curve → Type 0
IsCurveIfAny low least None = Unit {0}
IsCurveIfAny low least (Some s) = IsCurve low least s

-- A class that may be a parent: it is not named NULL, which means that there is no parent; it has no real-time curve, and in HFSC,
-- where it holds no packets, it is not the default class and has no conditioner.
pub record IsParent (kind : Kind) (c : Class) : Type 0 where
  pub named : c.name ≢ codes "NULL"
  pub real : c.real ≡ None
  pub inner : kind ≡ Hfsc → c.is_default ≡ false
  pub unmetered : kind ≡ Hfsc → c.meter ≡ None

-- the first class is the root, which has no parent; each other class has a parent that stands before it
abbrev pub HasParent : Kind → List Class → ℕ → Option ℕ → Type 0
HasParent kind classes k None = k ≡ 0
HasParent kind classes k (Some p) = (p < k) × (q : Class) × (slice_get classes p ≡ Some q) × IsParent kind q

-- what a class of each kind has; what the other kind has is 0
pub record IsHfscClass (c : Class) : Type 0 where
  pub real : IsCurveIfAny 0 0 c.real
  pub share : IsCurveIfAny 0 1 c.share
  pub upper : IsCurveIfAny 1000 1000 c.upper
  pub shared : c.parent ≢ None → c.share ≢ None
  pub rate : c.rate ≡ 0
  pub priority : c.priority ≡ 0
  pub borrow : c.borrow ≡ false
  pub control : c.control ≡ false
  pub maxburst : c.maxburst ≡ 0
  pub packetsize : c.packetsize ≡ 0

pub record IsCbqClass (c : Class) : Type 0 where
  pub real : c.real ≡ None
  pub share : c.share ≡ None
  pub upper : c.upper ≡ None
  pub rate : IsBetween 1000 most_rate c.rate
  pub priority : c.priority ≤ 7
  pub maxburst : IsBetween 1 1000 c.maxburst
  pub packetsize : IsBetween 1 262144 c.packetsize

abbrev pub IsOfKind : Kind → Class → Type 0
IsOfKind Hfsc c = IsHfscClass c
IsOfKind Cbq c = IsCbqClass c

-- the class of a number, on one of eight levels; its conditioner, if it has one, has the numbers of a meter
pub record IsClass (kind : Kind) (classes : List Class) (k : ℕ) (c : Class) : Type 0 where
  pub name : IsName c.name
  pub parent : HasParent kind classes k c.parent
  pub level : ℕ
  pub on : IsOnLevel classes k level
  pub eight : level ≤ 8
  pub limit : IsBetween 1 10000 c.limit
  pub own : IsOfKind kind c
  pub meter : IsMeterIfAny c.meter

-- addresses under their masks
pub record IsMasked (a m : List ℕ) : Type 0 where
  pub address : AreBytes 4 a
  pub mask : AreBytes 4 m
  pub under : masked a m ≡ a

pub record IsPrefix (a : List ℕ) (n : ℕ) : Type 0 where
  pub address : AreBytes 16 a
  pub bits : n ≤ 128
  pub first : prefix n a ≡ a

abbrev pub AreAddresses : Addresses → Type 0
AreAddresses (V4 target target_mask source source_mask) = IsMasked target target_mask × IsMasked source source_mask
AreAddresses (V6 target target_len source source_len) = IsPrefix target target_len × IsPrefix source source_len

-- a type of service under its mask
abbrev pub IsTos : Option (ℕ × ℕ) → Type 0
IsTos None = Unit {0}
IsTos (Some (tos, mask)) = (tos ≤ 255) × (mask ≤ 255) × (bit_and tos mask ≡ tos)

-- a filter names a class of its interface, in HFSC one without children
pub record IsFilter (kind : Kind) (classes : List Class) (f : Filter) : Type 0 where
  pub class : f.class < length classes
  pub outer : kind ≡ Hfsc → (k : ℕ) (c : Class) → slice_get classes k ≡ Some c → c.parent ≢ Some f.class
  pub ruleno : f.ruleno < 2 ^ 32
  pub addresses : AreAddresses f.addresses
  pub target_port : f.target_port ≤ 65535
  pub source_port : f.source_port ≤ 65535
  pub protocol : f.protocol ≤ 255
  pub tos : IsTos f.tos

-- one class is the default class
pub record HasDefault (classes : List Class) : Type 0 where
  pub number : ℕ
  pub class : Class
  pub at : slice_get classes number ≡ Some class
  pub is_default : class.is_default ≡ true
  pub one : (k : ℕ) (c : Class) → slice_get classes k ≡ Some c → c.is_default ≡ true → k ≡ number

-- the classes and filters of an interface, whether a text has them or they are implied
pub record IsTree (kind : Kind) (classes : List Class) (filters : List Filter) : Type 0 where
  pub class : (k : ℕ) (c : Class) → slice_get classes k ≡ Some c → IsClass kind classes k c
  pub names : (j k : ℕ) (a b : Class) → slice_get classes j ≡ Some a → slice_get classes k ≡ Some b → a.name ≡ b.name → j ≡ k
  pub default : HasDefault classes
  pub filter : (k : ℕ) (f : Filter) → slice_get filters k ≡ Some f → IsFilter kind classes f

-- the classes that are implied where the text has none
pub record IsImplied (i : Interface) : Type 0 where
  pub classes : i.classes ≡ implied_classes i.kind i.rate
  pub filters : i.filters ≡ []

pub record IsInterface (i : Interface) : Type 0 where
  pub name : IsName i.name
  pub rate : IsBetween 1000 most_rate i.rate
  pub classes : length i.classes ≤ 256
  pub filters : length i.filters ≤ 1024
  pub tree : IsTree i.kind i.classes i.filters
  pub implied : i.implied ≡ true → IsImplied i

-- at most 16 interfaces, each with a name of its own
pub record AreFit (interfaces : List Interface) : Type 0 where
  pub count : length interfaces ≤ 16
  pub interface : (k : ℕ) (i : Interface) → slice_get interfaces k ≡ Some i → IsInterface i
  pub names : (j k : ℕ) (a b : Interface) → slice_get interfaces j ≡ Some a → slice_get interfaces k ≡ Some b → a.name ≡ b.name → j ≡ k
