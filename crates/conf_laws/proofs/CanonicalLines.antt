-- Each line of the canonical text is legible.
use Rattle.std.proofs.Common.{◌≡◌, ◌≢◌, ℕ, suc, ◌-◌, ◌^◌, ◌<◌, ◌≤◌, ◌||◌, Bool, true, false, List, [], ◌∷◌, ◌++◌, Option, Some, None, is_some, if◌then◌else◌, codes, decimal, Ok, refl, arith}
use Rattle.std.specs.List.{AllByRecursion as Every}
use Rattle.service_curve.specs.declared.Curve.{Curve}
use Rattle.traffic_meter.specs.declared.rule.MeterRule.{MeterRule}
use Rattle.traffic_meter.specs.declared.rule.MeterRule.TheVariants.{Single, Two}
use Rattle.conf_lines.specs.Grammar.{step, end, at_statement, at_discipline, at_parent}
use Rattle.conf_lines.specs.Options.{most_rate, most_burst, most_af}
use Rattle.conf_lines.specs.Slots.{is_text, whole_in}
use Rattle.conf_lines.specs.declared.item.What.{What}
use Rattle.conf_lines.specs.declared.item.What.TheVariants as what
use Rattle.conf_tree.specs.Canonical.{parent_word, interface_line, class_options, kind_word, class_form, class_line, class_word, filter_word, filter_form, filter_whats_by, filter_line, conditioner_line, class_lines, filter_lines, meter_lines, conditioner_lines, written_classes, interface_lines, canonical_lines}
use Rattle.conf_tree.specs.Meters.{IsMeter, IsMeterIfAny}
use Rattle.conf_tree.specs.Settings.{unset}
use Rattle.conf_tree.specs.declared.class.Class.{Class}
use Rattle.conf_tree.specs.declared.filter.Addresses.{Addresses}
use Rattle.conf_tree.specs.declared.filter.Addresses.TheVariants.{V4, V6}
use Rattle.conf_tree.specs.declared.filter.Filter.{Filter}
use Rattle.conf_tree.specs.declared.interface.Interface.{Interface}
use Rattle.conf_tree.specs.declared.interface.Kind.{Kind}
use Rattle.conf_tree.specs.declared.interface.Kind.TheVariants.{Hfsc, Cbq}
use Rattle.conf_laws.specs.Fit.{IsName, IsBetween, IsOfKind, IsFilter, IsTos, AreAddresses, IsInterface, AreFit, HasParent}
use Rattle.conf_laws.proofs.Bytes.{every-append}
use Rattle.conf_laws.proofs.ClassOptions.{Part, between, settings_of, hfsc_part, cbq_part, all_read}
use Rattle.conf_laws.proofs.ListPlaces.{Each, element}
use Rattle.conf_laws.proofs.Lines.{IsRead, IsLegible}
use Rattle.conf_laws.proofs.Printed.{address_is_read, mask_is_read, prefix_is_read, name_is_read, rate_is_read, whole_is_read, protocol_is_read}
use Rattle.conf_laws.proofs.Types.{Settings}

-- INTERFACES AND CLASSES
interface_is_read : (i : Interface) (kind : Kind) → IsName i.name → IsBetween 1000 most_rate i.rate → IsRead (interface_line (record i { kind = kind }))
unfolding step at_statement is_text end
interface_is_read i Hfsc is_name is_rate = λ line. rw (name_is_read i.name is_name, rate_is_read 1000 most_rate i.rate is_rate (omega arith)) refl
interface_is_read i Cbq is_name is_rate = λ line. rw (name_is_read i.name is_name, rate_is_read 1000 most_rate i.rate is_rate (omega arith)) refl

interface_is_legible : (i : Interface) → IsName i.name → IsBetween 1000 most_rate i.rate → IsLegible (interface_line i)
interface_is_legible i is_name is_rate = record { words = search arith; count = omega arith; read = interface_is_read i i.kind is_name is_rate }

-- an HFSC class has what it must have: it is the root, or it has a link-sharing curve
is_completed : (all : List Class) (parent : Option ℕ) (share : Option Curve) → (parent ≢ None → share ≢ None)
    → (is_some share || is_text (codes "NULL") (parent_word all parent)) ≡ true
unfolding is_text
is_completed all parent (Some s) shared = refl
is_completed all None None shared = refl
is_completed all (Some p) None shared = absurd (shared (λ e. cc) refl)

options_part : (kind : Kind) (all : List Class) (c : Class) → IsOfKind kind c → IsBetween 1 10000 c.limit
    → Part (class_form kind) c.is_default (between (is_text (codes "NULL") (parent_word all c.parent)) unset) (between true (settings_of kind c))
    (class_options kind c) 17
options_part Hfsc all c own limit =
    let part = hfsc_part {completed = is_text (codes "NULL") (parent_word all c.parent)} c own limit in
    rw (is_completed all c.parent c.share own.shared) at part
options_part Cbq all c own limit = let part = cbq_part c own limit in record { may = part.may; few = omega (arith, part.few); read = part.read; set = part.set }

-- class hfsc or class cbq, three names and the options
class_is_legible : (kind : Kind) (interface name parent : List ℕ) {is_default : Bool} {s t : Settings} {options : List What} → IsName interface → IsName name
    → IsName parent → Part (class_form kind) is_default (between (is_text (codes "NULL") parent) s) (between true t) options 17
    → IsLegible (record {
      first = codes "class" ∷ kind_word kind ∷ [];
      form = class_form kind;
      whats = what.Name interface ∷ what.Name name ∷ what.Name parent ∷ options;
    })
unfolding step at_statement at_discipline at_parent is_text
class_is_legible Hfsc interface name parent is_interface is_name is_parent part = record {
  words = ((refl, (refl, tt)), (is_interface, (is_name, (is_parent, part.may))));
  count = omega (arith, part.few);
  read = λ line. rw (name_is_read interface is_interface, name_is_read name is_name, name_is_read parent is_parent, all_read part line 6) refl;
}
class_is_legible Cbq interface name parent is_interface is_name is_parent part = record {
  words = ((refl, (refl, tt)), (is_interface, (is_name, (is_parent, part.may))));
  count = omega (arith, part.few);
  read = λ line. rw (name_is_read interface is_interface, name_is_read name is_name, name_is_read parent is_parent, all_read part line 6) refl;
}

-- FILTERS
-- the numbers of a filter
ruleno_is_read : (n : ℕ) → n < 2 ^ 32 → whole_in 0 (2 ^ 32 - 1) (decimal n) ≡ Ok n
ruleno_is_read n small = whole_is_read 0 (2 ^ 32 - 1) n (omega arith) (omega arith)

port_is_read : (n : ℕ) → n ≤ 65535 → whole_in 0 65535 (decimal n) ≡ Ok n
port_is_read n most = whole_is_read 0 65535 n (omega arith) (omega arith)

tos_is_read : (n : ℕ) → n ≤ 255 → whole_in 0 255 (decimal n) ≡ Ok n
tos_is_read n most = whole_is_read 0 255 n (omega arith) (omega arith)

-- its words in their order
ruleset words4 =
    (name_is_read, name_is_read, ruleno_is_read, address_is_read, mask_is_read, port_is_read, address_is_read, mask_is_read, port_is_read, protocol_is_read)

ruleset words6 = (name_is_read, name_is_read, ruleno_is_read, prefix_is_read, port_is_read, prefix_is_read, port_is_read, protocol_is_read)

filter_is_legible : (interface class : List ℕ) {kind : Kind} {all : List Class} (f : Filter) (a : Addresses) (o : Option (ℕ × ℕ))
    → IsName interface → IsName class → IsFilter kind all f → AreAddresses a → IsTos o
    → IsLegible (record { first = filter_word a ∷ []; form = filter_form a; whats = filter_whats_by interface class (record f { tos = o }) a })
unfolding step at_statement is_text end
filter_is_legible interface class f (V4 target target_mask source source_mask) None is_interface is_class is (t, s) tos = record {
  words = search arith;
  count = omega arith;
  read = λ line. rw (words4, is.ruleno, is.target_port, is.source_port, is.protocol, t.address, t.mask, s.address, s.mask);
}
filter_is_legible interface class f (V4 target target_mask source source_mask) (Some (service, mask)) is_interface is_class is (t, s) tos = record {
  words = search arith;
  count = omega arith;
  read = λ line.
      rw (words4, tos_is_read, tos_is_read, is.ruleno, is.target_port, is.source_port, is.protocol, t.address, t.mask, s.address, s.mask, tos.0, tos.1);
}
filter_is_legible interface class f (V6 target target_len source source_len) None is_interface is_class is (t, s) tos = record {
  words = search arith;
  count = omega arith;
  read = λ line. rw (words6, is.ruleno, is.target_port, is.source_port, is.protocol, t.address, t.bits, s.address, s.bits);
}
filter_is_legible interface class f (V6 target target_len source source_len) (Some (service, mask)) is_interface is_class is (t, s) tos = record {
  words = search arith;
  count = omega arith;
  read = λ line.
      rw (words6, tos_is_read, tos_is_read, is.ruleno, is.target_port, is.source_port, is.protocol, t.address, t.bits, s.address, s.bits, tos.0, tos.1);
}

-- CONDITIONERS
conditioner_is_legible : (interface class : List ℕ) (rule : MeterRule) → IsName interface → IsName class → IsMeter rule
    → IsLegible (conditioner_line interface class rule)
unfolding step at_statement is_text end
conditioner_is_legible interface class (Single cir cbs ebs af) is_interface is_class m =
    let bursts : (cbs < 2 ^ 64) × (ebs < 2 ^ 64) × (af < 2 ^ 64) =
    (omega (arith, m.burst_most), omega (arith, m.excess_most), omega (arith, m.af_most)) in
    record {
      words = ((refl, tt), (is_interface, (is_class, (tt, (omega (arith, m.rate_most), (bursts.0, (bursts.1, (bursts.2, tt))))))));
      count = omega arith;
      read = λ line. rw (
        name_is_read interface is_interface,
        name_is_read class is_class,
        rate_is_read 1000 most_rate cir (m.rate_least, m.rate_most) (omega arith),
        whole_is_read 1 most_burst cbs (m.burst_least, m.burst_most) (omega arith),
        whole_is_read 0 most_burst ebs (omega arith, m.excess_most) (omega arith),
        whole_is_read 1 most_af af (m.af_least, m.af_most) (omega arith),
      ) refl;
    }
conditioner_is_legible interface class (Two pir pbs cir cbs af) is_interface is_class m =
    let rates : (pir < 2 ^ 64) × (cir < 2 ^ 64) = (omega (arith, m.peak_most), omega (arith, m.peak_most, m.rate_most)) in
    let bursts : (pbs < 2 ^ 64) × (cbs < 2 ^ 64) × (af < 2 ^ 64) =
    (omega (arith, m.peak_burst_most), omega (arith, m.burst_most), omega (arith, m.af_most)) in
    let peak_least : 1000 ≤ pir = omega (arith, m.rate_least, m.rate_most) in
    record {
      words = ((refl, tt), (is_interface, (is_class, (tt, (rates.0, (bursts.0, (rates.1, (bursts.1, (bursts.2, tt)))))))));
      count = omega arith;
      read = λ line. rw (
        name_is_read interface is_interface,
        name_is_read class is_class,
        rate_is_read 1000 most_rate pir (peak_least, m.peak_most) (omega arith),
        whole_is_read 1 most_burst pbs (m.peak_burst_least, m.peak_burst_most) (omega arith),
        rate_is_read 1000 pir cir (m.rate_least, m.rate_most) rates.0,
        whole_is_read 1 most_burst cbs (m.burst_least, m.burst_most) (omega arith),
        whole_is_read 1 most_af af (m.af_least, m.af_most) (omega arith),
      ) refl;
    }

meter_is_legible : (interface class : List ℕ) (meter : Option MeterRule) → IsName interface → IsName class → IsMeterIfAny meter
    → Every IsLegible (meter_lines interface class meter)
meter_is_legible interface class None is_interface is_class m = tt
meter_is_legible interface class (Some rule) is_interface is_class m = (conditioner_is_legible interface class rule is_interface is_class m, tt)

-- where the line of each element is legible, all lines are
classes_are_legible : (kind : Kind) (interface : List ℕ) (all classes : List Class) → Each (λ c. IsLegible (class_line kind interface all c)) classes
    → Every IsLegible (class_lines kind interface all classes)
classes_are_legible kind interface all [] each = tt
classes_are_legible kind interface all (c ∷ classes) each = (each 0 c refl, classes_are_legible kind interface all classes (λ k. each (suc k)))

filters_are_legible : (interface : List ℕ) (all : List Class) (filters : List Filter) → Each (λ f. IsLegible (filter_line interface all f)) filters
    → Every IsLegible (filter_lines interface all filters)
filters_are_legible interface all [] each = tt
filters_are_legible interface all (f ∷ filters) each = (each 0 f refl, filters_are_legible interface all filters (λ k. each (suc k)))

conditioners_are_legible : (interface : List ℕ) (classes : List Class) → IsName interface → Each (λ c. IsName c.name × IsMeterIfAny c.meter) classes
    → Every IsLegible (conditioner_lines interface classes)
conditioners_are_legible interface [] is_interface each = tt
conditioners_are_legible interface (c ∷ classes) is_interface each =
    let (is_class, meter) = each 0 c refl in
    every-append IsLegible (meter_lines interface c.name c.meter) (conditioner_lines interface classes)
    (meter_is_legible interface c.name c.meter is_interface is_class meter)
    (conditioners_are_legible interface classes is_interface (λ k. each (suc k)))

module _ (i : Interface) (is : IsInterface i) where
  parent_is_name : (k : ℕ) (parent : Option ℕ) → HasParent i.kind i.classes k parent → IsName (parent_word i.classes parent)
  parent_is_name k None has = refl
  parent_is_name k (Some p) (before, q, at, parent) = rw at (is.tree.class p q at).name

  class_lines_are : (implied : Bool) → Every IsLegible (class_lines i.kind i.name i.classes (if implied then [] else i.classes))
  class_lines_are true = tt
  class_lines_are false =
      classes_are_legible i.kind i.name i.classes i.classes (λ k c at.
      let own = is.tree.class k c at in
      let options = options_part i.kind i.classes c own.own own.limit in
      class_is_legible i.kind i.name c.name (parent_word i.classes c.parent) is.name own.name (parent_is_name k c.parent own.parent) options)

  filter_lines_are : Every IsLegible (filter_lines i.name i.classes i.filters)
  filter_lines_are =
      filters_are_legible i.name i.classes i.filters (λ k f at.
      let own = is.tree.filter k f at in
      let (c, class_at) = element i.classes f.class own.class in
      let class_is_name : IsName (class_word i.classes f.class) = rw class_at (is.tree.class f.class c class_at).name in
      filter_is_legible i.name (class_word i.classes f.class) f f.addresses f.tos is.name class_is_name own own.addresses own.tos)

  conditioner_lines_are : (implied : Bool) → Every IsLegible (conditioner_lines i.name (if implied then [] else i.classes))
  conditioner_lines_are true = tt
  conditioner_lines_are false =
      conditioners_are_legible i.name i.classes is.name (λ k c at. let own = is.tree.class k c at in (own.name, own.meter))

  lines_are : Every IsLegible (interface_lines i)
  lines_are =
      let filters = filter_lines i.name i.classes i.filters in
      let conditioners = conditioner_lines i.name (written_classes i) in
      let behind = every-append IsLegible filters conditioners filter_lines_are (conditioner_lines_are i.implied) in (
        interface_is_legible i is.name is.rate,
        every-append IsLegible (class_lines i.kind i.name i.classes (written_classes i)) (filters ++ conditioners) (class_lines_are i.implied) behind,
      )

all_are_legible : (interfaces : List Interface) → Each IsInterface interfaces → Every IsLegible (canonical_lines interfaces)
all_are_legible [] each = tt
all_are_legible (i ∷ interfaces) each =
    every-append IsLegible (interface_lines i) (canonical_lines interfaces) (lines_are i (each 0 i refl))
    (all_are_legible interfaces (λ k. each (suc k)))

pub lines_are_legible : (interfaces : List Interface) → AreFit interfaces → Every IsLegible (canonical_lines interfaces)
lines_are_legible interfaces fit = all_are_legible interfaces fit.interface
