-- The canonical text of a configuration: for each interface its line, its classes and its filters, in the order of the text, and the
-- conditioners of its classes. Each option that holds is written once; implied classes are not written.
use Rattle.std.specs.Prelude.{ℕ, ◌/◌, ◌^◌, Bool, true, false, List, [], ◌∷◌, ◌++◌, if◌then◌else◌, Option, Some, None, slice_get, codes}
use Rattle.service_curve.specs.declared.Curve.{Curve}
use Rattle.conf_lines.specs.declared.options.Key.{Key}
use Rattle.conf_lines.specs.declared.options.Key.TheVariants as key
use Rattle.conf_lines.specs.declared.item.What.{What}
use Rattle.conf_lines.specs.declared.item.What.TheVariants as what
use Rattle.conf_lines.specs.declared.statement.Form.{Form}
use Rattle.conf_lines.specs.declared.statement.Form.TheVariants as form
use Rattle.traffic_meter.specs.declared.rule.MeterRule.{MeterRule}
use Rattle.traffic_meter.specs.declared.rule.MeterRule.TheVariants.{Single, Two}
use Rattle.conf_tree.specs.declared.class.Class.{Class}
use Rattle.conf_tree.specs.declared.class.DropRule.{DropRule}
use Rattle.conf_tree.specs.declared.class.DropRule.TheVariants.{Tail, Red, Ecn, Rio}
use Rattle.conf_tree.specs.declared.filter.Addresses.{Addresses}
use Rattle.conf_tree.specs.declared.filter.Addresses.TheVariants.{V4, V6}
use Rattle.conf_tree.specs.declared.filter.Filter.{Filter}
use Rattle.conf_tree.specs.declared.interface.Interface.{Interface}
use Rattle.conf_tree.specs.declared.interface.Kind.{Kind}
use Rattle.conf_tree.specs.declared.interface.Kind.TheVariants.{Hfsc, Cbq}
use Rattle.conf_tree.specs.Printed.{TextLine, printed}

-- the name of the class of a number; NULL where there is none
abbrev pub name_or_null : Option Class → List ℕ
name_or_null None = codes "NULL"
name_or_null (Some c) = c.name

abbrev pub class_word : List Class → ℕ → List ℕ
class_word classes i = name_or_null (slice_get classes i)

abbrev pub parent_word : List Class → Option ℕ → List ℕ
parent_word classes None = codes "NULL"
parent_word classes (Some i) = class_word classes i

-- interface NAME bandwidth R hfsc, or cbq
abbrev pub kind_key : Kind → Key
kind_key Hfsc = key.Hfsc
kind_key Cbq = key.Cbq

abbrev pub interface_whats : Interface → List What
interface_whats i = what.Name i.name ∷ what.Key key.Bandwidth ∷ what.Rate i.rate ∷ what.Key (kind_key i.kind) ∷ []

abbrev pub interface_line : Interface → TextLine
interface_line i = record { first = codes "interface" ∷ []; form = form.Interface; whats = interface_whats i }

-- an option that is there if the condition is true
abbrev pub key_where : Key → Bool → List What
key_where key true = what.Key key ∷ []
key_where key false = []

abbrev pub drop_whats : DropRule → List What
drop_whats Tail = []
drop_whats Red = what.Key key.Red ∷ []
drop_whats Ecn = what.Key key.Ecn ∷ []
drop_whats Rio = what.Key key.Rio ∷ []

-- a curve, with its bend in milliseconds
abbrev pub curve_whats : Key → Option Curve → List What
curve_whats key None = []
curve_whats key (Some s) = what.Key key ∷ what.Rate s.m1 ∷ what.Whole (s.d / 10 ^ 6) ∷ what.Rate s.m2 ∷ []

-- class hfsc IF NAME PARENT [rt M1 D M2] [ls M1 D M2] [ul M1 D M2] qlimit N [red | ecn | rio] [cleardscp] [default]
abbrev pub class_names : List ℕ → List Class → Class → List What
class_names interface classes c = what.Name interface ∷ what.Name c.name ∷ what.Name (parent_word classes c.parent) ∷ []

abbrev pub queue_options : Class → List What
queue_options c = (what.Key key.Qlimit ∷ what.Whole c.limit ∷ []) ++ (drop_whats c.drop ++ key_where key.Cleardscp c.clear)

abbrev pub hfsc_options : Class → List What
hfsc_options c =
    curve_whats key.Rt c.real ++ (curve_whats key.Ls c.share ++ (curve_whats key.Ul c.upper
    ++ (queue_options c ++ key_where key.Default c.is_default)))

-- class cbq IF NAME PARENT priority P exactbandwidth R [borrow] maxburst N packetsize N qlimit N [red | ecn | rio]
-- [cleardscp] [control] [default]
abbrev pub cbq_options : Class → List What
cbq_options c =
    (what.Key key.Priority ∷ what.Whole c.priority ∷ what.Key key.Exactbandwidth ∷ what.Rate c.rate ∷ [])
    ++ (key_where key.Borrow c.borrow
    ++ ((what.Key key.Maxburst ∷ what.Whole c.maxburst ∷ what.Key key.Packetsize ∷ what.Whole c.packetsize ∷ [])
    ++ (queue_options c ++ (key_where key.Control c.control ++ key_where key.Default c.is_default))))

abbrev pub class_options : Kind → Class → List What
class_options Hfsc c = hfsc_options c
class_options Cbq c = cbq_options c

abbrev pub class_form : Kind → Form
class_form Hfsc = form.ClassHfsc
class_form Cbq = form.ClassCbq

abbrev pub kind_word : Kind → List ℕ
kind_word Hfsc = codes "hfsc"
kind_word Cbq = codes "cbq"

abbrev pub class_line : Kind → List ℕ → List Class → Class → TextLine
class_line kind interface all c =
    record { first = codes "class" ∷ kind_word kind ∷ []; form = class_form kind; whats = class_names interface all c ++ class_options kind c }

-- filter IF CLASS ruleno N DST netmask M DPORT SRC netmask M SPORT PROTO [tos T tosmask M]
-- filter6 IF CLASS ruleno N DST/L DPORT SRC/L SPORT PROTO [tclass T tclassmask M]
abbrev pub tos_whats : Key → Key → Option (ℕ × ℕ) → List What
tos_whats key mask_key None = []
tos_whats key mask_key (Some (tos, mask)) = what.Key key ∷ what.Whole tos ∷ what.Key mask_key ∷ what.Whole mask ∷ []

abbrev pub end4_whats : List ℕ → List ℕ → ℕ → List What
end4_whats address mask port = what.Ip4 address ∷ what.Key key.Netmask ∷ what.Ip4 mask ∷ what.Whole port ∷ []

abbrev pub end6_whats : List ℕ → ℕ → ℕ → List What
end6_whats address bits port = what.Ip6 address bits ∷ what.Whole port ∷ []

abbrev pub filter_names : List ℕ → List ℕ → ℕ → List What
filter_names interface class ruleno = what.Name interface ∷ what.Name class ∷ what.Key key.Ruleno ∷ what.Whole ruleno ∷ []

abbrev pub parts_whats : Filter → Addresses → List What
parts_whats f (V4 target target_mask source source_mask) =
    end4_whats target target_mask f.target_port
    ++ (end4_whats source source_mask f.source_port ++ (what.Whole f.protocol ∷ tos_whats key.Tos key.Tosmask f.tos))
parts_whats f (V6 target target_len source source_len) =
    end6_whats target target_len f.target_port
    ++ (end6_whats source source_len f.source_port ++ (what.Whole f.protocol ∷ tos_whats key.Tclass key.Tclassmask f.tos))

abbrev pub filter_whats_by : List ℕ → List ℕ → Filter → Addresses → List What
filter_whats_by interface class f addresses = filter_names interface class f.ruleno ++ parts_whats f addresses

abbrev pub filter_form : Addresses → Form
filter_form (V4 target target_mask source source_mask) = form.Filter
filter_form (V6 target target_len source source_len) = form.Filter6

abbrev pub filter_word : Addresses → List ℕ
filter_word (V4 target target_mask source source_mask) = codes "filter"
filter_word (V6 target target_len source source_len) = codes "filter6"

abbrev pub filter_line : List ℕ → List Class → Filter → TextLine
filter_line interface all f = record {
  first = filter_word f.addresses ∷ [];
  form = filter_form f.addresses;
  whats = filter_whats_by interface (class_word all f.class) f f.addresses;
}

-- conditioner IF CLASS srtcm CIR CBS EBS AF, or trtcm PIR PBS CIR CBS AF
abbrev pub meter_whats : MeterRule → List What
meter_whats (Single cir cbs ebs af) = what.Key key.Srtcm ∷ what.Rate cir ∷ what.Whole cbs ∷ what.Whole ebs ∷ what.Whole af ∷ []
meter_whats (Two pir pbs cir cbs af) =
    what.Key key.Trtcm ∷ what.Rate pir ∷ what.Whole pbs ∷ what.Rate cir ∷ what.Whole cbs ∷ what.Whole af ∷ []

abbrev pub conditioner_line : List ℕ → List ℕ → MeterRule → TextLine
conditioner_line interface class rule = record {
  first = codes "conditioner" ∷ [];
  form = form.Conditioner;
  whats = (what.Name interface ∷ what.Name class ∷ []) ++ meter_whats rule;
}

-- the lines of an interface
abbrev pub class_lines : Kind → List ℕ → List Class → List Class → List TextLine
class_lines kind interface all [] = []
class_lines kind interface all (c ∷ classes) = class_line kind interface all c ∷ class_lines kind interface all classes

abbrev pub filter_lines : List ℕ → List Class → List Filter → List TextLine
filter_lines interface all [] = []
filter_lines interface all (f ∷ filters) = filter_line interface all f ∷ filter_lines interface all filters

abbrev pub meter_lines : List ℕ → List ℕ → Option MeterRule → List TextLine
meter_lines interface class None = []
meter_lines interface class (Some rule) = conditioner_line interface class rule ∷ []

abbrev pub conditioner_lines : List ℕ → List Class → List TextLine
conditioner_lines interface [] = []
conditioner_lines interface (c ∷ classes) = meter_lines interface c.name c.meter ++ conditioner_lines interface classes

abbrev pub written_classes : Interface → List Class
written_classes i = if i.implied then [] else i.classes

abbrev pub interface_lines : Interface → List TextLine
interface_lines i =
    interface_line i ∷ (class_lines i.kind i.name i.classes (written_classes i) ++ (filter_lines i.name i.classes i.filters
    ++ conditioner_lines i.name (written_classes i)))

abbrev pub canonical_lines : List Interface → List TextLine
canonical_lines [] = []
canonical_lines (i ∷ interfaces) = interface_lines i ++ canonical_lines interfaces

-- the canonical text of a configuration
abbrev pub canonical_text : List Interface → List ℕ
canonical_text interfaces = printed (canonical_lines interfaces)
