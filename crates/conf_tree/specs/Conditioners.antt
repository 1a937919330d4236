-- conditioner INTERFACE CLASS (srtcm CIR CBS EBS | trtcm PIR PBS CIR CBS) AF: the meter of a class, after RFC 2697 and RFC 2698, and
-- the class of assured forwarding of its marks.
use Rattle.std.specs.Prelude.{ℕ, ◌&&◌, ◌≤◌, Bool, true, false, List, map, drop, if◌then◌else◌, Option, Some, None, Result, Ok, is_some, unwrap_or, slice_get, slice_set}
use Rattle.conf_lines.specs.declared.fault.ConfPlace.{ConfPlace}
use Rattle.conf_lines.specs.declared.fault.ConfKind.TheVariants.{NoInterface, InnerQueue, NoClass, ConditionerTwice}
use Rattle.conf_lines.specs.declared.item.Item.{Item}
use Rattle.conf_lines.specs.declared.item.What.{What}
use Rattle.conf_lines.specs.declared.item.What.TheVariants as what
use Rattle.conf_lines.specs.declared.options.Key.{Key}
use Rattle.conf_lines.specs.declared.options.Key.TheVariants as key
use Rattle.conf_lines.specs.declared.statement.Statement.{Statement}
use Rattle.conf_lines.specs.Options.{most_rate, most_burst, most_af}
use Rattle.traffic_meter.specs.declared.rule.MeterRule.{MeterRule}
use Rattle.traffic_meter.specs.declared.rule.MeterRule.TheVariants.{Single, Two}
use Rattle.conf_tree.specs.declared.branch.Branch.{Branch}
use Rattle.conf_tree.specs.declared.class.Class.{Class}
use Rattle.conf_tree.specs.declared.conditioner.Conditioner.{Conditioner}
use Rattle.conf_tree.specs.declared.interface.Kind.{Kind}
use Rattle.conf_tree.specs.Classes.{is_hfsc}
use Rattle.conf_tree.specs.Filters.{says}
use Rattle.conf_tree.specs.Items.{name_at, number_at}
use Rattle.conf_tree.specs.Places.{at_word, own_fault}
use Rattle.conf_tree.specs.Tests.{◌>>=◌, some, refuse, own}
use Rattle.conf_tree.specs.Tree.{Begun, interface_number, class_number, add_conditioner}

-- the number of a range that stands at a place; where none does, which no text has, the least of the range
abbrev pub number_or_least : ℕ → ℕ → List Item → ℕ → ℕ
number_or_least low high items i = unwrap_or (number_at low high items i) low

-- the meter by the items behind the class's name: of one rate, srtcm CIR CBS EBS AF; of two, trtcm PIR PBS CIR CBS AF
abbrev pub is_srtcm : Key → Bool
is_srtcm key.Srtcm = true
is_srtcm _ = false

abbrev pub is_single : What → Bool
is_single (what.Key key) = is_srtcm key
is_single _ = false

abbrev pub single_of : List Item → MeterRule
single_of items =
    Single (number_or_least 1000 most_rate items 1) (number_or_least 1 most_burst items 2) (number_or_least 0 most_burst items 3)
    (number_or_least 1 most_af items 4)

abbrev pub two_of : List Item → MeterRule
two_of items =
    let pir = number_or_least 1000 most_rate items 1 in
    Two pir (number_or_least 1 most_burst items 2) (number_or_least 1000 pir items 3) (number_or_least 1 most_burst items 4)
    (number_or_least 1 most_af items 5)

abbrev pub meter_of : List Item → MeterRule
meter_of items = if says is_single (slice_get items 0) then single_of items else two_of items

-- in HFSC a class with children holds no packets, so no conditioner names it; each class has at most one
abbrev pub conditioner_to : Kind → Statement → ℕ → Branch → Result Conditioner ConfPlace
conditioner_to kind s i c = do
  outer ← refuse (is_hfsc kind && c.inner) (at_word s 3 InnerQueue)
  first ← refuse (is_some c.class.meter) (at_word s 3 ConditionerTwice)
  whole ← own s.fault
  Ok (record { class = i; rule = meter_of (drop 2 s.items) })

abbrev pub conditioner_read : Begun → Statement → Result Conditioner ConfPlace
conditioner_read b s = do
  name ← some (name_at s.items 1) (own_fault s)
  i ← some (class_number name b.classes) (at_word s 3 NoClass)
  c ← some (slice_get b.classes i) (at_word s 3 NoClass)
  conditioner_to b.kind s i c

abbrev pub read_conditioner : List Begun → Statement → Result (List Begun) ConfPlace
read_conditioner before s = do
  name ← some (name_at s.items 0) (own_fault s)
  i ← some (interface_number name before) (at_word s 2 NoInterface)
  b ← some (slice_get before i) (at_word s 2 NoInterface)
  c ← conditioner_read b s
  Ok (slice_set before i (add_conditioner b c))

-- the meters of classes, by the number of the class
abbrev pub meters : List Class → List (Option MeterRule)
meters classes = map (λ c. c.meter) classes
