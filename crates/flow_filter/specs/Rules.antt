-- What classifies the packets of an interface, after altq.conf(5): its filters in the order of the text, behind them those
-- that `control` adds, and its default class.
use Rattle.std.specs.Prelude.{ℕ, List, [], ◌∷◌, ◌++◌, replicate, filter, position, unwrap_or, None}
use Rattle.std.specs.List.{flat_map, enumerate_from}
use Rattle.conf_tree.specs.declared.class.Class.{Class}
use Rattle.conf_tree.specs.declared.filter.Addresses.{Addresses}
use Rattle.conf_tree.specs.declared.filter.Addresses.TheVariants.{V4, V6}
use Rattle.conf_tree.specs.declared.filter.Filter.{Filter}
use Rattle.conf_tree.specs.declared.interface.Interface.{Interface}

-- the filters in the order in which they stand, and the class of what none matches
pub record Rules : Type 0 where
  pub filters : List Filter
  pub otherwise : ℕ

-- every address
abbrev pub every_4 : Addresses
every_4 = V4 (replicate 4 0) (replicate 4 0) (replicate 4 0) (replicate 4 0)

abbrev pub every_6 : Addresses
every_6 = V6 (replicate 16 0) 0 (replicate 16 0) 0

-- a filter of rule number 0 that matches every flow of a protocol over those addresses
abbrev pub protocol_filter : (class : ℕ) → Addresses → (protocol : ℕ) → Filter
protocol_filter class addresses protocol = record {
  class = class;
  ruleno = 0;
  addresses = addresses;
  target_port = 0;
  source_port = 0;
  protocol = protocol;
  tos = None;
}

-- the filters that a class with `control` adds: ICMP, IGMP and RSVP over IPv4, and ICMP over IPv6 (IANA protocol numbers)
abbrev pub filters_of_control : (class : ℕ) → List Filter
filters_of_control class =
    protocol_filter class every_4 1 ∷ protocol_filter class every_4 2 ∷ protocol_filter class every_4 46 ∷ protocol_filter class every_6 58 ∷ []

-- those of each class with `control`, in the order of the classes
abbrev pub control_filters : List Class → List Filter
control_filters classes =
    flat_map (λ numbered. filters_of_control numbered.0) (filter (λ numbered. numbered.1.control) (enumerate_from 0 classes))

-- the number of the first class that is the default class; 0, the root's, if there were none
abbrev pub default_class : List Class → ℕ
default_class classes = unwrap_or (position (λ c. c.is_default) classes) 0

abbrev pub rules_of : Interface → Rules
rules_of interface = record {
  filters = interface.filters ++ control_filters interface.classes;
  otherwise = default_class interface.classes;
}
