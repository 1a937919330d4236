-- Filters and flows of the worked examples.
use Rattle.std.specs.Prelude.{ℕ, ◌/◌, ◌%◌, List, [], ◌∷◌, replicate, Option, Some, None}
use Rattle.std.specs.List.{flat_map}
use Rattle.conf_tree.specs.declared.filter.Addresses.{Addresses}
use Rattle.conf_tree.specs.declared.filter.Addresses.TheVariants as own
use Rattle.conf_tree.specs.declared.filter.Filter.{Filter}
use Rattle.conf_tree.specs.Masks.{masked, prefix}
use Rattle.packet_heads.specs.Flow.{Flow, V4, V6}
use Rattle.flow_filter.specs.Rules.{Rules, every_4}

-- a filter of a class that matches every flow of these addresses
abbrev pub over : (class ruleno : ℕ) → Addresses → Filter
over class ruleno addresses = record {
  class = class;
  ruleno = ruleno;
  addresses = addresses;
  target_port = 0;
  source_port = 0;
  protocol = 0;
  tos = None;
}

-- to UDP port 5004, and to any of UDP
abbrev pub to_5004 : (class ruleno : ℕ) → Filter
to_5004 class ruleno = record (over class ruleno every_4) { target_port = 5004; protocol = 17 }

abbrev pub of_udp : (class ruleno : ℕ) → Filter
of_udp class ruleno = record (over class ruleno every_4) { protocol = 17 }

-- to the addresses of IPv4 that are this one under the mask, as the configuration keeps it
abbrev pub to_4 : (target mask : List ℕ) → Filter
to_4 target mask = over 1 0 (own.V4 (masked target mask) mask (replicate 4 0) (replicate 4 0))

-- to those of IPv6 whose first `bits` bits are those of this one
abbrev pub to_6 : (target : List ℕ) → (bits : ℕ) → Filter
to_6 target bits = over 1 0 (own.V6 (prefix bits target) bits (replicate 16 0) 0)

-- from 10.0.0.1 to an address, by UDP with type of service 28 hex
abbrev pub datagram_to : (target : List ℕ) → Option (ℕ × ℕ) → Flow
datagram_to target ports = V4 (record { tos = 0x28; protocol = 17; source = 10 ∷ 0 ∷ 0 ∷ 1 ∷ []; target = target; ports = ports })

-- from port 1027 to a port of 10.0.0.2; a later fragment has no ports
abbrev pub datagram : (port : ℕ) → Flow
datagram port = datagram_to (10 ∷ 0 ∷ 0 ∷ 2 ∷ []) (Some (1027, port))

abbrev pub later_fragment : Flow
later_fragment = datagram_to (10 ∷ 0 ∷ 0 ∷ 2 ∷ []) None

-- ICMP between the same two
abbrev pub ping : Flow
ping = V4 (record { tos = 0; protocol = 1; source = 10 ∷ 0 ∷ 0 ∷ 1 ∷ []; target = 10 ∷ 0 ∷ 0 ∷ 2 ∷ []; ports = None })

-- an address of IPv6 by its eight words
abbrev pub of_words : List ℕ → List ℕ
of_words = flat_map (λ word. (word / 256) ∷ (word % 256) ∷ [])

-- by TCP over IPv6 to an address, from port 443 to port 49152
abbrev pub segment_to : (target : List ℕ) → Flow
segment_to target = V6 (record {
  tos = 0x30;
  protocol = 6;
  source = of_words (0x2001 ∷ 0x0db8 ∷ 0 ∷ 0 ∷ 0 ∷ 0 ∷ 0 ∷ 1 ∷ []);
  target = target;
  ports = Some (443, 49152);
})

abbrev pub host_6 : (second last : ℕ) → List ℕ
host_6 second last = of_words (0x2001 ∷ second ∷ 0 ∷ 0 ∷ 0 ∷ 0 ∷ 0 ∷ last ∷ [])

-- these filters, and class 3 for what none matches
abbrev pub with_rest : List Filter → Rules
with_rest filters = record { filters = filters; otherwise = 3 }
