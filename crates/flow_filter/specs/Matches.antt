-- Which flows a filter matches, after altq.conf(5): a `filter` those of IPv4 and a `filter6` those of IPv6 whose addresses,
-- ports, protocol and type of service or traffic class agree with its own.
use Rattle.std.specs.Prelude.{ℕ, ◌==◌, ◌&&◌, ◌||◌, Bool, true, false, List, Option, Some, None, bit_and, bytes_eq}
use Rattle.conf_tree.specs.declared.filter.Addresses.{Addresses}
use Rattle.conf_tree.specs.declared.filter.Addresses.TheVariants as own
use Rattle.conf_tree.specs.declared.filter.Filter.{Filter}
use Rattle.conf_tree.specs.Masks.{masked, prefix}
use Rattle.packet_heads.specs.Flow.{Flow, V4, V6, Other}

-- An address of IPv4 agrees where, under the mask, it is the filter's, which is masked already. A shorter one than the
-- filter's is another list, and what stands behind the mask is not looked at.
abbrev pub agrees_under : (mask own address : List ℕ) → Bool
agrees_under mask own address = bytes_eq (masked address mask) own

-- an address of IPv6 agrees where its first `bits` bits are the filter's; one of another length is another list
abbrev pub agrees_within : (bits : ℕ) → (own address : List ℕ) → Bool
agrees_within bits own address = bytes_eq (prefix bits address) own

-- both addresses of a flow of IPv4, and both of a flow of IPv6
abbrev pub addresses_agree_4 : Addresses → (source target : List ℕ) → Bool
addresses_agree_4 (own.V4 own_target target_mask own_source source_mask) source target =
    agrees_under target_mask own_target target && agrees_under source_mask own_source source
addresses_agree_4 (own.V6 own_target target_len own_source source_len) source target = false

abbrev pub addresses_agree_6 : Addresses → (source target : List ℕ) → Bool
addresses_agree_6 (own.V4 own_target target_mask own_source source_mask) source target = false
addresses_agree_6 (own.V6 own_target target_len own_source source_len) source target =
    agrees_within target_len own_target target && agrees_within source_len own_source source

-- a filter's number that is not 0 equals the flow's
abbrev pub is_none_or : (own number : ℕ) → Bool
is_none_or own number = own == 0 || own == number

-- both ports; a flow without ports matches only where the filter has none
abbrev pub ports_agree : Filter → (ports : Option (ℕ × ℕ)) → Bool
ports_agree f None = f.source_port == 0 && f.target_port == 0
ports_agree f (Some ports) = is_none_or f.source_port ports.0 && is_none_or f.target_port ports.1

-- the type of service or traffic class, where one is given with its mask: under the mask it is the filter's, which is masked
-- already
abbrev pub tos_agrees : (given : Option (ℕ × ℕ)) → (tos : ℕ) → Bool
tos_agrees None tos = true
tos_agrees (Some given) tos = bit_and tos given.1 == given.0

-- all but the addresses
abbrev pub rest_agrees : Filter → (tos protocol : ℕ) → (ports : Option (ℕ × ℕ)) → Bool
rest_agrees f tos protocol ports = ports_agree f ports && is_none_or f.protocol protocol && tos_agrees f.tos tos

-- what the headers of a flow say agrees, where it has any
abbrev pub matches : Filter → Flow → Bool
matches f (V4 heads) =
    addresses_agree_4 f.addresses heads.source heads.target && rest_agrees f heads.tos heads.protocol heads.ports
matches f (V6 heads) =
    addresses_agree_6 f.addresses heads.source heads.target && rest_agrees f heads.tos heads.protocol heads.ports
matches f Other = false

-- the ports of a flow that has any, the source's first
abbrev pub ports_of : Flow → Option (ℕ × ℕ)
ports_of (V4 heads) = heads.ports
ports_of (V6 heads) = heads.ports
ports_of Other = None
