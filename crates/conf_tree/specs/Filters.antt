-- The parts of a filter behind its class: [name WORD] [ruleno WHOLE] DST DPORT SRC SPORT PROTO [tos WHOLE [tosmask WHOLE]],
-- or tclass and tclassmask. The parts stand in this order, so the place of an option's word says which it is; `name` alone is
-- followed by a WORD. A part that is absent is 0, which matches each packet.
use Rattle.std.specs.Prelude.{ℕ, ◌&&◌, Bool, true, false, List, drop, if◌then◌else◌, Option, Some, None, slice_get, unwrap_or, bit_and, replicate}
use Rattle.conf_lines.specs.declared.item.Item.{Item}
use Rattle.conf_lines.specs.declared.item.What.{What}
use Rattle.conf_lines.specs.declared.item.What.TheVariants as what
use Rattle.conf_lines.specs.declared.statement.Form.{Form}
use Rattle.conf_lines.specs.declared.statement.Form.TheVariants as form
use Rattle.conf_lines.specs.Options.{most_ruleno, most_port, most_protocol, most_tos}
use Rattle.conf_tree.specs.declared.filter.Addresses.{Addresses}
use Rattle.conf_tree.specs.declared.filter.Addresses.TheVariants.{V4, V6}
use Rattle.conf_tree.specs.declared.filter.Filter.{Filter}
use Rattle.conf_tree.specs.Items.{number_at}
use Rattle.conf_tree.specs.Masks.{masked, prefix}

abbrev pub is_key : What → Bool
is_key (what.Key key) = true
is_key _ = false

abbrev pub is_skipped : What → Bool
is_skipped what.Skipped = true
is_skipped _ = false

abbrev pub says : (What → Bool) → Option Item → Bool
says is None = false
says is (Some item) = is item.what

-- an option's word stands first, or `name` does
abbrev pub has_option : List Item → Bool
has_option items = says is_key (slice_get items 0)

abbrev pub has_name : List Item → Bool
has_name items = says is_key (slice_get items 0) && says is_skipped (slice_get items 1)

-- the items behind an option, if one stands first; behind `name` and its WORD
abbrev pub past_option : List Item → List Item
past_option items = if has_option items then drop 2 items else items

abbrev pub past_name : List Item → List Item
past_name items = if has_name items then drop 2 items else items

-- the number of an option, if one stands first
abbrev pub option_number : ℕ → List Item → Option ℕ
option_number most items = if has_option items then number_at 0 most items 1 else None

-- the number that stands first
abbrev pub part : ℕ → List Item → ℕ
part most items = unwrap_or (number_at 0 most items 0) 0

-- the mask behind an IPv4 address: 255.255.255.255 where none is given
abbrev pub as_ip4 : What → List ℕ
as_ip4 (what.Ip4 mask) = mask
as_ip4 _ = replicate 4 255

abbrev pub ip4_in : Option Item → List ℕ
ip4_in None = replicate 4 255
ip4_in (Some item) = as_ip4 item.what

abbrev pub mask_in : List Item → List ℕ
mask_in items = if has_option items then ip4_in (slice_get items 1) else replicate 4 255

-- an IPv4 address and its mask; that of `0` has mask 0.0.0.0
abbrev pub with_mask : What → List ℕ → List ℕ × List ℕ
with_mask (what.Ip4 address) mask = (masked address mask, mask)
with_mask _ mask = (replicate 4 0, replicate 4 0)

abbrev pub address4_in : Option Item → List ℕ → List ℕ × List ℕ
address4_in None mask = (replicate 4 0, replicate 4 0)
address4_in (Some item) mask = with_mask item.what mask

abbrev pub address4 : List Item → List ℕ × List ℕ
address4 items = address4_in (slice_get items 0) (mask_in (drop 1 items))

-- an IPv6 address and its prefix length; that of `0` has length 0
abbrev pub with_length : What → List ℕ × ℕ
with_length (what.Ip6 address bits) = (prefix bits address, bits)
with_length _ = (replicate 16 0, 0)

abbrev pub address6_in : Option Item → List ℕ × ℕ
address6_in None = (replicate 16 0, 0)
address6_in (Some item) = with_length item.what

abbrev pub address6 : List Item → List ℕ × ℕ
address6 items = address6_in (slice_get items 0)

-- both addresses, by the items from each on
abbrev pub v4 : List ℕ × List ℕ → List ℕ × List ℕ → Addresses
v4 target source = V4 target.0 target.1 source.0 source.1

abbrev pub v6 : List ℕ × ℕ → List ℕ × ℕ → Addresses
v6 target source = V6 target.0 target.1 source.0 source.1

abbrev pub addresses : Form → List Item → List Item → Addresses
addresses form.Filter6 target source = v6 (address6 target) (address6 source)
addresses _ target source = v4 (address4 target) (address4 source)

-- tos or tclass with its mask: 255 where none is given
abbrev pub under_mask : Option ℕ → ℕ → Option (ℕ × ℕ)
under_mask None mask = None
under_mask (Some tos) mask = Some (bit_and tos mask, mask)

abbrev pub tos_in : List Item → Option (ℕ × ℕ)
tos_in items = under_mask (option_number most_tos items) (unwrap_or (option_number most_tos (past_option items)) 255)

-- the filter of a class, by the items behind the class's name
abbrev pub filter_of : Form → ℕ → List Item → Filter
filter_of form class items =
    let numbered = past_name items in
    let target = past_option numbered in
    let target_port = past_option (drop 1 target) in
    let source = drop 1 target_port in
    let source_port = past_option (drop 1 source) in
    let protocol = drop 1 source_port in
    record {
      class = class;
      ruleno = unwrap_or (option_number most_ruleno numbered) 0;
      addresses = addresses form target source;
      target_port = part most_port target_port;
      source_port = part most_port source_port;
      protocol = part most_protocol protocol;
      tos = tos_in (drop 1 protocol);
    }
