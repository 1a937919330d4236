-- What one word says where a word of a kind is wanted, or the kind of its fault. At one word a byte outside 33
-- to 126 is tested first, then the form, then the range.
use Rattle.std.specs.Prelude.{ℕ, ◌&&◌, Bool, true, List, [], ◌∷◌, nat_eq, nat_le, if◌then◌else◌, Option, Some, None, Result, Ok, Err, codes}
use Rattle.std.specs.Cmp.Lexicographic.{pointwise}
use Rattle.line_text.specs.Addresses.{ip4_of, ip6_of}
use Rattle.line_text.specs.Names.{is_name}
use Rattle.line_text.specs.Numbers.{number, cut, whole_of, rate_of}
use Rattle.conf_lines.specs.declared.fault.ConfKind.{ConfKind}
use Rattle.conf_lines.specs.declared.fault.ConfKind.TheVariants.{BadNumber, RateRange, BadAddress, BadByte}
use Rattle.conf_lines.specs.declared.item.What.{What}
use Rattle.conf_lines.specs.declared.item.What.TheVariants.{Name, Ip4, Ip6, Any, Skipped}

-- the word is this text
unfoldable pub is_text : List ℕ → List ℕ → Bool
is_text text word = pointwise nat_eq word text

-- each byte is one of 33 to 126
unfoldable pub are_plain : List ℕ → Bool
are_plain [] = true
are_plain (byte ∷ word) = nat_le 33 byte && nat_le byte 126 && are_plain word

-- a word whose bytes are tested first
abbrev pub checked : {A : Type 0} → List ℕ → Result A ConfKind → Result A ConfKind
checked word read = if are_plain word then read else Err BadByte

-- a number in a range, or a fault of its form or of its range
abbrev pub within : ℕ → ℕ → ConfKind → Option ℕ → Result ℕ ConfKind
within low high out None = Err BadNumber
within low high out (Some n) = if nat_le low n && nat_le n high then Ok n else Err out

unfoldable pub rate_in : ℕ → ℕ → List ℕ → Result ℕ ConfKind
rate_in low high word = checked word (within low high RateRange (rate_of word))

unfoldable pub whole_in : ℕ → ℕ → List ℕ → Result ℕ ConfKind
whole_in low high word = checked word (within low high BadNumber (whole_of word))

-- a WORD without effect
unfoldable pub skipped_in : List ℕ → Result What ConfKind
skipped_in word = checked word (Ok Skipped)

-- a NAME
unfoldable pub name_in : List ℕ → Result What ConfKind
name_in word = if is_name word then Ok (Name word) else Err BadByte

-- PROTO: a number of 0 to 255, or one of three words
unfoldable pub protocol_in : List ℕ → Result ℕ ConfKind
protocol_in word =
    if is_text (codes "icmp") word then Ok 1
    else if is_text (codes "tcp") word then Ok 6
    else if is_text (codes "udp") word then Ok 17
    else whole_in 0 255 word

-- the address or the fault of its form
abbrev pub found_in : Option What → Result What ConfKind
found_in None = Err BadAddress
found_in (Some what) = Ok what

-- an IPv4 address, as an address or as a mask
abbrev pub as_ip4 : Option (List ℕ) → Option What
as_ip4 None = None
as_ip4 (Some address) = Some (Ip4 address)

unfoldable pub mask_in : List ℕ → Result What ConfKind
mask_in word = checked word (found_in (as_ip4 (ip4_of word)))

-- DST and SRC of a filter: `0`, or an IPv4 address
unfoldable pub address_in : List ℕ → Result What ConfKind
address_in word = if is_text (codes "0") word then Ok Any else mask_in word

-- an IPv6 address with a prefix length of 0 to 128
abbrev pub as_ip6 : Option (List ℕ) → Option ℕ → Option What
as_ip6 None bits = None
as_ip6 (Some address) None = None
as_ip6 (Some address) (Some bits) = if nat_le bits 128 then Some (Ip6 address bits) else None

-- an address, or an address, '/' and a prefix length in decimal digits; 128 without it
abbrev pub prefix_in : List ℕ → Option (List ℕ × List ℕ) → Option What
prefix_in word None = as_ip6 (ip6_of word) (Some 128)
prefix_in word (Some parts) = as_ip6 (ip6_of parts.0) (number 10 parts.1)

-- DST and SRC of a filter6: `0`, or an IPv6 address with its prefix length
unfoldable pub address6_in : List ℕ → Result What ConfKind
address6_in word = if is_text (codes "0") word then Ok Any else checked word (found_in (prefix_in word (cut 47 word)))
