-- Addresses of IPv4 and IPv6 as words, after RFC 4291, 2.2, without the form that ends in an IPv4 address.
use Rattle.std.specs.Prelude.{ℕ, ◌+◌, ◌-◌, ◌/◌, ◌%◌, ◌==◌, ◌&&◌, List, [], ◌∷◌, ◌++◌, length, take, drop, replicate, slice_index, nat_le, if◌then◌else◌, Option, Some, None}
use Rattle.line_text.specs.Numbers.{number, cut, ◌>>=◌}
use Rattle.line_text.specs.Words.{with_first}

-- a decimal number of 1 to 3 digits, at most 255
abbrev pub octet : List ℕ → Option ℕ
octet text = number 10 text >>= λ n. if nat_le (length text) 3 && nat_le n 255 then Some n else None

-- four of them, joined by points
abbrev pub ip4_of : List ℕ → Option (List ℕ)
ip4_of word = do
  first ← cut 46 word
  second ← cut 46 first.1
  third ← cut 46 second.1
  a ← octet first.0
  b ← octet second.0
  c ← octet third.0
  d ← octet third.1
  Some (a ∷ b ∷ c ∷ d ∷ [])

-- the two bytes of a group: 1 to 4 hexadecimal digits
abbrev pub group : List ℕ → Option (List ℕ)
group text = number 16 text >>= λ n. if nat_le (length text) 4 then Some (n / 256 ∷ n % 256 ∷ []) else None

-- what stands between the colons of a text
abbrev pub pieces : List ℕ → List (List ℕ)
pieces [] = [] ∷ []
pieces (byte ∷ text) = if byte == 58 then [] ∷ pieces text else with_first byte (pieces text)

-- the bytes of groups
abbrev pub groups : List (List ℕ) → Option (List ℕ)
groups [] = Some []
groups (piece ∷ rest) = do
  bytes ← group piece
  more ← groups rest
  Some (bytes ++ more)

-- at most eight groups, joined by colons
abbrev pub groups_of : List ℕ → Option (List ℕ)
groups_of text = groups (pieces text) >>= λ bytes. if nat_le (length bytes) 16 then Some bytes else None

-- the same on one side of `::`, where there may be none
abbrev pub side : List ℕ → Option (List ℕ)
side text = if length text == 0 then Some [] else groups_of text

-- where the first `::` of a text stands that begins at a place
abbrev pub gap_from : ℕ → List ℕ → Option ℕ
gap_from at [] = None
gap_from at (byte ∷ text) = if (byte == 58) && (slice_index text 0 == 58) then Some at else gap_from (at + 1) text

-- what stands before the first `::`, and what stands behind it
abbrev pub gap : List ℕ → Option (List ℕ × List ℕ)
gap text = gap_from 0 text >>= λ at. Some (take at text, drop (at + 2) text)

-- the two sides of `::`, which stands for at least one group of zero
abbrev pub around : List ℕ → List ℕ → Option (List ℕ)
around front back =
    if nat_le (length front + length back) 14 then Some (front ++ replicate (16 - length front - length back) 0 ++ back) else None

-- all eight groups
abbrev pub all_groups : List ℕ → Option (List ℕ)
all_groups bytes = if length bytes == 16 then Some bytes else None

-- eight groups, or fewer with one `::` that stands for one or more groups of zero
abbrev pub ip6_parts : List ℕ → Option (List ℕ × List ℕ) → Option (List ℕ)
ip6_parts word None = groups_of word >>= all_groups
ip6_parts word (Some parts) = do
  front ← side parts.0
  back ← side parts.1
  around front back

abbrev pub ip6_of : List ℕ → Option (List ℕ)
ip6_of word = ip6_parts word (gap word)
