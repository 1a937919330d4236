-- What one word may be, or the words behind an option, after altq.conf(5) and docs/reference/CONFIGURATION.md. A phrase relates words to what they
-- say. The forms of numbers, names and addresses are those of line_text.
use Rattle.std.specs.Prelude.{◌≡◌, ◌<◌, ◌≤◌, ◌^◌, ℕ, true, List, [], ◌∷◌, None, Some, codes}
use Rattle.line_text.specs.Addresses.{ip4_of, ip6_of}
use Rattle.line_text.specs.Names.{is_name}
use Rattle.line_text.specs.Numbers.{cut, number, rate_of, whole_of}
use Rattle.conf_lines.specs.Slots.{are_plain}
use Rattle.conf_lines.specs.declared.item.What.{What}
use Rattle.conf_lines.specs.declared.item.What.TheVariants as what

abbrev pub Phrase : Type 1
Phrase = List (List ℕ) → List What → Type 0

-- a RATE of this value within a range, in bits per second, and a WHOLE; each byte of a word is one of 33 to 126
pub record IsRate (low high : ℕ) (word : List ℕ) (n : ℕ) : Type 0 where
  pub plain : are_plain word ≡ true
  pub is : rate_of word ≡ Some n
  pub least : low ≤ n
  pub most : n ≤ high

pub record IsWhole (low high : ℕ) (word : List ℕ) (n : ℕ) : Type 0 where
  pub plain : are_plain word ≡ true
  pub is : whole_of word ≡ Some n
  pub least : low ≤ n
  pub most : n ≤ high

-- no word
pub data Nothing : List (List ℕ) → List What → Type 0 where
  nothing : Nothing [] []

-- NAME; WORD, which has no effect; RATE and WHOLE within a range; an IPv4 address
pub data Name : List (List ℕ) → List What → Type 0 where
  name : {w : List ℕ} → is_name w ≡ true → Name (w ∷ []) (what.Name w ∷ [])

pub data Word : List (List ℕ) → List What → Type 0 where
  word : {w : List ℕ} → are_plain w ≡ true → Word (w ∷ []) (what.Skipped ∷ [])

pub data Rate (low high : ℕ) : List (List ℕ) → List What → Type 0 where
  rate : {w : List ℕ} {n : ℕ} → IsRate low high w n → Rate low high (w ∷ []) (what.Rate n ∷ [])

pub data Whole (low high : ℕ) : List (List ℕ) → List What → Type 0 where
  whole : {w : List ℕ} {n : ℕ} → IsWhole low high w n → Whole low high (w ∷ []) (what.Whole n ∷ [])

pub data Ip4 : List (List ℕ) → List What → Type 0 where
  ip4 : {w a : List ℕ} → are_plain w ≡ true → ip4_of w ≡ Some a → Ip4 (w ∷ []) (what.Ip4 a ∷ [])

-- the address `0`
pub data Zero : List (List ℕ) → List What → Type 0 where
  zero_address : Zero (codes "0" ∷ []) (what.Any ∷ [])

-- an IPv6 address, alone or with '/' and a prefix length of 0 to 128 in decimal digits; alone it has 128
pub data Ip6 : List (List ℕ) → List What → Type 0 where
  alone : {w a : List ℕ} → are_plain w ≡ true → cut 47 w ≡ None → ip6_of w ≡ Some a → Ip6 (w ∷ []) (what.Ip6 a 128 ∷ [])
  with_length : {w front back a : List ℕ} {bits : ℕ} → are_plain w ≡ true → cut 47 w ≡ Some (front, back) → ip6_of front ≡ Some a
      → number 10 back ≡ Some bits → bits ≤ 128 → Ip6 (w ∷ []) (what.Ip6 a bits ∷ [])

-- PROTO: 0 to 255, or one of three words
pub data Protocol : List (List ℕ) → List What → Type 0 where
  icmp : Protocol (codes "icmp" ∷ []) (what.Whole 1 ∷ [])
  tcp : Protocol (codes "tcp" ∷ []) (what.Whole 6 ∷ [])
  udp : Protocol (codes "udp" ∷ []) (what.Whole 17 ∷ [])
  by_number : {w : List ℕ} {n : ℕ} → IsWhole 0 255 w n → Protocol (w ∷ []) (what.Whole n ∷ [])

-- RATE WHOLE RATE: a curve's first slope, at least `low`, the time of its bend in milliseconds, and its second slope, at least `least`; not
-- d > 0 and 0 < m1 < m2
pub data Curve (low least : ℕ) : List (List ℕ) → List What → Type 0 where
  curve : {u v w : List ℕ} {m1 d m2 : ℕ} → IsRate low (10 ^ 12) u m1 → IsWhole 0 1000000 v d → IsRate least (10 ^ 12) w m2
      → (0 < d → 0 < m1 → m2 ≤ m1) → Curve low least (u ∷ v ∷ w ∷ []) (what.Rate m1 ∷ what.Whole d ∷ what.Rate m2 ∷ [])

-- PIR PBS CIR CBS: a meter of two rates (RFC 2698)
pub data TwoRates : List (List ℕ) → List What → Type 0 where
  two_rates : {t u v w : List ℕ} {pir pbs cir cbs : ℕ} → IsRate 1000 (10 ^ 12) t pir → IsWhole 1 (2 ^ 30) u pbs → IsRate 1000 pir v cir
      → IsWhole 1 (2 ^ 30) w cbs
      → TwoRates (t ∷ u ∷ v ∷ w ∷ []) (what.Rate pir ∷ what.Whole pbs ∷ what.Rate cir ∷ what.Whole cbs ∷ [])
