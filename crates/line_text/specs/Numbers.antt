-- The numbers of a configuration: whole numbers and rates.
use Rattle.std.specs.Prelude.{ℕ, ◌+◌, ◌-◌, ◌*◌, ◌/◌, ◌%◌, ◌^◌, ◌==◌, ◌&&◌, ◌||◌, Bool, true, List, [], ◌∷◌, length, take, drop, slice_index, nat_lt, nat_le, if◌then◌else◌, Option, Some, None, option_and_then}
use Rattle.std.specs.Char.{is_digit}
use Rattle.std.specs.List.{position}
use Rattle.std.specs.Str.Parse.{digits_value}

infixl 10 ◌>>=◌
abbrev pub ◌>>=◌ : {A B : Type 0} → Option A → (A → Option B) → Option B
o >>= f = option_and_then f o

-- each byte is a digit in the radix
abbrev pub are_digits : ℕ → List ℕ → Bool
are_digits radix [] = true
are_digits radix (byte ∷ text) = is_digit byte radix && are_digits radix text

-- the number that one or more digits and nothing else write, if it is below 2^64
abbrev pub number : ℕ → List ℕ → Option ℕ
number radix text =
    if nat_lt 0 (length text) && are_digits radix text && nat_lt (digits_value radix text) (2 ^ 64)
    then Some (digits_value radix text) else None

-- WHOLE: decimal digits, or `0x` and hexadecimal digits of either case
abbrev pub whole_of : List ℕ → Option ℕ
whole_of word =
    if (slice_index word 0 == 48) && (slice_index word 1 == 120) then number 16 (drop 2 word) else number 10 word

-- what stands before the first byte `mark`, and what stands behind it
abbrev pub cut : ℕ → List ℕ → Option (List ℕ × List ℕ)
cut mark text = position (λ byte. byte == mark) text >>= λ at. Some (take at text, drop (at + 1) text)

-- what the letter at the end of a rate stands for; 1 where it is none of them
abbrev pub multiple_of : ℕ → ℕ
multiple_of byte =
    if (byte == 75) || (byte == 107) then 10 ^ 3
    else if (byte == 77) || (byte == 109) then 10 ^ 6
    else if (byte == 71) || (byte == 103) then 10 ^ 9
    else 1

-- `multiple` times the number that is written `whole` and, behind a point, `fraction`, if that is whole and below 2^64
abbrev pub scaled : ℕ → ℕ → ℕ → ℕ → Option ℕ
scaled multiple places whole fraction =
    let amount = (whole * 10 ^ places + fraction) * multiple in
    if (amount % 10 ^ places == 0) && nat_lt (amount / 10 ^ places) (2 ^ 64) then Some (amount / 10 ^ places) else None

-- digits, or digits, a point and 1 to 9 digits, times a number
abbrev pub mantissa : ℕ → List ℕ → Option (List ℕ × List ℕ) → Option ℕ
mantissa multiple text None = do
  whole ← number 10 text
  scaled multiple 0 whole 0
mantissa multiple text (Some parts) = do
  whole ← number 10 parts.0
  fraction ← number 10 parts.1
  if nat_le (length parts.1) 9 then scaled multiple (length parts.1) whole fraction else None

-- RATE: digits, optionally a point and 1 to 9 digits, optionally one of K, k, M, m, G and g
abbrev pub rate_of : List ℕ → Option ℕ
rate_of word =
    let multiple = multiple_of (slice_index word (length word - 1)) in
    let text = (if nat_lt 1 multiple then take (length word - 1) word else word) in
    mantissa multiple text (cut 46 text)
