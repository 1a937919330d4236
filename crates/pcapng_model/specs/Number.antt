-- Numbers in a block, in the order of bytes that its section shows.
use Rattle.std.specs.Prelude.{◌+◌, ◌*◌, ◌/◌, ℕ, Bool, true, false, List, drop}
use Rattle.byteorder.specs.Endian.{big_number, little_number}

-- the number of `size` bytes at a place
abbrev pub number : (big : Bool) → (size : ℕ) → List ℕ → (at : ℕ) → ℕ
number true size bytes at = big_number size (drop at bytes)
number false size bytes at = little_number size (drop at bytes)

-- the length of a field with its padding: the least multiple of 4 that is at least its length
abbrev pub padded : ℕ → ℕ
padded len = (len + 3) / 4 * 4
