-- Addresses under their masks.
use Rattle.std.specs.Prelude.{ℕ, ◌-◌, ◌*◌, ◌/◌, ◌^◌, List, [], ◌∷◌, min, bit_and}

-- each byte of an IPv4 address under the byte of its mask
abbrev pub masked : List ℕ → List ℕ → List ℕ
masked [] mask = []
masked (byte ∷ address) [] = []
masked (byte ∷ address) (bits ∷ mask) = bit_and byte bits ∷ masked address mask

-- the upper `bits` bits of a byte; its other bits are 0
abbrev pub upper : ℕ → ℕ → ℕ
upper bits byte = byte / 2 ^ (8 - bits) * 2 ^ (8 - bits)

-- the first `bits` bits of an IPv6 address; its other bits are 0
abbrev pub prefix : ℕ → List ℕ → List ℕ
prefix bits [] = []
prefix bits (byte ∷ address) = upper (min bits 8) byte ∷ prefix (bits - 8) address
