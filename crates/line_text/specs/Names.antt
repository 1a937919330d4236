-- A NAME of an interface or of a class, after altq.conf(5).
use Rattle.std.specs.Prelude.{ℕ, ◌==◌, ◌&&◌, ◌||◌, Bool, true, List, [], ◌∷◌, length, nat_le}

-- a letter, a digit, '_', '-', '.', ':' or '/'
abbrev pub is_name_byte : ℕ → Bool
is_name_byte byte =
    (nat_le 97 byte && nat_le byte 122) || (nat_le 65 byte && nat_le byte 90) || (nat_le 45 byte && nat_le byte 58) || (byte == 95)

abbrev pub are_name_bytes : List ℕ → Bool
are_name_bytes [] = true
are_name_bytes (byte ∷ word) = is_name_byte byte && are_name_bytes word

-- NAME: 1 to 64 of them
abbrev pub is_name : List ℕ → Bool
is_name word = nat_le 1 (length word) && nat_le (length word) 64 && are_name_bytes word
