-- The bytes of a NAME are characters of their own.
use Rattle.std.proofs.Common.{◌≡◌, ℕ, zero, suc, ◌<◌, ◌&&◌, Bool, true, false, List, [], ◌∷◌, length, get_or, refl, arith, nat_le}
use Rattle.std.proofs.lemmas.Bool.Decides.{nat_tests}
use Rattle.line_text.specs.Names.{is_name_byte, are_name_bytes, is_name}

and_parts : (a b : Bool) → (a && b) ≡ true → (a ≡ true) × (b ≡ true)
and_parts true b h = (refl, h)
and_parts false b h = cc

name_byte_small : (byte : ℕ) → is_name_byte byte ≡ true → byte < 128
name_byte_small byte h = grind (arith, nat_tests)

name_bytes_small : (word : List ℕ) (i : ℕ) → are_name_bytes word ≡ true → i < length word → get_or word i 0 < 128
name_bytes_small [] i h inside = absurd (omega arith)
name_bytes_small (byte ∷ word) zero h inside = name_byte_small byte (and_parts (is_name_byte byte) (are_name_bytes word) h).0
name_bytes_small (byte ∷ word) (suc i) h inside = name_bytes_small word i (and_parts (is_name_byte byte) (are_name_bytes word) h).1 (omega arith)

pub name_is_ascii : (word : List ℕ) (i : ℕ) → is_name word ≡ true → i < length word → get_or word i 0 < 128
name_is_ascii word i h inside = name_bytes_small word i (and_parts (nat_le 1 (length word) && nat_le (length word) 64) (are_name_bytes word) h).1 inside
