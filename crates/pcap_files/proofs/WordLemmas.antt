-- The numbers that byteorder reads are those of the definitions.
use Rattle.std.proofs.Common.{◌≡◌, ℕ, List, [], ◌∷◌, take, drop, arith}
use Rattle.std.specs.Prelude.{true, false}
use Rattle.std.specs.Int.{w16, w32, from_be_bytes, from_le_bytes}
use Rattle.byteorder.specs.Endian.{big_number, little_number}
use Rattle.capture_model.specs.Capture.{word, half}

big4 : (xs : List ℕ) → big_number 4 xs ≡ from_be_bytes w32 (take 4 xs)
big4 [] = omega arith
big4 (a ∷ []) = omega arith
big4 (a ∷ b ∷ []) = omega arith
big4 (a ∷ b ∷ c ∷ []) = omega arith
big4 (a ∷ b ∷ c ∷ d ∷ xs) = omega arith

little4 : (xs : List ℕ) → little_number 4 xs ≡ from_le_bytes w32 (take 4 xs)
little4 [] = omega arith
little4 (a ∷ []) = omega arith
little4 (a ∷ b ∷ []) = omega arith
little4 (a ∷ b ∷ c ∷ []) = omega arith
little4 (a ∷ b ∷ c ∷ d ∷ xs) = omega arith

big2 : (xs : List ℕ) → big_number 2 xs ≡ from_be_bytes w16 (take 2 xs)
big2 [] = omega arith
big2 (a ∷ []) = omega arith
big2 (a ∷ b ∷ xs) = omega arith

little2 : (xs : List ℕ) → little_number 2 xs ≡ from_le_bytes w16 (take 2 xs)
little2 [] = omega arith
little2 (a ∷ []) = omega arith
little2 (a ∷ b ∷ xs) = omega arith

pub big_word : (xs : List ℕ) (at : ℕ) → big_number 4 (drop at xs) ≡ word true xs at
big_word xs at = big4 (drop at xs)

pub little_word : (xs : List ℕ) (at : ℕ) → little_number 4 (drop at xs) ≡ word false xs at
little_word xs at = little4 (drop at xs)

pub big_half : (xs : List ℕ) (at : ℕ) → big_number 2 (drop at xs) ≡ half true xs at
big_half xs at = big2 (drop at xs)

pub little_half : (xs : List ℕ) (at : ℕ) → little_number 2 (drop at xs) ≡ half false xs at
little_half xs at = little2 (drop at xs)
