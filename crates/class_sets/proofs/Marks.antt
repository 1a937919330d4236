-- Bits of words, as a set of classes keeps them.
use Rattle.std.proofs.Common.{◌≡◌, ◌≢◌, ◌≤◌, ◌<◌, ◌+◌, ◌-◌, ◌*◌, ◌/◌, ◌%◌, ◌^◌, ◌∙◌, inl, inr, ℕ, zero, suc, List, [], ◌∷◌, length, get_or, refl, ap, sym, arith, min, bit_and, bit_or, w64, get_or-set_same, get_or-set_other}
use Rattle.std.specs.Prelude.{slice_set}
use Rattle.std.specs.Int.{bit_at, bit_not, trailing_zeros}
use Rattle.std.specs.Int.Bits.{bit_xor}
use Rattle.std.proofs.lemmas.Bool.{cases_eq, cases_lt}
use Rattle.std.proofs.lemmas.List.{get_or_past}
use Rattle.std.proofs.lemmas.Nat.Bits.{bit_at-trailing_zeros, bit_at-zero, bit_at_and, bit_at_xor, bit_at_clear_other, bit_at_clear_same, bit_at_above, bit_at-lt, bit_at_set_other, bit_at_set_same}
use Rattle.std.proofs.lemmas.Nat.{shr-shr}
use Rattle.std.proofs.Math.Nat.{div-le_self}
use Rattle.class_sets.specs.Marked.{IsLowest, marked}

abbrev with_bit : ℕ → ℕ → ℕ
with_bit n i = bit_or n (1 * 2 ^ i % 2 ^ 64)

abbrev without_bit : ℕ → ℕ → ℕ
without_bit n i = bit_and n (bit_not w64 (1 * 2 ^ i % 2 ^ 64))

-- a word is changed in one bit, so a set in one class
changed_other : (words : List ℕ) (k c n : ℕ) → length words ≡ 4 → k < 256 → c ≢ k
    → ((i : ℕ) → i < 64 → i ≢ k % 64 → bit_at n i ≡ bit_at (get_or words (k / 64) 0) i) → marked (slice_set words (k / 64) n) c ≡ marked words c
changed_other words k c n l h other same = elim (cases_eq (c / 64) (k / 64)) [
  | inl e ↦
      let inside : k / 64 < length words = omega (arith, l, h) in
      let here : get_or (slice_set words (k / 64) n) (c / 64) 0 ≡ n = ap (λ (i : ℕ). get_or (slice_set words (k / 64) n) i 0) e ∙ get_or-set_same words (k / 64) n 0 inside in
      let apart : c % 64 ≢ k % 64 = λ p. other (omega (arith, p, e)) in
      ap (λ (m : ℕ). bit_at m (c % 64)) here ∙ same (c % 64) (omega arith) apart ∙ ap (λ (i : ℕ). bit_at (get_or words i 0) (c % 64)) (sym e)
  | inr d ↦ ap (λ (m : ℕ). bit_at m (c % 64)) (get_or-set_other words (k / 64) (c / 64) n 0 d)
]

changed_here : (words : List ℕ) (k n b : ℕ) → length words ≡ 4 → k < 256 → bit_at n (k % 64) ≡ b → marked (slice_set words (k / 64) n) k ≡ b
changed_here words k n b l h e =
    let inside : k / 64 < length words = omega (arith, l, h) in
    ap (λ (m : ℕ). bit_at m (k % 64)) (get_or-set_same words (k / 64) n 0 inside) ∙ e

pub put_same : (words : List ℕ) (k : ℕ) → length words ≡ 4 → k < 256 → marked (slice_set words (k / 64) (with_bit (get_or words (k / 64) 0) (k % 64))) k ≡ 1
put_same words k l h =
    changed_here words k (with_bit (get_or words (k / 64) 0) (k % 64)) 1 l h (bit_at_set_same w64 (get_or words (k / 64) 0) (k % 64) (omega arith))

pub put_other : (words : List ℕ) (k c : ℕ) → length words ≡ 4 → k < 256 → c ≢ k
    → marked (slice_set words (k / 64) (with_bit (get_or words (k / 64) 0) (k % 64))) c ≡ marked words c
put_other words k c l h other =
    changed_other words k c (with_bit (get_or words (k / 64) 0) (k % 64)) l h other
    (λ i m d. bit_at_set_other w64 (get_or words (k / 64) 0) (k % 64) (omega arith) i d)

pub take_same : (words : List ℕ) (k : ℕ) → length words ≡ 4 → k < 256 → marked (slice_set words (k / 64) (without_bit (get_or words (k / 64) 0) (k % 64))) k ≡ 0
take_same words k l h =
    changed_here words k (without_bit (get_or words (k / 64) 0) (k % 64)) 0 l h (bit_at_clear_same w64 (get_or words (k / 64) 0) (k % 64) (omega arith))

pub take_other : (words : List ℕ) (k c : ℕ) → length words ≡ 4 → k < 256 → c ≢ k
    → marked (slice_set words (k / 64) (without_bit (get_or words (k / 64) 0) (k % 64))) c ≡ marked words c
take_other words k c l h other =
    changed_other words k c (without_bit (get_or words (k / 64) 0) (k % 64)) l h other
    (λ i m d. bit_at_clear_other w64 (get_or words (k / 64) 0) (k % 64) (omega arith) i m d)

-- the bits of a word from a place on
rest_is : (n p i : ℕ) → p ≤ i → bit_at (n / 2 ^ p) (i - p) ≡ bit_at n i
rest_is n p i low =
    let same : p + (i - p) ≡ i = omega (arith, low) in
    ap (λ (m : ℕ). m % 2) (shr-shr n p (i - p)) ∙ ap (bit_at n) same

pub none_left : (n p : ℕ) → n / 2 ^ p ≡ 0 → (i : ℕ) → p ≤ i → i < 64 → bit_at n i ≡ 0
none_left n p e i low high = sym (rest_is n p i low) ∙ ap (λ (m : ℕ). bit_at m (i - p)) e ∙ bit_at-zero (i - p)

pub lowest_left : (n p : ℕ) → (n / 2 ^ p ≡ 0 → ⊥) → n < 2 ^ 64 → IsLowest n p (p + trailing_zeros w64 (n / 2 ^ p))
lowest_left n p some fits =
    let x = bit_at-trailing_zeros w64 (n / 2 ^ p) (omega (arith, some)) (omega (arith, div-le_self n (2 ^ p), fits)) in
    let i : ℕ = trailing_zeros w64 (n / 2 ^ p) in
    let far : p + i - p ≡ i = omega arith in
    let one : bit_at n (p + i) ≡ 1 = sym (rest_is n p (p + i) (omega arith)) ∙ ap (bit_at (n / 2 ^ p)) far ∙ x.1 in
    let inside : p + i < 64 = elim (cases_lt (p + i) 64) [
      | inl m ↦ m
      | inr m ↦
          let none : bit_at n (p + i) ≡ 0 = bit_at_above n 64 (p + i) fits m in
          absurd (omega (arith, none, one))
    ] in
    record { from = omega arith; inside = inside; is = one; below = λ j a b. sym (rest_is n p j a) ∙ x.2 (j - p) (omega (arith, a, b)) }

-- no class from 256 on is marked
pub marked_past : (words : List ℕ) (c : ℕ) → length words ≡ 4 → 256 ≤ c → marked words c ≡ 0
marked_past words c l h =
    let past : length words ≤ c / 64 = omega (arith, l, h) in
    ap (λ (n : ℕ). bit_at n (c % 64)) (get_or_past words (c / 64) 0 past) ∙ bit_at-zero (c % 64)

-- four words, one by one
each_word : (f : ℕ → ℕ) (q : ℕ) → q < 4 → get_or (f 0 ∷ f 1 ∷ f 2 ∷ f 3 ∷ []) q 0 ≡ f q
each_word f zero l = refl
each_word f (suc zero) l = refl
each_word f (suc (suc zero)) l = refl
each_word f (suc (suc (suc zero))) l = refl
each_word f (suc (suc (suc (suc q)))) l = absurd (omega (arith, l))

-- the words of two sets
abbrev both : List ℕ → List ℕ → ℕ → ℕ
both a b q = bit_and (get_or a q 0) (get_or b q 0)

abbrev rest_of : List ℕ → List ℕ → ℕ → ℕ
rest_of a b q = bit_and (get_or a q 0) (bit_xor (get_or a q 0) (get_or b q 0))

pub marked_in_both : (a b : List ℕ) (c : ℕ) → length a ≡ 4 → length b ≡ 4
    → marked (both a b 0 ∷ both a b 1 ∷ both a b 2 ∷ both a b 3 ∷ []) c ≡ min (marked a c) (marked b c)
marked_in_both a b c l m = elim (cases_lt (c / 64) 4) [
  | inl k ↦ ap (λ (n : ℕ). bit_at n (c % 64)) (each_word (both a b) (c / 64) k) ∙ bit_at_and (get_or a (c / 64) 0) (get_or b (c / 64) 0) (c % 64)
  | inr k ↦
      let none = marked_past (both a b 0 ∷ both a b 1 ∷ both a b 2 ∷ both a b 3 ∷ []) c refl (omega (arith, k)) in
      let first = marked_past a c l (omega (arith, k)) in
      omega (arith, none, first)
]

pub marked_in_one : (a b : List ℕ) (c : ℕ) → length a ≡ 4 → length b ≡ 4
    → marked (rest_of a b 0 ∷ rest_of a b 1 ∷ rest_of a b 2 ∷ rest_of a b 3 ∷ []) c ≡ marked a c - marked b c
marked_in_one a b c l m = elim (cases_lt (c / 64) 4) [
  | inl k ↦
      let i : ℕ = c % 64 in
      let n : ℕ = get_or a (c / 64) 0 in
      let o : ℕ = get_or b (c / 64) 0 in
      let here = ap (λ (w : ℕ). bit_at w i) (each_word (rest_of a b) (c / 64) k) in
      let bits = bit_at_and n (bit_xor n o) i in
      let turned = bit_at_xor n o i in
      omega (arith, here, bits, turned, bit_at-lt n i, bit_at-lt o i)
  | inr k ↦
      let none = marked_past (rest_of a b 0 ∷ rest_of a b 1 ∷ rest_of a b 2 ∷ rest_of a b 3 ∷ []) c refl (omega (arith, k)) in
      let first = marked_past a c l (omega (arith, k)) in
      omega (arith, none, first)
]
