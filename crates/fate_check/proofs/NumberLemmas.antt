-- The decimal numbers of a row.
use Rattle.std.proofs.Common.{◌≡◌, ℕ, ◌^◌, ◌<◌, ◌≤◌, ◌&&◌, Bool, true, false, cond, List, [], ◌∷◌, Some, None, length, get_or, nat_lt, eqb, refl, sym, ap, ◌∙◌, arith, lt-ltb}
use Rattle.std.proofs.lemmas.Bool.{and_parts}
use Rattle.std.proofs.lemmas.Bool.Decides.{nat_tests}
use Rattle.std.proofs.lemmas.Fmt.{decimal-digits_value, decimal_is_IsNumeral, first_decimal, length-decimal-le, decimal_nonempty}
use Rattle.std.proofs.lemmas.Str.Parse.{IsNumeralModel, numerals_by_value, tells_digits}
use Rattle.std.specs.Char.{digit_value, is_digit}
use Rattle.std.specs.Fmt.{decimal}
use Rattle.std.specs.Str.Parse.{AllDigits, digits_value}
use Rattle.line_text.specs.Numbers.{are_digits, number}
use Rattle.line_text.proofs.Digits.{below-by}
use Rattle.fate_check.specs.Parse.{number_of}

digits_are : (radix : ℕ) (text : List ℕ) → AllDigits radix text → are_digits radix text ≡ true
digits_are radix [] h = refl
digits_are radix (byte ∷ text) h = rw (lt-ltb (digit_value byte) radix h.0, digits_are radix text h.1) refl

pub are_all : (radix : ℕ) (text : List ℕ) → are_digits radix text ≡ true → AllDigits radix text
are_all radix [] h = tt
are_all radix (byte ∷ text) h =
    let parts = and_parts (is_digit byte radix) (are_digits radix text) h in (below-by _ _ parts.0, are_all radix text parts.1)

own : IsNumeralModel (AllDigits 10) (digits_value 10)
own = numerals_by_value (AllDigits 10) tells_digits

-- what a number is read from
record IsRead (text : List ℕ) (n : ℕ) : Type 0 where
  some : 0 < length text
  digits : AllDigits 10 text
  small : n < 2 ^ 64
  value : n ≡ digits_value 10 text

test_some : (b : Bool) (m n : ℕ) → cond b (Some m) None ≡ Some n → (b ≡ true) × (n ≡ m)
test_some true m n h = (refl, cc)
test_some false m n h = absurd (cc)

number_read : (text : List ℕ) (n : ℕ) → number 10 text ≡ Some n → IsRead text n
number_read text n h =
    let d = test_some (nat_lt 0 (length text) && are_digits 10 text && nat_lt (digits_value 10 text) (2 ^ 64)) (digits_value 10 text) n h in
    let parts = and_parts (nat_lt 0 (length text) && are_digits 10 text) (nat_lt (digits_value 10 text) (2 ^ 64)) d.0 in
    let more = and_parts (nat_lt 0 (length text)) (are_digits 10 text) parts.0 in
    record {
      some = below-by _ _ more.0;
      digits = are_all 10 text more.1;
      small = omega (arith, d.1, below-by (digits_value 10 text) (2 ^ 64) parts.1);
      value = d.1;
    }

-- a number below 2^64, and the text that it has
pub record IsDecimal (text : List ℕ) (n : ℕ) : Type 0 where
  pub small : n < 2 ^ 64
  pub is : text ≡ decimal n

first_only : (text : List ℕ) → 0 < length text → (nat_lt 1 (length text) && eqb (get_or text 0 0) 48) ≡ false → get_or text 0 0 ≡ 48 → length text ≡ 1
first_only text some test first = grind (arith, nat_tests)

number_by : (text : List ℕ) (n : ℕ) (b : Bool) → (nat_lt 1 (length text) && eqb (get_or text 0 0) 48) ≡ b → cond b None (number 10 text) ≡ Some n → IsDecimal text n
number_by text n true t h = absurd (cc)
number_by text n false t h =
    let r = number_read text n h in
    let same : decimal (digits_value 10 text) ≡ text = decimal-digits_value own text r.digits r.some (first_only text r.some t) (omega (arith, r.small, r.value)) in
    record { small = r.small; is = sym same ∙ ap decimal (sym r.value) }

pub number_is : (text : List ℕ) (n : ℕ) → number_of text ≡ Some n → IsDecimal text n
unfolding number_of
number_is text n h = number_by text n (nat_lt 1 (length text) && eqb (get_or text 0 0) 48) refl h

no_leading : (n : ℕ) → n < 2 ^ 64 → (nat_lt 1 (length (decimal n)) && eqb (get_or (decimal n) 0 0) 48) ≡ false
no_leading n small =
    let long : n < 10 → length (decimal n) ≤ 1 = λ low. length-decimal-le 1 n (omega arith) (omega arith) small in
    let first : 0 < n → 48 < get_or (decimal n) 0 0 = λ some. first_decimal n some small in
    grind (arith, nat_tests, long, first)

pub number_of_decimal : (n : ℕ) → n < 2 ^ 64 → number_of (decimal n) ≡ Some n
unfolding number_of
number_of_decimal n small =
    let is = decimal_is_IsNumeral n small in
    let some : nat_lt 0 (length (decimal n)) ≡ true = lt-ltb 0 (length (decimal n)) (decimal_nonempty n small) in
    let below : nat_lt (digits_value 10 (decimal n)) (2 ^ 64) ≡ true = lt-ltb (digits_value 10 (decimal n)) (2 ^ 64) (omega (arith, is.1, small)) in
    rw (no_leading n small, some, digits_are 10 (decimal n) is.0.1, below, is.1) refl
