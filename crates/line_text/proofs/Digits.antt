-- What the digits so far say of a number.
use Rattle.std.proofs.Common.{◌≡◌, ℕ, zero, suc, ◌+◌, ◌*◌, ◌^◌, ◌<◌, ◌≤◌, ◌&&◌, Bool, true, false, cond, List, [], ◌∷◌, ◌++◌, Some, None, length, take, get_or, refl, sym, arith, nat_lt}
use Rattle.std.proofs.lemmas.List.{take_more, take_all}
use Rattle.std.proofs.lemmas.Int.Digits.{digits_value_more, digits_value-lt}
use Rattle.std.proofs.lemmas.Str.Parse.{digits_value-take-le}
use Rattle.std.proofs.lemmas.Bool.Decides.{nat_tests}
use Rattle.std.specs.Char.{is_digit, digit_value}
use Rattle.std.specs.Str.Parse.{digits_value, AllDigits}
use Rattle.line_text.specs.Numbers.{are_digits, number}

below : (m n : ℕ) → m < n → nat_lt m n ≡ true
below m n h = grind (arith, nat_tests)

not_below : (m n : ℕ) → n ≤ m → nat_lt m n ≡ false
not_below m n h = grind (arith, nat_tests)

pub below-by : (m n : ℕ) → nat_lt m n ≡ true → m < n
below-by m n h = grind (arith, nat_tests)

not-lt-by : (m n : ℕ) → (m < n → ⊥) → n ≤ m
not-lt-by m n h = grind arith

and-false : (a : Bool) → (a && false) ≡ false
and-false true = refl
and-false false = refl

and_parts : (a b : Bool) → (a && b) ≡ true → (a ≡ true) × (b ≡ true)
and_parts true b h = (refl, h)
and_parts false b h = cc

are_digits-push : (radix : ℕ) (text : List ℕ) (byte : ℕ) → are_digits radix text ≡ true → is_digit byte radix ≡ true → are_digits radix (text ++ byte ∷ []) ≡ true
are_digits-push radix [] byte h e = rw e refl
are_digits-push radix (first ∷ text) byte h e =
    let parts = and_parts (is_digit first radix) (are_digits radix text) h in
    rw (parts.0, are_digits-push radix text byte parts.1 e) refl

are_digits-at : (radix : ℕ) (text : List ℕ) (i : ℕ) → i < length text → is_digit (get_or text i 0) radix ≡ false → are_digits radix text ≡ false
are_digits-at radix [] i inside h = absurd (omega arith)
are_digits-at radix (byte ∷ text) zero inside h = rw h refl
are_digits-at radix (byte ∷ text) (suc i) inside h = rw (are_digits-at radix text i (omega arith) h) (and-false (is_digit byte radix))

no_digits : (a c : Bool) (v : ℕ) → cond (a && false && c) (Some v) None ≡ None
no_digits true c v = refl
no_digits false c v = refl

too_great : (a b : Bool) (v : ℕ) → cond (a && b && false) (Some v) None ≡ None
too_great a b v = rw (and-false (a && b)) refl

-- the invariant of the loop, one digit on
pub digits_more : (radix : ℕ) (text : List ℕ) (i value : ℕ) → i < length text → are_digits radix (take i text) ≡ true → value ≡ digits_value radix (take i text)
    → digit_value (get_or text i 0) < radix → (are_digits radix (take (i + 1) text) ≡ true) × (value * radix + digit_value (get_or text i 0) ≡ digits_value radix (take (i + 1) text))
digits_more radix text i value inside digits same h =
    (rw (take_more text i 0 inside) (are_digits-push radix (take i text) (get_or text i 0) digits (below _ _ h)), rw same (sym (digits_value_more radix text i inside)))

none_by : (radix : ℕ) (text : List ℕ) (i value : ℕ) → i < length text → 1 ≤ radix → value ≡ digits_value radix (take i text)
    → ((digit_value (get_or text i 0) < radix) × (value * radix + digit_value (get_or text i 0) < 2 ^ 64) → ⊥)
    → (is : Bool) → is_digit (get_or text i 0) radix ≡ is → number radix text ≡ None
none_by radix text i value inside some same h false is =
    rw (are_digits-at radix text i inside is) (no_digits (nat_lt 0 (length text)) (nat_lt (digits_value radix text) (2 ^ 64)) (digits_value radix text))
none_by radix text i value inside some same h true is =
    let d : digit_value (get_or text i 0) < radix = below-by _ _ is in
    let more : value * radix + digit_value (get_or text i 0) ≡ digits_value radix (take (i + 1) text) = rw same (sym (digits_value_more radix text i inside)) in
    let least = digits_value-take-le radix text (i + 1) some in
    let great : 2 ^ 64 ≤ value * radix + digit_value (get_or text i 0) = not-lt-by _ _ (λ small. h (d, small)) in
    rw (not_below (digits_value radix text) (2 ^ 64) (omega arith)) (too_great (nat_lt 0 (length text)) (are_digits radix text) (digits_value radix text))

-- a byte that is no digit, or that makes the number too great, leaves none
pub no_number : (radix : ℕ) (text : List ℕ) (i value : ℕ) → i < length text → 1 ≤ radix → value ≡ digits_value radix (take i text)
    → ((digit_value (get_or text i 0) < radix) × (value * radix + digit_value (get_or text i 0) < 2 ^ 64) → ⊥) → number radix text ≡ None
no_number radix text i value inside some same h = none_by radix text i value inside some same h (is_digit (get_or text i 0) radix) refl

-- the number of all digits, and none where there is no digit
pub number_whole : (radix : ℕ) (text : List ℕ) (i value : ℕ) → length text ≤ i → are_digits radix (take i text) ≡ true → value ≡ digits_value radix (take i text)
    → value < 2 ^ 64 → 0 < length text → number radix text ≡ Some value
number_whole radix text i value past digits same small some =
    let all = take_all i text past in
    let d : are_digits radix text ≡ true = rw all at digits in
    let v : value ≡ digits_value radix text = rw all at same in
    let s : digits_value radix text < 2 ^ 64 = omega arith in
    rw (below _ _ some, d, below _ _ s, v) refl

cond_some : (b : Bool) (m n : ℕ) → Some n ≡ cond b (Some m) None → (b ≡ true) × (n ≡ m)
cond_some true m n h = (refl, cc)
cond_some false m n h = cc

all_digits : (radix : ℕ) (text : List ℕ) → are_digits radix text ≡ true → AllDigits radix text
all_digits radix [] h = tt
all_digits radix (byte ∷ text) h =
    let parts = and_parts (is_digit byte radix) (are_digits radix text) h in
    (below-by _ _ parts.0, all_digits radix text parts.1)

-- a number has a bound by the count of its digits
pub number-bound : (radix : ℕ) (text : List ℕ) (value : ℕ) → Some value ≡ number radix text → value < radix ^ length text
number-bound radix text value h =
    let d = cond_some (nat_lt 0 (length text) && are_digits radix text && nat_lt (digits_value radix text) (2 ^ 64)) (digits_value radix text) value h in
    let parts = and_parts (nat_lt 0 (length text) && are_digits radix text) (nat_lt (digits_value radix text) (2 ^ 64)) d.0 in
    let more = and_parts (nat_lt 0 (length text)) (are_digits radix text) parts.0 in
    rw d.1 (digits_value-lt radix text (all_digits radix text more.1))
