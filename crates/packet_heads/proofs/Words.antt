-- Two bytes of a list, read and written, and the words of heads that they hold.
use Rattle.std.proofs.Common.{◌≡◌, ◌≢◌, ◌≤◌, ◌<◌, ◌+◌, ◌-◌, ◌*◌, ◌/◌, ◌%◌, ◌∙◌, ℕ, List, length, get_or, set, Bool, true, false, refl, arith}
use Rattle.std.specs.Prelude.{if◌then◌else◌, nat_le}
use Rattle.std.proofs.lemmas.Bool.Decides.{nat_tests}
use Rattle.std.proofs.lemmas.List.{length-set, get_or-set_same, get_or-set_other}
use Rattle.packet_heads.specs.Flow.{two_at}
use Rattle.packet_heads.specs.Retagged.{with_two, first_word_4, first_word_6, ones_sum, turned, checksum_after}

pub length-with_two : (bytes : List ℕ) (at word : ℕ) → length (with_two bytes at word) ≡ length bytes
length-with_two bytes at word =
    length-set (set bytes at (word / 256)) (at + 1) (word % 256) ∙ length-set bytes at (word / 256)

pub other_of : (bytes : List ℕ) (at word k : ℕ) → k ≢ at → k ≢ at + 1 → get_or (with_two bytes at word) k 0 ≡ get_or bytes k 0
other_of bytes at word k first second =
    get_or-set_other (set bytes at (word / 256)) (at + 1) k (word % 256) 0 second ∙ get_or-set_other bytes at k (word / 256) 0 first

pub first_of : (bytes : List ℕ) (at word : ℕ) → at < length bytes → get_or (with_two bytes at word) at 0 ≡ word / 256
first_of bytes at word h =
    get_or-set_other (set bytes at (word / 256)) (at + 1) at (word % 256) 0 (omega arith) ∙ get_or-set_same bytes at (word / 256) 0 h

pub second_of : (bytes : List ℕ) (at word : ℕ) → at + 1 < length bytes → get_or (with_two bytes at word) (at + 1) 0 ≡ word % 256
second_of bytes at word h =
    get_or-set_same (set bytes at (word / 256)) (at + 1) (word % 256) 0 (omega (arith, length-set bytes at (word / 256)))

pub two_of : (bytes : List ℕ) (at word : ℕ) → at + 1 < length bytes → two_at (with_two bytes at word) at ≡ word
two_of bytes at word h =
    let first = first_of bytes at word (omega arith) in
    let second = second_of bytes at word h in
    omega arith

-- the first word of version 4
pub upper_4 : (a b tos : ℕ) → a < 256 → b < 256 → tos < 256 → first_word_4 (a * 256 + b) tos / 256 ≡ a
upper_4 a b tos ha hb ht = omega arith

pub lower_4 : (a b tos : ℕ) → a < 256 → b < 256 → tos < 256 → first_word_4 (a * 256 + b) tos % 256 ≡ tos
lower_4 a b tos ha hb ht = omega arith

pub bound_4 : (a b tos : ℕ) → a < 256 → b < 256 → tos < 256 → first_word_4 (a * 256 + b) tos ≤ 65535
bound_4 a b tos ha hb ht = omega arith

-- the first word of version 6
pub version_6 : (a b tos : ℕ) → a < 256 → b < 256 → tos < 256 → first_word_6 (a * 256 + b) tos / 256 / 16 ≡ a / 16
version_6 a b tos ha hb ht = omega arith

pub class_6 : (word tos : ℕ) → tos < 256 → first_word_6 word tos / 16 % 256 ≡ tos
class_6 word tos ht = omega arith

pub label_6 : (word tos : ℕ) → first_word_6 word tos % 16 ≡ word % 16
label_6 word tos = omega arith

-- the sum of a word and the checksum over it
by_sums : (checksum word changed sum : ℕ) (b c : Bool) → checksum ≤ 65535 → word ≤ 65535 → changed ≤ 65535
    → nat_le ((65535 - checksum) + (65535 - word)) 65535 ≡ b
    → sum ≡ (if b then (65535 - checksum) + (65535 - word) else (65535 - checksum) + (65535 - word) - 65535)
    → nat_le (sum + changed) 65535 ≡ c
    → (changed + (65535 - (if c then sum + changed else sum + changed - 65535))) % 65535 ≡ (word + checksum) % 65535
by_sums checksum word changed sum true true hc hw hd e is f =
    let le : sum + changed ≤ 65535 = grind (arith, nat_tests) in omega arith
by_sums checksum word changed sum true false hc hw hd e is f =
    let gt : 65535 < sum + changed = grind (arith, nat_tests) in
    let le : (65535 - checksum) + (65535 - word) ≤ 65535 = grind (arith, nat_tests) in omega arith
by_sums checksum word changed sum false true hc hw hd e is f =
    let gt : 65535 < (65535 - checksum) + (65535 - word) = grind (arith, nat_tests) in
    let le : sum + changed ≤ 65535 = grind (arith, nat_tests) in omega arith
by_sums checksum word changed sum false false hc hw hd e is f =
    let gt : 65535 < (65535 - checksum) + (65535 - word) = grind (arith, nat_tests) in
    let more : 65535 < sum + changed = grind (arith, nat_tests) in omega arith

pub sum_stays : (checksum word changed : ℕ) → checksum ≤ 65535 → word ≤ 65535 → changed ≤ 65535
    → (changed + checksum_after checksum word changed) % 65535 ≡ (word + checksum) % 65535
sum_stays checksum word changed hc hw hd =
    let sum = ones_sum (turned checksum) (turned word) in
    by_sums checksum word changed sum (nat_le (turned checksum + turned word) 65535) (nat_le (sum + changed) 65535) hc hw hd refl refl refl
