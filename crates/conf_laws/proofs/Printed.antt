-- What is printed is read: each number, name and address of the canonical text is a word that says it. An IPv4 address is four decimal
-- numbers, joined by points; an IPv6 address is eight groups of hexadecimal digits, joined by colons.
use Rattle.std.proofs.Common.{◌≡◌, ◌≢◌, ℕ, zero, suc, ◌+◌, ◌-◌, ◌*◌, ◌/◌, ◌%◌, ◌<◌, ◌≤◌, ◌^◌, ◌&&◌, true, false, List, [], ◌∷◌, Some, Ok, length, nat_le, eqb, get_or, slice_index, codes, decimal, refl, ap, arith, lt-ltb, le-leb, ◌++◌, None}
use Rattle.std.proofs.Math.Bool.{and-false}
use Rattle.std.proofs.lemmas.Bool.{false_from_ne_true, ne_eqb}
use Rattle.std.specs.Cmp.Lexicographic.{bytes_decides}
use Rattle.std.proofs.lemmas.Bool.Decides.{nat_tests}
use Rattle.std.proofs.lemmas.Fmt.{decimal_is_IsNumeral, length-decimal-le, digits_is_IsNumeral}
use Rattle.std.proofs.lemmas.List.{append_assoc, append-nil, length-append}
use Rattle.std.proofs.lemmas.List.Elements.{recursion_from_All}
use Rattle.std.proofs.lemmas.Str.Parse.{digit_from_value}
use Rattle.std.specs.Char.{digit_value}
use Rattle.std.specs.Fmt.{digits, digits_onto, digit_glyph}
use Rattle.std.specs.List.{AllByRecursion as Every}
use Rattle.std.specs.Str.Parse.{AllDigits, IsNumeral, digits_value}
use Rattle.line_text.specs.Addresses.{octet, ip4_of, ip6_of, pieces, group as group_of, groups as groups_in, gap, gap_from}
use Rattle.line_text.specs.Numbers.{are_digits, number, whole_of, multiple_of, rate_of, cut}
use Rattle.line_text.specs.Words.{with_first}
use Rattle.conf_lines.specs.Laws.{AreBytes}
use Rattle.conf_lines.specs.Slots.{is_text, are_plain, rate_in, whole_in, name_in, protocol_in, mask_in, address_in, address6_in}
use Rattle.conf_lines.specs.declared.item.What.TheVariants.{Name, Ip4, Ip6}
use Rattle.conf_tree.specs.Printed.{ip4_word, ip6_word, hex, group, groups}
use Rattle.conf_laws.specs.Fit.{IsName, IsBetween}
use Rattle.conf_laws.proofs.Bytes.{OfName, IsWord, IsNot, Lacks, cut-none, every-append, behind, beside, cut-front}

-- a word that is not a given text
not_text : (text word : List ℕ) → word ≢ text → is_text text word ≡ false
unfolding is_text
not_text text word other = false_from_ne_true (is_text text word) (λ is. other ((bytes_decides word text).0 is))

-- NUMERALS
-- what holds of each digit holds of each byte of a numeral
every_digit : (radix : ℕ) (P : ℕ → Type 0) → ((byte : ℕ) → digit_value byte < radix → P byte) → (text : List ℕ) → AllDigits radix text → Every P text
every_digit radix P of_digit [] h = tt
every_digit radix P of_digit (byte ∷ text) h = (of_digit byte h.0, every_digit radix P of_digit text h.1)

digit-of_name : (byte : ℕ) → digit_value byte < 16 → OfName byte
digit-of_name byte h = grind (arith, nat_tests)

pub numeral_word : (radix most : ℕ) (text : List ℕ) → radix ≤ 16 → IsNumeral radix text → length text ≤ most → IsWord most text
numeral_word radix most text low is few =
    record { some = is.0; most = few; bytes = every_digit radix OfName (λ byte h. digit-of_name byte (omega arith)) text is.1 }

pub numeral_lacks : (radix mark : ℕ) (text : List ℕ) → AllDigits radix text → radix ≤ digit_value mark → Lacks mark text
numeral_lacks radix mark text digits other =
    every_digit radix (IsNot mark) (λ byte h. ne_eqb byte mark (λ same. omega (arith, ap digit_value same))) text digits

digits_are : (radix : ℕ) (text : List ℕ) → AllDigits radix text → are_digits radix text ≡ true
digits_are radix [] h = refl
digits_are radix (byte ∷ text) h = rw (lt-ltb (digit_value byte) radix h.0) (digits_are radix text h.1)

-- the number that a numeral writes
pub numeral_number : (radix n : ℕ) (text : List ℕ) → IsNumeral radix text → digits_value radix text ≡ n → n < 2 ^ 64 → number radix text ≡ Some n
numeral_number radix n text is e small =
    rw (digits_are radix text is.1, lt-ltb 0 (length text) is.0, e, lt-ltb n (2 ^ 64) small) refl

-- a byte of a decimal numeral is no letter
digit_most : (text : List ℕ) (i : ℕ) → AllDigits 10 text → get_or text i 0 ≤ 57
digit_most [] i h = omega arith
digit_most (byte ∷ text) zero h = let range = digit_from_value byte h.0 in omega arith
digit_most (byte ∷ text) (suc i) h = digit_most text i h.1

no_letter : (byte : ℕ) → byte ≤ 57 → (eqb byte 120 ≡ false) × (multiple_of byte ≡ 1)
no_letter byte h = (grind (arith, nat_tests), grind (arith, nat_tests))

-- DECIMAL NUMBERS
pub decimal_word : (most n : ℕ) → 0 < most → n < 10 ^ most → n < 2 ^ 64 → IsWord most (decimal n)
decimal_word most n some few small =
    numeral_word 10 most (decimal n) (omega arith) (decimal_is_IsNumeral n small).0 (length-decimal-le most n some few small)

pub decimal_number : (n : ℕ) → n < 2 ^ 64 → number 10 (decimal n) ≡ Some n
decimal_number n small = let is = decimal_is_IsNumeral n small in numeral_number 10 n (decimal n) is.0 is.1 small

decimal_whole : (n : ℕ) → n < 2 ^ 64 → whole_of (decimal n) ≡ Some n
decimal_whole n small =
    let digits = (decimal_is_IsNumeral n small).0.1 in
    rw ((no_letter (slice_index (decimal n) 1) (digit_most (decimal n) 1 digits)).0, and-false) (decimal_number n small)

decimal_rate : (n : ℕ) → n < 2 ^ 64 → rate_of (decimal n) ≡ Some n
decimal_rate n small =
    let digits = (decimal_is_IsNumeral n small).0.1 in
    let last = length (decimal n) - 1 in
    let same : (n * 1 + 0) * 1 ≡ n = omega arith in
    let whole : n % 1 ≡ 0 = omega arith in
    let part : n / 1 ≡ n = omega arith in
    rw (
      (no_letter (slice_index (decimal n) last) (digit_most (decimal n) last digits)).1,
      cut-none 46 (decimal n) (numeral_lacks 10 46 (decimal n) digits (omega arith)),
      decimal_number n small,
      same,
      whole,
      part,
      lt-ltb n (2 ^ 64) small,
    ) refl

-- EACH IS READ
plain_byte : (byte : ℕ) → OfName byte → (nat_le 33 byte && nat_le byte 126) ≡ true
plain_byte byte h = grind (arith, nat_tests)

pub is_plain : (word : List ℕ) → Every OfName word → are_plain word ≡ true
unfolding are_plain
is_plain [] h = refl
is_plain (byte ∷ word) h = rw (plain_byte byte h.0, is_plain word h.1) refl

decimal_plain : (n : ℕ) → n < 2 ^ 64 → are_plain (decimal n) ≡ true
decimal_plain n small = is_plain (decimal n) (decimal_word 20 n (omega arith) (omega arith) small).bytes

pub whole_is_read : (low high n : ℕ) → IsBetween low high n → high < 2 ^ 64 → whole_in low high (decimal n) ≡ Ok n
unfolding whole_in
whole_is_read low high n is small =
    rw (decimal_plain n (omega arith), decimal_whole n (omega arith), le-leb low n is.0, le-leb n high is.1) refl

pub rate_is_read : (low high n : ℕ) → IsBetween low high n → high < 2 ^ 64 → rate_in low high (decimal n) ≡ Ok n
unfolding rate_in
rate_is_read low high n is small =
    rw (decimal_plain n (omega arith), decimal_rate n (omega arith), le-leb low n is.0, le-leb n high is.1) refl

-- no number is a text that begins with a letter
letter_first : (n : ℕ) (text : List ℕ) → n < 2 ^ 64 → 57 < get_or text 0 0 → is_text text (decimal n) ≡ false
letter_first n text small letter =
    let digit = digit_most (decimal n) 0 (decimal_is_IsNumeral n small).0.1 in
    not_text text (decimal n) (λ e. omega (arith, ap (λ word. get_or word 0 0) e))

pub protocol_is_read : (n : ℕ) → n ≤ 255 → protocol_in (decimal n) ≡ Ok n
unfolding protocol_in
protocol_is_read n most =
    let icmp = letter_first n (codes "icmp") (omega arith) (omega arith) in
    let tcp = letter_first n (codes "tcp") (omega arith) (omega arith) in
    let udp = letter_first n (codes "udp") (omega arith) (omega arith) in
    rw (icmp, tcp, udp) (whole_is_read 0 255 n (omega arith) (omega arith))

pub name_is_read : (name : List ℕ) → IsName name → name_in name ≡ Ok (Name name)
unfolding name_in
name_is_read name is = rw is refl

-- two words with a mark between them are not `0`, the word for every address
no_zero : {m n : ℕ} {a b : List ℕ} (mark : ℕ) → IsWord m a → IsWord n b → a ++ mark ∷ b ≢ codes "0"
no_zero {a = a} {b = b} mark first second e =
    let x = first.some in let y = second.some in omega (arith, ap length e, length-append a (mark ∷ b))

-- IPV4
decimal_octet : (n : ℕ) → n < 256 → octet (decimal n) ≡ Some n
decimal_octet n small =
    let short = length-decimal-le 3 n (omega arith) (omega arith) (omega arith) in
    rw (decimal_number n (omega arith), le-leb (length (decimal n)) 3 short, le-leb n 255 (omega arith)) refl

cut-point : (n : ℕ) (rest : List ℕ) → n < 256 → cut 46 (decimal n ++ 46 ∷ rest) ≡ Some (decimal n, rest)
cut-point n rest small = cut-front 46 (decimal n) rest (numeral_lacks 10 46 (decimal n) (decimal_is_IsNumeral n (omega arith)).0.1 (omega arith))

ip4_read : (a : List ℕ) → AreBytes 4 a → ip4_of (ip4_word a) ≡ Some a
ip4_read (a ∷ b ∷ c ∷ d ∷ []) is =
    let (p, (q, (r, (s, end)))) = recursion_from_All (λ b. b < 256) (a ∷ b ∷ c ∷ d ∷ []) is.bytes in
    rw (cut-point, cut-point, cut-point, decimal_octet a, decimal_octet b, decimal_octet c, decimal_octet d)
ip4_read _ is = absurd (omega (arith, is.count))

module _ (a : List ℕ) (is : AreBytes 4 a) where
  octet_word : (i : ℕ) → i < 4 → IsWord 3 (decimal (slice_index a i))
  octet_word i inside =
      let small = is.bytes i 0 (omega (arith, is.count)) in decimal_word 3 (slice_index a i) (omega arith) (omega arith) (omega arith)

  behind_first : IsWord 11 (decimal (slice_index a 1) ++ 46 ∷ (decimal (slice_index a 2) ++ 46 ∷ decimal (slice_index a 3)))
  behind_first = beside 46 refl (octet_word 1 (omega arith)) (beside 46 refl (octet_word 2 (omega arith)) (octet_word 3 (omega arith)))

  pub ip4_is_word : IsWord 15 (ip4_word a)
  ip4_is_word = beside 46 refl (octet_word 0 (omega arith)) behind_first

  pub mask_is_read : mask_in (ip4_word a) ≡ Ok (Ip4 a)
  unfolding mask_in
  mask_is_read = rw (is_plain (ip4_word a) ip4_is_word.bytes, ip4_read a is) refl

  pub address_is_read : address_in (ip4_word a) ≡ Ok (Ip4 a)
  unfolding address_in
  address_is_read = rw (not_text (codes "0") (ip4_word a) (no_zero 46 (octet_word 0 (omega arith)) behind_first)) mask_is_read

-- GROUPS
hex_onto-len : (j k n : ℕ) (back : List ℕ) → n < 16 ^ suc j → j < k → length (digits_onto k 16 false n back) ≤ suc j + length back
hex_onto-len j zero n back fits enough = absurd (omega arith)
hex_onto-len zero (suc k) n back fits enough = let last : n / 16 ≡ 0 = omega arith in rw last (omega arith)
hex_onto-len (suc i) (suc k) n back fits enough =
    let rest = hex_onto-len i k (n / 16) (digit_glyph false (n % 16) ∷ back) (omega arith) (omega arith) in grind (arith, nat_tests)

hex_len : (n : ℕ) → n < 65536 → length (hex n) ≤ 4
unfolding digits
hex_len n small = hex_onto-len 3 64 n [] (omega arith) (omega arith)

-- a text of an IPv6 address
record IsPart (limit : ℕ) (text : List ℕ) : Type 0 where
  word : IsWord limit text
  slash : Lacks 47 text

record IsGroup (text : List ℕ) : Type 0 where
  part : IsPart 4 text
  colon : Lacks 58 text

hex_is : (n : ℕ) → n < 65536 → IsGroup (hex n)
hex_is n small =
    let is = (digits_is_IsNumeral 16 false (omega arith) (omega arith) n (omega arith)).0 in
    record {
      part = record { word = numeral_word 16 4 (hex n) (omega arith) is (hex_len n small); slash = numeral_lacks 16 47 (hex n) is.1 (omega arith) };
      colon = numeral_lacks 16 58 (hex n) is.1 (omega arith);
    }

hex_read : (x y : ℕ) → x < 256 → y < 256 → group_of (hex (x * 256 + y)) ≡ Some (x ∷ y ∷ [])
hex_read x y p q =
    let n = x * 256 + y in
    let is = digits_is_IsNumeral 16 false (omega arith) (omega arith) n (omega arith) in
    let high : (x * 256 + y) / 256 ≡ x = omega arith in
    let low : (x * 256 + y) % 256 ≡ y = omega arith in
    rw (numeral_number 16 n (hex n) is.0 is.1 (omega arith), le-leb (length (hex n)) 4 (hex_len n (omega arith)), high, low) refl

-- GROUPS BEHIND COLONS
pieces-front : (front rest : List ℕ) (found : List (List ℕ)) → Lacks 58 front → pieces rest ≡ [] ∷ found → pieces (front ++ rest) ≡ front ∷ found
pieces-front [] rest found h e = e
pieces-front (byte ∷ front) rest found h e = rw h.0 (ap (with_first byte) (pieces-front front rest found h.1 e))

pieces-behind : (texts : List (List ℕ)) → Every IsGroup texts → pieces (behind 58 texts) ≡ [] ∷ texts
pieces-behind [] h = refl
pieces-behind (text ∷ texts) h = ap (λ found. [] ∷ found) (pieces-front text (behind 58 texts) texts h.0.colon (pieces-behind texts h.1))

-- no two colons stand side by side
abbrev HasNoGap : List ℕ → Type 0
HasNoGap text = (at : ℕ) → gap_from at text ≡ None

no_gap-front : (front rest : List ℕ) → Lacks 58 front → HasNoGap rest → HasNoGap (front ++ rest)
no_gap-front [] rest h none = none
no_gap-front (byte ∷ front) rest h none = λ at. rw h.0 (no_gap-front front rest h.1 none (at + 1))

no_gap-behind : (texts : List (List ℕ)) → Every IsGroup texts → HasNoGap (behind 58 texts)
no_gap-behind [] h = λ at. refl
no_gap-behind ([] ∷ texts) h = absurd (omega (arith, h.0.part.word.some))
no_gap-behind ((byte ∷ text) ∷ texts) h =
    λ at. rw h.0.colon.0 (no_gap-front text (behind 58 texts) h.0.colon.1 (no_gap-behind texts h.1) (at + 1 + 1))

-- IPV6
-- the groups of bytes, two bytes in each
abbrev hexes : List ℕ → List (List ℕ)
hexes [] = []
hexes (x ∷ []) = []
hexes (x ∷ y ∷ a) = hex (x * 256 + y) ∷ hexes a

hexes_are : (count : ℕ) (a : List ℕ) → length a ≡ 2 * count → Every (λ b. b < 256) a → Every IsGroup (hexes a) × (groups_in (hexes a) ≡ Some a)
hexes_are count [] even small = (tt, refl)
hexes_are count (x ∷ []) even small = absurd (omega (arith, even))
hexes_are count (x ∷ y ∷ a) even small =
    let (p, (q, others)) = small in
    let rest = hexes_are (count - 1) a (omega (arith, even)) others in
    ((hex_is (x * 256 + y) (omega arith), rest.0), rw (hex_read x y p q, rest.1) refl)

spelled : (x y : ℕ) (a : List ℕ) → length a ≡ 14 → ip6_word (x ∷ y ∷ a) ≡ hex (x * 256 + y) ++ behind 58 (hexes a)
spelled x y (a2 ∷ a3 ∷ a4 ∷ a5 ∷ a6 ∷ a7 ∷ a8 ∷ a9 ∷ a10 ∷ a11 ∷ a12 ∷ a13 ∷ a14 ∷ a15 ∷ []) h = simp (append_assoc, append-nil)
spelled x y _ h = absurd (omega (arith, h))

joined_read : (text : List ℕ) (texts : List (List ℕ)) (a : List ℕ) → Every IsGroup (text ∷ texts) → groups_in (text ∷ texts) ≡ Some a → length a ≡ 16
    → ip6_of (text ++ behind 58 texts) ≡ Some a
joined_read text texts a are e count =
    let none : gap (text ++ behind 58 texts) ≡ None = rw (no_gap-front text (behind 58 texts) are.0.colon (no_gap-behind texts are.1) 0) refl in
    rw (none, pieces-front text (behind 58 texts) texts are.0.colon (pieces-behind texts are.1), e, count, count) refl

ip6_read : (a : List ℕ) → AreBytes 16 a → ip6_of (ip6_word a) ≡ Some a
ip6_read (x ∷ y ∷ a) is =
    let groups = hexes_are 8 (x ∷ y ∷ a) (omega (arith, is.count)) (recursion_from_All (λ b. b < 256) (x ∷ y ∷ a) is.bytes) in
    rw (spelled x y a (omega (arith, is.count))) (joined_read (hex (x * 256 + y)) (hexes a) (x ∷ y ∷ a) groups.0 groups.1 is.count)
ip6_read _ is = absurd (omega (arith, is.count))

joined : {m n : ℕ} {a b : List ℕ} → IsPart m a → IsPart n b → IsPart (m + (1 + n)) (a ++ 58 ∷ b)
joined {a = a} {b = b} first second =
    record { word = beside 58 refl first.word second.word; slash = every-append (IsNot 47) a (58 ∷ b) first.slash (refl, second.slash) }

-- an IPv6 address with its length
module _ (a : List ℕ) (bits : ℕ) (is : AreBytes 16 a) (few : bits ≤ 128) where
  group_is : (i : ℕ) → i < 8 → IsPart 4 (hex (group a i))
  group_is i inside =
      let high = is.bytes (2 * i) 0 (omega (arith, is.count)) in
      let low = is.bytes (2 * i + 1) 0 (omega (arith, is.count)) in
      (hex_is (group a i) (omega arith)).part

  four_are : (i : ℕ) → i ≤ 4 → IsPart 19 (groups a i)
  four_are i inside =
      joined (group_is i (omega arith)) (joined (group_is (i + 1) (omega arith)) (joined (group_is (i + 2) (omega arith)) (group_is (i + 3) (omega arith))))

  whole : IsPart 39 (ip6_word a)
  whole = joined (four_are 0 (omega arith)) (four_are 4 (omega arith))

  bits_word : IsWord 3 (decimal bits)
  bits_word = decimal_word 3 bits (omega arith) (omega arith) (omega arith)

  pub prefix_is_word : IsWord 43 (ip6_word a ++ (codes "/" ++ decimal bits))
  prefix_is_word = beside 47 refl whole.word bits_word

  pub prefix_is_read : address6_in (ip6_word a ++ (codes "/" ++ decimal bits)) ≡ Ok (Ip6 a bits)
  unfolding address6_in
  prefix_is_read =
      rw (
        not_text (codes "0") (ip6_word a ++ 47 ∷ decimal bits) (no_zero 47 whole.word bits_word),
        is_plain (ip6_word a ++ 47 ∷ decimal bits) prefix_is_word.bytes,
        cut-front 47 (ip6_word a) (decimal bits) whole.slash,
        ip6_read a is,
        decimal_number bits (omega arith),
        le-leb bits 128 few,
      ) refl
