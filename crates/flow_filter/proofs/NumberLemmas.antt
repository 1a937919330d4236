-- Addresses compared as numbers: bytes are the same where their numbers are, and a mask of the bytes is one of the number.
use Rattle.std.proofs.Common.{◌≡◌, ◌≢◌, ℕ, suc, ◌+◌, ◌-◌, ◌*◌, ◌/◌, ◌^◌, ◌<◌, ◌≤◌, ◌==◌, ◌&&◌, min, ⊎_elim, Bool, true, false, List, [], ◌∷◌, length, take, refl, sym, ◌∙◌, ap, arith, subst, div-mul-le_self}
use Rattle.std.specs.Prelude.{All, bit_and, bytes_eq}
use Rattle.std.specs.Int.Bits.{and_zero_r}
use Rattle.std.proofs.Math.Nat.{add-mul, mul-le-mul_right}
use Rattle.std.proofs.Math.Pow.{pow_mono}
use Rattle.std.proofs.lemmas.Bool.{and_parts, and_right, cases_lt, eqb-true}
use Rattle.std.proofs.lemmas.Bool.Decides.{nat_tests}
use Rattle.std.proofs.lemmas.List.{length-take-le, take_all}
use Rattle.std.proofs.lemmas.List.Elements.{All-cons, All-head, All-nil, All-tail, All-take}
use Rattle.std.proofs.lemmas.Nat.{and_block, and_le_l, pow-add, pow_pos, same_from_place}
use Rattle.std.proofs.lemmas.Nat.Bits.{and_high_mask}
use Rattle.byteorder.specs.Endian.{big_number}
use Rattle.byteorder.specs.Numbers.{big_from-cons, big_from-take}
use Rattle.byteorder.proofs.Bytes.{pow256}
use Rattle.conf_tree.specs.Masks.{masked, upper, prefix}
use Rattle.flow_filter.specs.Numbers.{IsNumberOf, first_ones}
use Rattle.flow_filter.specs.Matches.{agrees_under, agrees_within}

abbrev pub IsByte : ℕ → Type 0
IsByte byte = byte < 256

-- the number of all bytes of a list, the highest first
abbrev pub value : List ℕ → ℕ
value [] = 0
value (byte ∷ bytes) = byte * 2 ^ (8 * length bytes) + value bytes

grows : (n : ℕ) → 2 ^ (8 * suc n) ≡ 256 * 2 ^ (8 * n)
grows n = let e : 8 * suc n ≡ 8 + 8 * n = omega arith in ap (λ (k : ℕ). 2 ^ k) e ∙ pow-add 2 8 (8 * n)

pub value_below : (bytes : List ℕ) → All IsByte bytes → value bytes < 2 ^ (8 * length bytes)
value_below [] all = omega arith
value_below (byte ∷ bytes) all =
    let p = 2 ^ (8 * length bytes) in
    let first : byte ≤ 255 = omega (arith, All-head IsByte byte bytes all) in
    let most : byte * p ≤ 255 * p = mul-le-mul_right p first in
    let rest : value bytes < p = value_below bytes (All-tail IsByte byte bytes all) in
    let bound = grows (length bytes) in
    omega arith

-- the first bytes of a list that has no fewer
pub number_is_value : (bytes : List ℕ) → big_number (length bytes) bytes ≡ value bytes
number_is_value [] = refl
number_is_value (byte ∷ bytes) =
    let rest = big_from-cons 0 (length bytes) byte bytes ∙ number_is_value bytes in
    let p = pow256 (length bytes) in
    rw (rest, p) refl

same_self : (n : ℕ) → (n == n) ≡ true
same_self n = grind (arith, nat_tests)

same_tests : (b c : Bool) → (b ≡ true → c ≡ true) → (c ≡ true → b ≡ true) → b ≡ c
same_tests true c f g = sym (f refl)
same_tests false true f g = g refl
same_tests false false f g = refl

-- two lists of bytes are the same where their numbers are
by_first : (a b p v w : ℕ) → v < p → w < p → (a * p + v == b * p + w) ≡ (a == b && v == w)
by_first a b p v w h k =
    same_tests (a * p + v == b * p + w) (a == b && v == w)
    (λ e. let both = same_from_place a v b w p h k (eqb-true (a * p + v) (b * p + w) e) in
    let first = both.0 in let rest = both.1 in grind (arith, nat_tests))
    (λ e. let parts = and_parts (a == b) (v == w) e in
    let first : a ≡ b = eqb-true a b parts.0 in
    let rest : v ≡ w = eqb-true v w parts.1 in rw (first, rest) (same_self (b * p + w)))

pub same_value : (xs ys : List ℕ) → length xs ≡ length ys → All IsByte xs → All IsByte ys → bytes_eq xs ys ≡ (value xs == value ys)
same_value [] [] long h k = refl
same_value [] (y ∷ ys) long h k = absurd (omega arith)
same_value (x ∷ xs) [] long h k = absurd (omega arith)
same_value (x ∷ xs) (y ∷ ys) long h k =
    let lengths : length xs ≡ length ys = omega arith in
    let rest = same_value xs ys lengths (All-tail IsByte x xs h) (All-tail IsByte y ys k) in
    let low : value xs < 2 ^ (8 * length ys) = subst (λ (n : ℕ). value xs < 2 ^ (8 * n)) lengths (value_below xs (All-tail IsByte x xs h)) in
    let high = value_below ys (All-tail IsByte y ys k) in
    rw (lengths, rest) (sym (by_first x y (2 ^ (8 * length ys)) (value xs) (value ys) low high))

length_masked : (address mask : List ℕ) → length address ≡ length mask → length (masked address mask) ≡ length mask
length_masked [] [] long = refl
length_masked [] (m ∷ mask) long = long
length_masked (x ∷ address) [] long = absurd (omega arith)
length_masked (x ∷ address) (m ∷ mask) long = ap suc (length_masked address mask (omega arith))

-- a list under a mask as long
pub value_masked : (address mask : List ℕ) → length address ≡ length mask → All IsByte address → All IsByte mask
    → value (masked address mask) ≡ bit_and (value address) (value mask)
value_masked [] [] long h k = refl
value_masked [] (m ∷ mask) long h k = absurd (omega arith)
value_masked (x ∷ address) [] long h k = absurd (omega arith)
value_masked (x ∷ address) (m ∷ mask) long h k =
    let lengths : length address ≡ length mask = omega arith in
    let rest = value_masked address mask lengths (All-tail IsByte x address h) (All-tail IsByte m mask k) in
    let low : value address < 2 ^ (8 * length mask) = subst (λ (n : ℕ). value address < 2 ^ (8 * n)) lengths (value_below address (All-tail IsByte x address h)) in
    let high = value_below mask (All-tail IsByte m mask k) in
    let size = length_masked address mask lengths in
    rw (size, lengths, rest) (sym (and_block (8 * length mask) x m (value address) (value mask) low high))

length_prefix : (bits : ℕ) (address : List ℕ) → length (prefix bits address) ≡ length address
length_prefix bits [] = refl
length_prefix bits (x ∷ address) = ap suc (length_prefix (bits - 8) address)

value_prefix_0 : (address : List ℕ) → All IsByte address → value (prefix 0 address) ≡ 0
value_prefix_0 [] h = refl
value_prefix_0 (x ∷ address) h =
    let none : x / 256 * 256 ≡ 0 = omega (arith, All-head IsByte x address h) in
    let rest = value_prefix_0 address (All-tail IsByte x address h) in
    rw (none, rest) (omega arith)

-- the mask of the first bits, by its first byte and its others
module _ (bits n : ℕ) where
  mask_whole : 8 ≤ bits → 2 ^ (8 * suc n) - 2 ^ (8 * suc n - bits) ≡ 255 * 2 ^ (8 * n) + (2 ^ (8 * n) - 2 ^ (8 * n - (bits - 8)))
  mask_whole some =
      let e : 8 * suc n - bits ≡ 8 * n - (bits - 8) = omega arith in
      let whole = grows n in
      let less : 2 ^ (8 * n - (bits - 8)) ≤ 2 ^ (8 * n) = pow_mono {i = 8 * n - (bits - 8)} {j = 8 * n} (omega arith) in
      rw (e, whole) (omega arith)

  mask_part : bits < 8 → 2 ^ (8 * suc n) - 2 ^ (8 * suc n - bits) ≡ (2 ^ 8 - 2 ^ (8 - bits)) * 2 ^ (8 * n) + 0
  mask_part few =
      let p = 2 ^ (8 * n) in
      let t = 2 ^ (8 - bits) in
      let e : 8 * suc n - bits ≡ (8 - bits) + 8 * n = omega arith in
      let low : 2 ^ (8 * suc n - bits) ≡ t * p = ap (λ (k : ℕ). 2 ^ k) e ∙ pow-add 2 (8 - bits) (8 * n) in
      let whole = grows n in
      let less : t ≤ 256 = pow_mono {i = 8 - bits} {j = 8} (omega arith) in
      let sum : (256 - t + t) * p ≡ (256 - t) * p + t * p = add-mul (256 - t) t p in
      let back : 256 - t + t ≡ 256 = omega arith in
      let both : 256 * p ≡ (256 - t) * p + t * p = ap (λ (k : ℕ). k * p) (sym back) ∙ sum in
      rw (low, whole) (omega arith)

-- the first bits of a list
pub value_prefix : (bits : ℕ) (address : List ℕ) → All IsByte address
    → value (prefix bits address) ≡ bit_and (value address) (2 ^ (8 * length address) - 2 ^ (8 * length address - bits))
value_prefix bits [] h = refl
value_prefix bits (x ∷ address) h =
    let n = length address in
    let p = 2 ^ (8 * n) in
    let small = All-head IsByte x address h in
    let others = All-tail IsByte x address h in
    let below = value_below address others in
    let size = length_prefix (bits - 8) address in
    ⊎_elim
    (λ few.
    let least : min bits 8 ≡ bits = omega arith in
    let none : bits - 8 ≡ 0 = omega arith in
    let rest = value_prefix_0 address others in
    let first : bit_and x (2 ^ 8 - 2 ^ (8 - bits)) ≡ upper bits x = and_high_mask 8 (8 - bits) (omega arith) x small in
    let block = and_block (8 * n) x (2 ^ 8 - 2 ^ (8 - bits)) (value address) 0 below (pow_pos (8 * n)) in
    let mask = mask_part bits n few in
    let size_0 = length_prefix 0 address in
    rw (mask, block, first, and_zero_r (value address), none, least, size_0, rest) refl)
    (λ some.
    let least : min bits 8 ≡ 8 = omega arith in
    let rest = value_prefix (bits - 8) address others in
    let low = 2 ^ (8 * n) - 2 ^ (8 * n - (bits - 8)) in
    let positive = pow_pos (8 * n - (bits - 8)) in
    let positive_too = pow_pos (8 * n) in
    let first : bit_and x (2 ^ 8 - 2 ^ 0) ≡ upper 8 x = and_high_mask 8 0 (omega arith) x small in
    let block = and_block (8 * n) x 255 (value address) low below (omega arith) in
    let mask = mask_whole bits n some in
    rw (mask, block, least, size, rest) (ap (λ (b : ℕ). b * p + bit_and (value address) low) (sym first)))
    (cases_lt bits 8)

-- what a number stands for is the value of its bytes
pub value_of : (count : ℕ) (address : List ℕ) (n : ℕ) → IsNumberOf count address n → n ≡ value (take count address)
value_of count address n is =
    let size : length (take count address) ≡ count = length-take-le count address is.long in
    let same : big_number count address ≡ big_number (length (take count address)) (take count address) =
    sym (big_from-take 0 count count address (omega arith)) ∙ ap (λ (k : ℕ). big_number k (take count address)) (sym size) in
    is.number_is ∙ same ∙ number_is_value (take count address)

masked_take : (address mask : List ℕ) → masked (take (length mask) address) mask ≡ masked address mask
masked_take [] [] = refl
masked_take [] (m ∷ mask) = refl
masked_take (x ∷ address) [] = refl
masked_take (x ∷ address) (m ∷ mask) = ap (λ (rest : List ℕ). bit_and x m ∷ rest) (masked_take address mask)

masked_bytes : (address mask : List ℕ) → All IsByte address → All IsByte (masked address mask)
masked_bytes [] mask h = All-nil IsByte
masked_bytes (x ∷ address) [] h = All-nil IsByte
masked_bytes (x ∷ address) (m ∷ mask) h =
    let small : bit_and x m < 256 = omega (arith, and_le_l x m, All-head IsByte x address h) in
    All-cons IsByte (bit_and x m) (masked address mask) small (masked_bytes address mask (All-tail IsByte x address h))

prefix_bytes : (bits : ℕ) (address : List ℕ) → All IsByte address → All IsByte (prefix bits address)
prefix_bytes bits [] h = All-nil IsByte
prefix_bytes bits (x ∷ address) h =
    let most : upper (min bits 8) x ≤ x = div-mul-le_self x (2 ^ (8 - min bits 8)) in
    let small : upper (min bits 8) x < 256 = omega (arith, All-head IsByte x address h) in
    All-cons IsByte (upper (min bits 8) x) (prefix (bits - 8) address) small (prefix_bytes (bits - 8) address (All-tail IsByte x address h))

-- an address of IPv4 under a mask
pub under_by_number : (address mask own : List ℕ) (n m o : ℕ) → length mask ≡ 4 → length own ≡ 4
    → IsNumberOf 4 address n → IsNumberOf 4 mask m → IsNumberOf 4 own o → (bit_and n m == o) ≡ agrees_under mask own address
under_by_number address mask own n m o mask_long own_long is_n is_m is_o =
    let front = take 4 address in
    let front_bytes = All-take IsByte 4 address is_n.bytes in
    let front_long : length front ≡ 4 = length-take-le 4 address is_n.long in
    let n_is = value_of 4 address n is_n in
    let m_is : m ≡ value mask = value_of 4 mask m is_m ∙ ap value (take_all 4 mask (omega arith)) in
    let o_is : o ≡ value own = value_of 4 own o is_o ∙ ap value (take_all 4 own (omega arith)) in
    let long : length front ≡ length mask = front_long ∙ sym mask_long in
    let size : length (masked front mask) ≡ length own = length_masked front mask long ∙ mask_long ∙ sym own_long in
    let same : masked front mask ≡ masked address mask =
    ap (λ (k : ℕ). masked (take k address) mask) (sym mask_long) ∙ masked_take address mask in
    rw (n_is, m_is, o_is, sym (value_masked front mask long front_bytes is_m.bytes))
    (sym (same_value (masked front mask) own size (masked_bytes front mask front_bytes) is_o.bytes)
    ∙ ap (λ (xs : List ℕ). bytes_eq xs own) same)

-- the first bits of an address of IPv6
pub within_by_number : (bits : ℕ) (address own : List ℕ) (n o : ℕ) → length address ≡ 16 → length own ≡ 16
    → IsNumberOf 16 address n → IsNumberOf 16 own o → (bit_and n (first_ones bits) == o) ≡ agrees_within bits own address
within_by_number bits address own n o long own_long is_n is_o =
    let n_is : n ≡ value address = value_of 16 address n is_n ∙ ap value (take_all 16 address (omega arith)) in
    let o_is : o ≡ value own = value_of 16 own o is_o ∙ ap value (take_all 16 own (omega arith)) in
    let mask : value (prefix bits address) ≡ bit_and (value address) (first_ones bits) =
    value_prefix bits address is_n.bytes ∙ ap (λ (k : ℕ). bit_and (value address) (2 ^ (8 * k) - 2 ^ (8 * k - bits))) long in
    let size : length (prefix bits address) ≡ length own = length_prefix bits address ∙ long ∙ sym own_long in
    rw (n_is, o_is, sym mask) (sym (same_value (prefix bits address) own size (prefix_bytes bits address is_n.bytes) is_o.bytes))

-- what has not the bytes that a version asks for: a shorter list than the filter's, and one of another length
pub short_under : (address mask own : List ℕ) → length address < length own → agrees_under mask own address ≡ false
short_under address mask [] h = absurd (omega arith)
short_under [] mask (y ∷ own) h = refl
short_under (x ∷ address) [] (y ∷ own) h = refl
short_under (x ∷ address) (m ∷ mask) (y ∷ own) h = and_right (bit_and x m == y) (bytes_eq (masked address mask) own) (short_under address mask own (omega arith))

pub other_within : (bits : ℕ) (address own : List ℕ) → length address ≢ length own → agrees_within bits own address ≡ false
other_within bits [] [] h = absurd (h refl)
other_within bits [] (y ∷ own) h = refl
other_within bits (x ∷ address) [] h = refl
other_within bits (x ∷ address) (y ∷ own) h =
    and_right (upper (min bits 8) x == y) (bytes_eq (prefix (bits - 8) address) own) (other_within (bits - 8) address own (omega arith))
