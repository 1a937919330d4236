-- A ruling that keeps a packet over the lower threshold counts it.
use Rattle.std.proofs.Common.{◌≡◌, ◌≤◌, ◌<◌, ◌+◌, ◌-◌, ◌*◌, ◌^◌, ◌==◌, ℕ, Bool, true, false, ℤ, pos, negsuc, ◌≤ℤ◌, ◌<ℤ◌, ◌+ℤ◌, ◌*ℤ◌, refl, sym, ap, subst, ◌∙◌, arith}
use Rattle.std.proofs.lemmas.Int.{ints}
use Rattle.std.proofs.lemmas.Bool.Decides.{nat_tests}
use Rattle.std.specs.Prelude.{if◌then◌else◌, nat_lt, nat_le}
use Rattle.altq_model.specs.declared.Reason.TheVariants.{Full, Early, Forced}
use Rattle.altq_model.specs.History.{is_kept}
use Rattle.red_average.specs.declared.ruling.Thresholds.{Thresholds}
use Rattle.red_average.specs.Ruling.{Ruled, dropped, kept, next_count, spacing, by_word, between, ruled}
use Rattle.red_average.proofs.Counting.{counted}

-- a test that would drop the packet has failed
record Passed (b : Bool) (r s : Ruled) : Type 0 where
  fails : b ≡ false
  rest : (if b then r else s) ≡ s
  keeps : is_kept s.ruling.verdict ≡ true

passed : (b : Bool) (r s : Ruled) → is_kept r.ruling.verdict ≡ false → is_kept (if b then r else s).ruling.verdict ≡ true → Passed b r s
passed true r s drops keeps = absurd (cc)
passed false r s drops keeps = record { fails = refl; rest = refl; keeps = keeps }

-- one that would keep it uncounted fails too
rest_of : (b : Bool) (r s : Ruled) → b ≡ false → (if b then r else s) ≡ s
rest_of true r s e = absurd (cc)
rest_of false r s e = refl

record IsCounted (t : Thresholds) (c : ℤ) (over : ℕ) (r : Ruled) : Type 0 where
  count : r.ruling.count ≡ pos (next_count c)
  room : next_count c * over < spacing (t.high - t.low)

over_lower : (a low x : ℕ) → low + x ≤ a → nat_lt a low ≡ false
over_lower a low x h = grind (arith, nat_tests)

room_left : (s n : ℕ) → ((s - n) == 0) ≡ false → n < s
room_left s n h = grind (arith, nat_tests)

is_counted : (t : Thresholds) (full : Bool) (a : ℕ) (c : ℤ) (word x : ℕ) → t.low + x ≤ a
    → is_kept (ruled t full a c word).ruling.verdict ≡ true → IsCounted t c (a - t.low) (ruled t full a c word)
is_counted t full a c word x over keeps =
    let n = next_count c in
    let by = a - t.low in
    let room = spacing (t.high - t.low) - n * by in
    let inner = if nat_le t.high a then dropped Forced 0 else between t a c word in
    let lower = if nat_lt a t.low then kept (negsuc 0) 0 else inner in
    let one = passed full (dropped Full 0) lower refl keeps in
    let two = rest_of (nat_lt a t.low) (kept (negsuc 0) 0) inner (over_lower a t.low x over) in
    let P : Ruled → Type 0 = λ r. is_kept r.ruling.verdict ≡ true in
    let three = passed (nat_le t.high a) (dropped Forced 0) (between t a c word) refl (subst P two one.keeps) in
    let four = passed (room == 0) (dropped Early 0) (by_word room by word n) refl three.keeps in
    let five = passed (nat_lt (word * room) (2 ^ 32 * by)) (dropped Early 1) (kept (pos n) 1) refl four.keeps in
    let all : ruled t full a c word ≡ kept (pos n) 1 = one.rest ∙ two ∙ three.rest ∙ four.rest ∙ five.rest in
    record { count = ap (λ (r : Ruled). r.ruling.count) all; room = room_left (spacing (t.high - t.low)) (n * by) four.fails }

pub record Counts (t : Thresholds) (c z : ℤ) (x : ℕ) : Type 0 where
  pub rises : z ≡ c +ℤ pos 1
  pub below : (z *ℤ pos x) <ℤ pos (spacing (t.high - t.low))

pub counts : (t : Thresholds) (full : Bool) (a : ℕ) (c : ℤ) (word x : ℕ) → 1 ≤ x → t.low + x ≤ a → t.high - t.low ≤ 2 ^ 54
    → negsuc 0 ≤ℤ c → is_kept (ruled t full a c word).ruling.verdict ≡ true → Counts t c (ruled t full a c word).ruling.count x
counts t full a c word x some over small least keeps =
    let h = is_counted t full a c word x over keeps in
    let both = counted c (next_count c) x (a - t.low) (t.high - t.low) refl least some (omega arith) small h.room in
    let P : ℤ → Type 0 = λ z. Counts t c z x in
    subst P (sym h.count) (record { rises = both.0; below = both.1 })

-- no count is below -1
record IsLeast (r : Ruled) : Type 0 where
  least : negsuc 0 ≤ℤ r.ruling.count

least_if : (b : Bool) (r s : Ruled) → IsLeast r → IsLeast s → IsLeast (if b then r else s)
least_if true r s h k = h
least_if false r s h k = k

pub least_count : (t : Thresholds) (full : Bool) (a : ℕ) (c : ℤ) (word : ℕ) → negsuc 0 ≤ℤ (ruled t full a c word).ruling.count
least_count t full a c word =
    let n = next_count c in
    let by = a - t.low in
    let room = spacing (t.high - t.low) - n * by in
    let inner = if nat_le t.high a then dropped Forced 0 else between t a c word in
    let lower = if nat_lt a t.low then kept (negsuc 0) 0 else inner in
    let full_drop : IsLeast (dropped Full 0) = record { least = omega (arith, ints) } in
    let forced_drop : IsLeast (dropped Forced 0) = record { least = omega (arith, ints) } in
    let sure_drop : IsLeast (dropped Early 0) = record { least = omega (arith, ints) } in
    let early_drop : IsLeast (dropped Early 1) = record { least = omega (arith, ints) } in
    let uncounted : IsLeast (kept (negsuc 0) 0) = record { least = omega (arith, ints) } in
    let counted : IsLeast (kept (pos n) 1) = record { least = omega (arith, ints) } in
    let word_test = least_if (nat_lt (word * room) (2 ^ 32 * by)) (dropped Early 1) (kept (pos n) 1) early_drop counted in
    let room_test = least_if (room == 0) (dropped Early 0) (by_word room by word n) sure_drop word_test in
    let high_test = least_if (nat_le t.high a) (dropped Forced 0) (between t a c word) forced_drop room_test in
    let low_test = least_if (nat_lt a t.low) (kept (negsuc 0) 0) inner uncounted high_test in
    (least_if full (dropped Full 0) lower full_drop low_test).least
