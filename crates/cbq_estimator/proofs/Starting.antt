-- The least start at which a packet ends late enough.
use Rattle.std.proofs.Common.{◌≡◌, ◌≤◌, ◌<◌, ◌+◌, ◌-◌, ◌*◌, ℕ, Bool, true, false, refl, sym, subst, arith}
use Rattle.std.proofs.Common.{FitsSigned, to_z, of_z, w64}
use Rattle.std.specs.Prelude.{ℤ, pos, ◌-ℤ◌, int_lt, int_le, ◌||◌, nat_eq, nat_le, List}
use Rattle.std.proofs.lemmas.Int.{ints, to_z-of_z}
use Rattle.std.proofs.lemmas.Bool.Decides.{nat_tests}
use Rattle.std.proofs.lemmas.Nat.{mul-le}
use Rattle.play_base.specs.Units.{ceil_div, time_of, units}
use Rattle.altq_model.specs.Link.{Link, end_of}
use Rattle.link_clock.proofs.Rounded.{ceil_le, le_ceil}
use Rattle.cbq_estimator.specs.Average.{Pace, Ended, average, last_end}
use Rattle.cbq_estimator.specs.Starts.{enough, wanted, allows, IsLeastStart}

pub late_enough : (e l o w : ℕ) → l + o + w ≤ e → int_le (pos w) ((pos e -ℤ pos l) -ℤ pos o) ≡ true
late_enough e l o w h = grind (arith, ints)

pub too_early : (e l o w : ℕ) → e < l + o + w → int_le (pos w) ((pos e -ℤ pos l) -ℤ pos o) ≡ false
too_early e l o w h = grind (arith, ints)

pub or_true : (a b : Bool) → b ≡ true → (a || b) ≡ true
or_true true b h = refl
or_true false b h = h

pub left_one : (a b : Bool) → a ≡ true → (a || b) ≡ true
left_one true b h = refl
left_one false b h = absurd (cc)

pub or_false : (a b : Bool) → a ≡ false → b ≡ false → (a || b) ≡ false
or_false true b h k = absurd (cc)
or_false false b h k = k

was_late_enough : (e l o w : ℕ) → int_le (pos w) ((pos e -ℤ pos l) -ℤ pos o) ≡ true → l + o + w ≤ e
was_late_enough e l o w h = grind (arith, ints)

right_one : (a b : Bool) → a ≡ false → (a || b) ≡ true → b ≡ true
right_one true b h k = absurd (cc)
right_one false b h k = k

-- while the average is above 0 a packet is allowed
pub allowed_ahead : (p : Pace) (h : List Ended) (end len : ℕ) → int_lt (pos 0) (average p h) ≡ true → allows p h end len ≡ true
allowed_ahead p h end len above = left_one (int_lt (pos 0) (average p h)) _ above

pub was_late : (p : Pace) (h : List Ended) (end len : ℕ) → int_lt (pos 0) (average p h) ≡ false → allows p h end len ≡ true
    → wanted p h len ≤ end
was_late p h end len low was =
    was_late_enough end (last_end h) (time_of len p.rate) (enough (average p h)) (right_one (int_lt (pos 0) (average p h)) _ low was)

-- the packet is allowed where its end is late enough
pub allowed_late : (p : Pace) (h : List Ended) (end len : ℕ) → wanted p h len ≤ end → allows p h end len ≡ true
allowed_late p h end len late =
    or_true (int_lt (pos 0) (average p h)) _ (late_enough end (last_end h) (time_of len p.rate) (enough (average p h)) late)

-- and not where it is earlier, unless the average is above 0
pub refused_early : (p : Pace) (h : List Ended) (end len : ℕ) → int_lt (pos 0) (average p h) ≡ false → end < wanted p h len
    → allows p h end len ≡ false
refused_early p h end len low early =
    or_false (int_lt (pos 0) (average p h)) _ low (too_early end (last_end h) (time_of len p.rate) (enough (average p h)) early)

-- an average that code compares is the average itself
pub not_above : (a : ℤ) → FitsSigned w64 a → int_lt (pos 0) (to_z w64 (of_z w64 a)) ≡ false → int_lt (pos 0) a ≡ false
not_above a fits h =
    let P : ℤ → Type 0 = λ z. int_lt (pos 0) z ≡ false in
    subst P (to_z-of_z w64 a fits) h

-- a start after the last end begins a run
pub later_end : (rate : ℕ) (l : Link) (t len : ℕ) → l.free < t → end_of rate l t len ≡ t + time_of len rate
later_end rate l t len h = grind (arith, nat_tests)

-- no earlier moment than the answer ends the packet late enough
pub early_end : (rate : ℕ) (l : Link) (now len u want : ℕ) (b : Bool) → nat_eq u now ≡ b → l.free ≤ now → now ≤ u
    → u < now + 1 + (want - end_of rate l (now + 1) len) → end_of rate l now len < want → end_of rate l u len < want
early_end rate l now len u want true e free from below short =
    let same : u ≡ now = grind (arith, nat_tests) in
    let P : ℕ → Type 0 = λ t. end_of rate l t len < want in
    subst P (sym same) short
early_end rate l now len u want false e free from below short =
    let after : now < u = grind (arith, nat_tests) in
    omega (arith, later_end rate l (now + 1) len (omega arith), later_end rate l u len (omega arith))

-- the packet may start now
starts_now : (p : Pace) (h : List Ended) (rate : ℕ) (l : Link) (now len : ℕ) → wanted p h len ≤ end_of rate l now len
    → IsLeastStart p h rate l now len now
starts_now p h rate l now len late = record {
  from = omega arith;
  allowed = allowed_late p h (end_of rate l now len) len late;
  least = λ u from below. absurd (omega arith);
}

-- the packet has to wait: each moment more from the next one on ends it a moment later
starts_later : (p : Pace) (h : List Ended) (rate : ℕ) (l : Link) (now len : ℕ) → l.free ≤ now
    → int_lt (pos 0) (average p h) ≡ false → end_of rate l now len < wanted p h len
    → IsLeastStart p h rate l now len (now + 1 + (wanted p h len - end_of rate l (now + 1) len))
starts_later p h rate l now len free low short =
    let start : ℕ = now + 1 + (wanted p h len - end_of rate l (now + 1) len) in
    let next = later_end rate l (now + 1) len (omega arith) in
    let late : wanted p h len ≤ end_of rate l start len = omega (arith, next, later_end rate l start len (omega arith)) in
    record {
      from = omega arith;
      allowed = allowed_late p h (end_of rate l start len) len late;
      least = λ u from below. refused_early p h (end_of rate l u len) len low
          (early_end rate l now len u (wanted p h len) (nat_eq u now) refl free from below short);
    }

-- the same of the numbers that code has
pub now_for : (p : Pace) (h : List Ended) (rate : ℕ) (l : Link) (now len want end : ℕ) → want ≡ wanted p h len
    → end ≡ end_of rate l now len → want ≤ end → IsLeastStart p h rate l now len now
now_for p h rate l now len want end w e late = starts_now p h rate l now len (omega (arith, w, e, late))

pub later_for : (p : Pace) (h : List Ended) (rate : ℕ) (l : Link) (now len want end next gap : ℕ) → l.free ≤ now
    → int_lt (pos 0) (average p h) ≡ false → want ≡ wanted p h len → end ≡ end_of rate l now len
    → next ≡ end_of rate l (now + 1) len → end < want → gap ≡ want - next → IsLeastStart p h rate l now len (now + 1 + gap)
later_for p h rate l now len want end next gap free low w e n short g =
    let P : ℕ → Type 0 = λ x. IsLeastStart p h rate l now len (now + 1 + x) in
    let same : gap ≡ wanted p h len - end_of rate l (now + 1) len = omega (arith, w, n, g) in
    subst P (sym same) (starts_later p h rate l now len free low (omega (arith, w, e, short)))

-- a time that carries less than some units is less than theirs, rounded up
below_by : (a rate end least : ℕ) (b : Bool) → nat_le (least + ceil_div a rate) end ≡ b → 0 < rate → least ≤ end → (end - least) * rate < a
    → end < least + ceil_div a rate
below_by a rate end least true e some low more =
    let fits : least + ceil_div a rate ≤ end = grind (arith, nat_tests) in
    let all = le_ceil a rate some in
    let product = mul-le rate (ceil_div a rate) rate (end - least) (omega arith) (omega (arith, fits)) in
    absurd (omega (arith, all, product, more))
below_by a rate end least false e some low more = grind (arith, nat_tests)

late_by : (end last need len rate : ℕ) (b : Bool) → 0 < rate → last + need ≤ end → nat_le (units len) ((end - (last + need)) * rate) ≡ b
    → b ≡ int_le (pos need) ((pos end -ℤ pos last) -ℤ pos (time_of len rate))
late_by end last need len rate true some low e =
    let fits : units len ≤ (end - (last + need)) * rate = grind (arith, nat_tests) in
    let time = ceil_le (units len) rate (end - (last + need)) some (omega (arith, fits)) in
    sym (late_enough end last (time_of len rate) need (omega (arith, low, time)))
late_by end last need len rate false some low e =
    let more : (end - (last + need)) * rate < units len = grind (arith, nat_tests) in
    sym (too_early end last (time_of len rate) need (omega (arith, below_by (units len) rate end (last + need) (nat_le (last + need + time_of len rate) end) refl some low more)))

-- the rest of the time from the enough idle time on carries the packet exactly where its own time fits
pub units_late : (end last need len rate : ℕ) → 0 < rate → last + need ≤ end
    → nat_le (units len) ((end - (last + need)) * rate) ≡ int_le (pos need) ((pos end -ℤ pos last) -ℤ pos (time_of len rate))
units_late end last need len rate some low = late_by end last need len rate (nat_le (units len) ((end - (last + need)) * rate)) some low refl
