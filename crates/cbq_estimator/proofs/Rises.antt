-- The rate of a class that is allowed each of its packets.
use Rattle.std.proofs.Common.{◌≡◌, ◌≤◌, ◌<◌, ◌+◌, ◌-◌, ◌*◌, ℕ, true, refl, List, [], ◌∷◌, ◌++◌, arith}
use Rattle.std.specs.Prelude.{ℤ, pos, negsuc, ◌+ℤ◌, ◌-ℤ◌, ◌*ℤ◌, ◌≤ℤ◌, int_lt, int_le, ◌||◌, IsTrue}
use Rattle.std.specs.Int.{int_min}
use Rattle.std.proofs.lemmas.Nat.{mul-le}
use Rattle.std.proofs.lemmas.Int.{ints, clamps}
use Rattle.play_base.specs.Units.{units, ceil_div, time_of}
use Rattle.link_clock.proofs.Rounded.{le_ceil, ceil_le}
use Rattle.cbq_estimator.specs.Average.{Pace, Ended, average, decayed, idle, last_end, EndsAreInOrder}
use Rattle.cbq_estimator.specs.Starts.{enough, allows}
use Rattle.cbq_estimator.specs.Capped.{AreAllowed, bytes, RisesByIdleTime, KeepsItsRate}

-- what one allowed packet makes of an average a, with its idle time and its own time
record Risen (a next idle : ℤ) (own : ℕ) : Type 0 where
  pub rise : (pos 31 *ℤ (next -ℤ a)) ≤ℤ ((pos 32 *ℤ idle) +ℤ pos own)
  pub least : pos 0 ≤ℤ (next +ℤ pos own)

risen : (a : ℤ) (cap : ℕ) (i : ℤ) (own : ℕ) → (int_lt (pos 0) a || int_le (pos (enough a)) i) ≡ true
    → pos 0 ≤ℤ (i +ℤ pos own) → Risen a (int_min (pos cap) (decayed a +ℤ i)) i own
risen (pos n) cap i own may late = record { rise = omega (arith, ints, clamps); least = omega (arith, ints, clamps) }
risen (negsuc n) cap i own may late =
    let far : pos (ceil_div (31 * (n + 1)) 32) ≤ℤ i = grind (arith, ints) in
    record { rise = omega (arith, ints, clamps); least = omega (arith, ints, clamps) }

step : (p : Pace) (e b : Ended) (h : List Ended) → IsTrue (allows p (b ∷ h) e.end e.len) → b.end ≤ e.end
    → Risen (average p (b ∷ h)) (average p (e ∷ b ∷ h)) (idle p (b ∷ h) e.end e.len) (time_of e.len p.rate)
step p e b h may order =
    risen (average p (b ∷ h)) p.cap (idle p (b ∷ h) e.end e.len) (time_of e.len p.rate) may (omega (arith, ints))

pub rises : (p : Pace) (e b : Ended) (h : List Ended) → RisesByIdleTime p e b h
rises p e b h = λ may order. (step p e b h may order).rise

-- an average is never above the cap
average_most : (p : Pace) (h : List Ended) → average p h ≤ℤ pos p.cap
average_most p [] = omega (arith, ints)
average_most p (e ∷ []) = omega (arith, ints)
average_most p (e ∷ b ∷ h) = omega (arith, ints, clamps)

-- the packets' own times
abbrev pub times : Pace → List Ended → ℕ
times p [] = 0
times p (e ∷ es) = time_of e.len p.rate + times p es

-- what several allowed packets make of an average a: the time from the first end to the last one, and their own times
record Summed (a next : ℤ) (first last own : ℕ) : Type 0 where
  pub order : first ≤ last
  pub rise : ((pos 31 *ℤ next) +ℤ pos (31 * own)) ≤ℤ ((pos 31 *ℤ a) +ℤ pos (32 * (last - first)))

one_more : (a b next i : ℤ) (first last end own total : ℕ) → Summed a b first last total → last ≤ end
    → i ≡ ((pos end -ℤ pos last) -ℤ pos own) → (pos 31 *ℤ (next -ℤ b)) ≤ℤ ((pos 32 *ℤ i) +ℤ pos own)
    → Summed a next first end (own + total)
one_more a b next i first last end own total s order is rise = record {
  order = omega (arith, s.order);
  rise = omega (arith, ints, s.order, s.rise, is, rise);
}

summed : (p : Pace) (es : List Ended) (b : Ended) (h : List Ended) → EndsAreInOrder (es ++ b ∷ h) → AreAllowed p es (b ∷ h)
    → Summed (average p (b ∷ h)) (average p (es ++ b ∷ h)) b.end (last_end (es ++ b ∷ h)) (times p es)
summed p [] b h order may = record { order = omega arith; rise = omega (arith, ints) }
summed p (e ∷ []) b h order may =
    one_more (average p (b ∷ h)) (average p (b ∷ h)) (average p (e ∷ b ∷ h)) (idle p (b ∷ h) e.end e.len) b.end b.end e.end
    (time_of e.len p.rate) 0 (summed p [] b h order.1 tt) order.0 refl (step p e b h may.0 order.0).rise
summed p (e ∷ x ∷ xs) b h order may =
    one_more (average p (b ∷ h)) (average p (x ∷ xs ++ b ∷ h)) (average p (e ∷ x ∷ xs ++ b ∷ h))
    (idle p (x ∷ xs ++ b ∷ h) e.end e.len) b.end x.end e.end (time_of e.len p.rate) (times p (x ∷ xs))
    (summed p (x ∷ xs) b h order.1 may.1) order.0 refl (step p e x (xs ++ b ∷ h) may.0 order.0).rise

-- packets carry no more than their own times at the rate
carried : (p : Pace) (es : List Ended) → 0 < p.rate → units (bytes es) ≤ p.rate * times p es
carried p [] h = omega arith
carried p (e ∷ es) h =
    let one = le_ceil (units e.len) p.rate h in
    let more = carried p es h in
    omega arith

time_rises : (a b rate : ℕ) → 0 < rate → a ≤ b → time_of a rate ≤ time_of b rate
time_rises a b rate h k =
    let top = le_ceil (units b) rate h in
    ceil_le (units a) rate (time_of b rate) h (omega arith)

-- the last packet leaves an average that is at least its own time below 0
last_least : (p : Pace) (e : Ended) (es : List Ended) (b : Ended) (h : List Ended) → EndsAreInOrder (e ∷ es ++ b ∷ h)
    → AreAllowed p (e ∷ es) (b ∷ h) → pos 0 ≤ℤ (average p (e ∷ es ++ b ∷ h) +ℤ pos (time_of e.len p.rate))
last_least p e [] b h order may = (step p e b h may.0 order.0).least
last_least p e (x ∷ xs) b h order may = (step p e x (xs ++ b ∷ h) may.0 order.0).least

enough_time : (a next : ℤ) (cap first last total own most : ℕ) → Summed a next first last total → a ≤ℤ pos cap
    → pos 0 ≤ℤ (next +ℤ pos own) → own ≤ most → 31 * total ≤ 32 * (last - first) + 31 * (cap + most)
enough_time a next cap first last total own most s top least le = omega (arith, ints, s.order, s.rise, top, least)

pub keeps : (p : Pace) (longest : ℕ) (e : Ended) (es : List Ended) (b : Ended) (h : List Ended) → 0 < p.rate
    → KeepsItsRate p longest e es b h
keeps p longest e es b h some = λ order may short.
    let all = carried p (e ∷ es) some in
    let own = time_rises e.len longest p.rate some short.0 in
    let time = enough_time (average p (b ∷ h)) (average p (e ∷ es ++ b ∷ h)) p.cap b.end e.end (times p (e ∷ es))
    (time_of e.len p.rate) (time_of longest p.rate) (summed p (e ∷ es) b h order may) (average_most p (b ∷ h))
    (last_least p e es b h order may) own in
    let product = mul-le p.rate (31 * times p (e ∷ es)) p.rate
    (32 * (e.end - b.end) + 31 * (p.cap + time_of longest p.rate)) (omega arith) time in
    omega arith
