-- A packet on a link ends by its own time after its start, or 1 ns sooner.
use Rattle.std.proofs.Common.{◌≡◌, ◌≤◌, ◌<◌, ◌+◌, ◌-◌, ◌*◌, ℕ, Bool, true, false, refl, ap, zero-add, List, [], ◌∷◌, arith}
use Rattle.std.specs.Prelude.{nat_eq, nat_le, if◌then◌else◌}
use Rattle.std.proofs.lemmas.Nat.{mul-le, div_below}
use Rattle.std.proofs.lemmas.Bool.Decides.{nat_tests}
use Rattle.play_base.specs.Units.{units, ceil_div, time_of}
use Rattle.altq_model.specs.History.{Event, Offered, Sent}
use Rattle.altq_model.specs.Link.{Link, end_of, link, run_on}
use Rattle.link_clock.proofs.Rounded.{le_ceil, ceil_sum}
use Rattle.cbq_estimator.specs.Starts.{EndsItsRun}

-- rounded up, an amount gains less than one
ceil_gains : (a rate : ℕ) → 0 < rate → rate * ceil_div a rate + 1 ≤ a + rate
ceil_gains a rate h = omega arith

below_two_by : (rate s z : ℕ) (b : Bool) → nat_le (z + 2) s ≡ b → 0 < rate → rate * s + 2 ≤ rate * z + 2 * rate → s ≤ z + 1
below_two_by rate s z true e h k =
    let more : z + 2 ≤ s = grind (arith, nat_tests) in
    let product = mul-le rate (z + 2) rate s (omega arith) more in
    absurd (omega arith)
below_two_by rate s z false e h k = grind (arith, nat_tests)

below_two : (rate x y z : ℕ) → 0 < rate → rate * (x + y) + 2 ≤ rate * z + 2 * rate → x + y ≤ z + 1
below_two rate x y z h k = below_two_by rate (x + y) z (nat_le (z + 2) (x + y)) refl h k

parts_of_sum : (a b rate : ℕ) → 0 < rate → ceil_div a rate + ceil_div b rate ≤ ceil_div (a + b) rate + 1
parts_of_sum a b rate h =
    let one = ceil_gains a rate h in
    let two = ceil_gains b rate h in
    let sum = le_ceil (a + b) rate h in
    below_two rate (ceil_div a rate) (ceil_div b rate) (ceil_div (a + b) rate) h (omega arith)

pub record IsNear (end start time : ℕ) : Type 0 where
  pub most : end ≤ start + time
  pub least : start + time ≤ end + 1

near_by : (rate : ℕ) (l : Link) (t len : ℕ) (b : Bool) → nat_eq t l.free ≡ b → 0 < rate → EndsItsRun rate l
    → IsNear (if b then run_on rate l.run l.sent (units len) else run_on rate t 0 (units len)).free t (time_of len rate)
near_by rate l t len true e h ends =
    let same : t ≡ l.free = grind (arith, nat_tests) in
    let most = ceil_sum l.sent (units len) rate h in
    let least = parts_of_sum l.sent (units len) rate h in
    record { most = omega arith; least = omega arith }
near_by rate l t len false e h ends =
    let own : ceil_div (0 + units len) rate ≡ time_of len rate = ap (λ n. ceil_div n rate) (zero-add (units len)) in
    record { most = omega (arith, own); least = omega (arith, own) }

pub near : (rate : ℕ) (l : Link) (t len : ℕ) → 0 < rate → EndsItsRun rate l → IsNear (end_of rate l t len) t (time_of len rate)
near rate l t len h ends = near_by rate l t len (nat_eq t l.free) refl h ends

after_by : (rate : ℕ) (l : Link) (t len : ℕ) (b : Bool)
    → EndsItsRun rate (if b then run_on rate l.run l.sent (units len) else run_on rate t 0 (units len))
after_by rate l t len true = refl
after_by rate l t len false = refl

idle_ends : (rate : ℕ) → 0 < rate → 0 ≡ 0 + ceil_div 0 rate
idle_ends rate h = let none = div_below (0 + (rate - 1)) rate 1 h (omega arith) in omega arith

pub link_ends : (rate : ℕ) (h : List Event) → 0 < rate → EndsItsRun rate (link rate h)
link_ends rate [] p = idle_ends rate p
link_ends rate (Offered a w v ∷ h) p = link_ends rate h p
link_ends rate (Sent s ∷ h) p = after_by rate (link rate h) s.start s.len (nat_eq s.start (link rate h).free)
