-- What an estimator answers by what it keeps.
use Rattle.std.proofs.Common.{◌≡◌, ◌≤◌, ◌<◌, ◌+◌, ◌-◌, ℕ, Bool, true, false, List, [], ◌∷◌, refl, arith}
use Rattle.std.specs.Prelude.{pos, int_lt, nat_eq, nat_le, if◌then◌else◌, unwrap_or}
use Rattle.std.proofs.lemmas.Bool.Decides.{nat_tests}
use Rattle.play_base.specs.Units.{time_of}
use Rattle.altq_model.specs.Link.{Link, end_of}
use Rattle.cbq_estimator.specs.Average.{Pace, Ended}
use Rattle.cbq_estimator.specs.Estimate.{Estimate, Represents}
use Rattle.cbq_estimator.specs.Now.{IsLeastStartNow, after_end, allows_now, estimate_of, start_now, wanted_now}
use Rattle.cbq_estimator.specs.Starts.{enough}
use Rattle.cbq_estimator.proofs.Starting.{early_end, late_enough, later_end, left_one, or_false, or_true, too_early}

allowed_late : (e : Estimate) (end len : ℕ) → wanted_now e len ≤ end → allows_now e end len ≡ true
allowed_late e end len late = or_true (int_lt (pos 0) e.average) _ (late_enough end (unwrap_or e.last 0) (time_of len e.pace.rate) (enough e.average) late)

refused_early : (e : Estimate) (end len : ℕ) → int_lt (pos 0) e.average ≡ false → end < wanted_now e len → allows_now e end len ≡ false
refused_early e end len low early =
    or_false (int_lt (pos 0) e.average) _ low (too_early end (unwrap_or e.last 0) (time_of len e.pace.rate) (enough e.average) early)

least_by : (e : Estimate) (rate : ℕ) (l : Link) (now len : ℕ) (ahead late : Bool) → int_lt (pos 0) e.average ≡ ahead
    → nat_le (wanted_now e len) (end_of rate l now len) ≡ late → l.free ≤ now
    → IsLeastStartNow e rate l now len
    (if ahead then now else if late then now else now + 1 + (wanted_now e len - end_of rate l (now + 1) len))
least_by e rate l now len true late a b free = record {
  from = omega arith;
  allowed = left_one (int_lt (pos 0) e.average) _ a;
  least = λ u from below. absurd (omega arith);
}
least_by e rate l now len false true a b free =
    let late : wanted_now e len ≤ end_of rate l now len = grind (arith, nat_tests) in
    record {
      from = omega arith;
      allowed = allowed_late e (end_of rate l now len) len late;
      least = λ u from below. absurd (omega arith);
    }
least_by e rate l now len false false a b free =
    let want : ℕ = wanted_now e len in
    let short : end_of rate l now len < want = grind (arith, nat_tests) in
    let start : ℕ = now + 1 + (want - end_of rate l (now + 1) len) in
    let next = later_end rate l (now + 1) len (omega arith) in
    let late : want ≤ end_of rate l start len = omega (arith, next, later_end rate l start len (omega arith)) in
    record {
      from = omega arith;
      allowed = allowed_late e (end_of rate l start len) len late;
      least = λ u from below. refused_early e (end_of rate l u len) len a (early_end rate l now len u want (nat_eq u now) refl free from below short);
    }

pub least : (e : Estimate) (rate : ℕ) (l : Link) (now len : ℕ) → l.free ≤ now → IsLeastStartNow e rate l now len (start_now e rate l now len)
least e rate l now len free =
    least_by e rate l now len (int_lt (pos 0) e.average) (nat_le (wanted_now e len) (end_of rate l now len)) refl refl free

pub kept : (e : Estimate) (h : List Ended) → Represents e h → e ≡ estimate_of e.pace h
kept e h s = rw (← s.average, ← s.last) refl

pub ended : (p : Pace) (h : List Ended) (e : Ended) → after_end (estimate_of p h) e ≡ estimate_of p (e ∷ h)
ended p [] e = refl
ended p (b ∷ h) e = refl
