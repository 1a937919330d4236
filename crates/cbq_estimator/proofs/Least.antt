-- The least start as a number.
use Rattle.std.proofs.Common.{◌≡◌, ◌≤◌, ◌<◌, ◌+◌, ◌-◌, ℕ, Bool, true, false, refl, sym, subst, max, arith}
use Rattle.std.specs.Prelude.{pos, int_lt, nat_eq, nat_le, if◌then◌else◌, List, IsTrue}
use Rattle.std.proofs.lemmas.Bool.Decides.{nat_tests}
use Rattle.play_base.specs.Units.{time_of}
use Rattle.altq_model.specs.Link.{Link, end_of}
use Rattle.cbq_estimator.specs.Average.{Pace, Ended, average}
use Rattle.cbq_estimator.specs.Starts.{wanted, allows, allows_start, least_start, EndsItsRun, IsLeastStart}
use Rattle.cbq_estimator.proofs.LinkEnds.{near}
use Rattle.cbq_estimator.proofs.Starting.{allowed_ahead, allowed_late, refused_early, was_late}

-- before the moment after t a packet ends too early
before_next : (rate : ℕ) (l : Link) (now len u want : ℕ) (same : Bool) → nat_eq u (max now (want - time_of len rate)) ≡ same
    → end_of rate l u len ≤ u + time_of len rate → end_of rate l (max now (want - time_of len rate)) len < want → now ≤ u
    → u < max now (want - time_of len rate) + 1 → end_of rate l u len < want
before_next rate l now len u want true e most short from below =
    let equal : u ≡ max now (want - time_of len rate) = grind (arith, nat_tests) in
    let P : ℕ → Type 0 = λ x. end_of rate l x len < want in
    subst P (sym equal) short
before_next rate l now len u want false e most short from below =
    let less : u < max now (want - time_of len rate) = grind (arith, nat_tests) in
    omega arith

told_by : (p : Pace) (h : List Ended) (rate : ℕ) (l : Link) (now len : ℕ) (ahead late : Bool) → 0 < rate → EndsItsRun rate l
    → int_lt (pos 0) (average p h) ≡ ahead
    → nat_le (wanted p h len) (end_of rate l (max now (wanted p h len - time_of len rate)) len) ≡ late
    → IsLeastStart p h rate l now len (if ahead then now
    else if late then max now (wanted p h len - time_of len rate) else max now (wanted p h len - time_of len rate) + 1)
told_by p h rate l now len true late pos_rate ends above e = record {
  from = omega arith;
  allowed = allowed_ahead p h (end_of rate l now len) len above;
  least = λ u from below. absurd (omega arith);
}
told_by p h rate l now len false true pos_rate ends low e =
    let t : ℕ = max now (wanted p h len - time_of len rate) in
    let late : wanted p h len ≤ end_of rate l t len = grind (arith, nat_tests) in
    record {
      from = omega arith;
      allowed = allowed_late p h (end_of rate l t len) len late;
      least = λ u from below.
          let at = (near rate l u len pos_rate ends).most in
          refused_early p h (end_of rate l u len) len low (omega arith);
    }
told_by p h rate l now len false false pos_rate ends low e =
    let t : ℕ = max now (wanted p h len - time_of len rate) in
    let short : end_of rate l t len < wanted p h len = grind (arith, nat_tests) in
    let next = (near rate l (t + 1) len pos_rate ends).least in
    record {
      from = omega arith;
      allowed = allowed_late p h (end_of rate l (t + 1) len) len (omega arith);
      least = λ u from below. refused_early p h (end_of rate l u len) len low
          (before_next rate l now len u (wanted p h len) (nat_eq u t) refl (near rate l u len pos_rate ends).most short from below);
    }

pub told : (p : Pace) (h : List Ended) (rate : ℕ) (l : Link) (now len : ℕ) → 0 < rate → EndsItsRun rate l
    → IsLeastStart p h rate l now len (least_start p h rate l now len)
told p h rate l now len pos_rate ends = told_by p h rate l now len (int_lt (pos 0) (average p h))
    (nat_le (wanted p h len) (end_of rate l (max now (wanted p h len - time_of len rate)) len)) pos_rate ends refl refl

stays_by : (p : Pace) (h : List Ended) (end later len : ℕ) (above : Bool) → int_lt (pos 0) (average p h) ≡ above → end ≤ later
    → allows p h end len ≡ true → allows p h later len ≡ true
stays_by p h end later len true above le was = allowed_ahead p h later len above
stays_by p h end later len false low le was =
    allowed_late p h later len (omega (arith, was_late p h end len low was))

ends_rise : (rate : ℕ) (l : Link) (len t u : ℕ) (same : Bool) → nat_eq t u ≡ same → 0 < rate → EndsItsRun rate l → t ≤ u
    → end_of rate l t len ≤ end_of rate l u len
ends_rise rate l len t u true e p ends le =
    let equal : u ≡ t = grind (arith, nat_tests) in
    let P : ℕ → Type 0 = λ x. end_of rate l t len ≤ end_of rate l x len in
    subst P (sym equal) (omega arith)
ends_rise rate l len t u false e p ends le =
    let less : t < u = grind (arith, nat_tests) in
    let one = (near rate l t len p ends).most in
    let two = (near rate l u len p ends).least in
    omega arith

pub stays : (p : Pace) (h : List Ended) (rate : ℕ) (l : Link) (len t u : ℕ) → 0 < rate → EndsItsRun rate l → t ≤ u
    → IsTrue (allows_start p h rate l t len) → IsTrue (allows_start p h rate l u len)
stays p h rate l len t u pos_rate ends le was =
    stays_by p h (end_of rate l t len) (end_of rate l u len) len (int_lt (pos 0) (average p h)) refl
    (ends_rise rate l len t u (nat_eq t u) refl pos_rate ends le) was
