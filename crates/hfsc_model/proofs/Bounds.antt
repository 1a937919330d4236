-- The due moment of a packet that is alone, and its end.
use Rattle.std.proofs.Common.{◌≡◌, ◌≤◌, ◌∷◌, ℕ, zero, suc, [], Some, refl, arith, subst}
use Rattle.std.proofs.Math.Nat.{min-zero}
use Rattle.service_curve.specs.declared.Curve.{Curve}
use Rattle.hfsc_model.specs.Timely.{AreTimely, IsDue, IsTimely, Row}
use Rattle.hfsc_model.specs.TimelyRows.{curves_of_one, link_rate, sent_from}

abbrev line_of_link : Curve
line_of_link = record { m1 = link_rate; d = 0; m2 = link_rate }

abbrev row_to : (start end : ℕ) → Row
row_to start end = record { at = 0; len = 1000; start = start; end = end }

due_from : (start end u : ℕ) → IsDue line_of_link (row_to start end ∷ []) u → 1000000 ≤ u
due_from start end u due = omega (arith, due.0, min-zero u)

due_then : (start end : ℕ) → IsDue line_of_link (row_to start end ∷ []) 1000000
due_then start end = (omega (arith), tt)

at_bound : AreTimely line_of_link 1000000 (row_to 1000000 2000000 ∷ [])
at_bound = ((λ u due. omega (arith, due_from 1000000 2000000 u due)), tt)

pub is_timely : IsTimely link_rate curves_of_one (sent_from 1000000)
is_timely zero s there = absurd cc
is_timely (suc zero) s there =
    let same : Some line_of_link ≡ Some s = there in
    let equal : line_of_link ≡ s = cc in
    let P : Curve → Type 0 = λ t. AreTimely t 1000000 (row_to 1000000 2000000 ∷ []) in
    subst P equal at_bound
is_timely (suc (suc c)) s there = absurd cc

pub is_late : IsTimely link_rate curves_of_one (sent_from 1000001) → ⊥
is_late timely =
    let all : AreTimely line_of_link 1000000 (row_to 1000001 2000001 ∷ []) = timely 1 line_of_link refl in
    omega (arith, all.0 1000000 (due_then 1000001 2000001))
