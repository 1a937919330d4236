-- When the least over all openings reaches a count: where each opening does, and where it is computed so.
use Rattle.std.proofs.Common.{◌≡◌, ◌≤◌, ℕ, Bool, true, false, List, [], ◌∷◌, refl, arith}
use Rattle.std.specs.Prelude.{nat_le, if◌then◌else◌, IsTrue, ◌↔◌, Option, None, Some}
use Rattle.service_curve.specs.declared.Curve.{Curve}
use Rattle.runtime_curve.specs.declared.Opening.{Opening}
use Rattle.runtime_curve.specs.Opening.{line, least_of, least_over, IsAtLeast, Reaches}
use Rattle.runtime_curve.specs.Deadline.{deadline, reaches}

-- a least of one and more reaches what all of them reach
both_reach : (x n : ℕ) (o : Option ℕ) → n ≤ x → IsAtLeast o n → IsAtLeast (least_of x o) n
both_reach x n None h r = h
both_reach x n (Some y) h r = omega arith

each_reaches : (x n : ℕ) (o : Option ℕ) → IsAtLeast (least_of x o) n → (n ≤ x) × IsAtLeast o n
each_reaches x n None r = (r, tt)
each_reaches x n (Some y) r = (omega arith, omega arith)

pub least_reaches : (s : Curve) (os : List Opening) (t count : ℕ) → Reaches s os t count → IsAtLeast (least_over s os t) count
least_reaches s [] t count r = tt
least_reaches s (o ∷ os) t count r = both_reach (line s t o) count (least_over s os t) r.0 (least_reaches s os t count r.1)

pub least_reached : (s : Curve) (os : List Opening) (t count : ℕ) → IsAtLeast (least_over s os t) count → Reaches s os t count
least_reached s [] t count r = tt
least_reached s (o ∷ os) t count r =
    let both = each_reaches (line s t o) count (least_over s os t) r in
    (both.0, least_reached s os t count both.1)

pub least_is_for_each : (s : Curve) (os : List Opening) (t count : ℕ) → IsAtLeast (least_over s os t) count ↔ Reaches s os t count
least_is_for_each s os t count = (least_reached s os t count, least_reaches s os t count)

-- the computed truth
pub reaches_true : (s : Curve) (os : List Opening) (t count : ℕ) → reaches s os t count ≡ true → Reaches s os t count
reaches_true s [] t count = λ e. tt
reaches_true s (o ∷ os) t count = go (nat_le count (line s t o)) refl (reaches_true s os t count)
  where
    go : (b : Bool) → nat_le count (line s t o) ≡ b → (reaches s os t count ≡ true → Reaches s os t count)
        → (if b then reaches s os t count else false) ≡ true → (count ≤ line s t o) × Reaches s os t count
    go true f rest e = (grind (arith, f), rest e)
    go false f rest e = absurd cc

pub true_reaches : (s : Curve) (os : List Opening) (t count : ℕ) → Reaches s os t count → reaches s os t count ≡ true
true_reaches s [] t count r = refl
true_reaches s (o ∷ os) t count r = go (nat_le count (line s t o)) refl (true_reaches s os t count r.1)
  where
    go : (b : Bool) → nat_le count (line s t o) ≡ b → reaches s os t count ≡ true → (if b then reaches s os t count else false) ≡ true
    go true f rest = rest
    go false f rest = absurd (grind (arith, f, r.0))

-- computed over the openings of a running curve, it is what the least over them says
pub reaches_least : (s : Curve) (os : List Opening) (t count : ℕ) → IsTrue (reaches s os t count) ↔ IsAtLeast (least_over s os t) count
reaches_least s os t count =
    (λ e. least_reaches s os t count (reaches_true s os t count e), λ r. true_reaches s os t count (least_reached s os t count r))

-- openings that had a count already allow it at every moment
pub counted : (s : Curve) (one other : Opening) (count : ℕ) → nat_le count one.count ≡ true → nat_le count other.count ≡ true → deadline s (one ∷ other ∷ []) count ≡ Some 0
counted s one other count e f = rw e (rw f refl)
