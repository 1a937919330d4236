-- Numbers within their ranges, and the curves that three of them make, are read as they are.
use Rattle.std.proofs.Common.{◌≡◌, ◌⊎◌, ℕ, ◌*◌, ◌/◌, ◌^◌, ◌≤◌, false, Some, refl, arith}
use Rattle.std.proofs.lemmas.Bool.Decides.{nat_tests}
use Rattle.service_curve.specs.declared.Curve.{Curve}
use Rattle.service_curve.specs.Curve.{curve}
use Rattle.conf_lines.specs.Grammar.{is_convex}
use Rattle.conf_lines.specs.Options.{most_rate}
use Rattle.conf_tree.specs.Items.{within}
use Rattle.conf_tree.specs.Settings.{made, curve_of}
use Rattle.conf_laws.specs.Fit.{IsBetween, IsCurve}

pub within_is : (low high n : ℕ) → IsBetween low high n → within low high (Some n) ≡ Some n
within_is low high n h = grind (arith, nat_tests)

pub not_upward : (m1 d m2 : ℕ) → (m1 ≡ 0) ⊎ (m2 ≤ m1) → is_convex m1 d m2 ≡ false
not_upward m1 d m2 h = grind (arith, nat_tests)

made_is : (m1 d m2 : ℕ) → (d ≡ 0 → m1 ≡ m2) → (m1 ≡ m2 → d ≡ 0) → made m1 d m2 ≡ curve m1 d m2
made_is m1 d m2 one two = grind (arith, nat_tests)

pub curve_is : (low least : ℕ) (s : Curve) → IsCurve low least s
    → curve_of (within low most_rate (Some s.m1)) (within 0 1000000 (Some (s.d / 10 ^ 6))) (within least most_rate (Some s.m2)) ≡ Some s
curve_is low least s h =
    let (milliseconds, few, bend) = h.bend in
    let whole : s.d / 10 ^ 6 * 10 ^ 6 ≡ s.d = omega arith in
    rw (
      within_is low most_rate s.m1 h.first,
      within_is 0 1000000 (s.d / 10 ^ 6) (omega arith),
      within_is least most_rate s.m2 h.second,
      not_upward s.m1 (s.d / 10 ^ 6) s.m2 h.upward,
      whole,
      made_is s.m1 s.d s.m2 h.one_slope h.two_slopes,
    ) refl
