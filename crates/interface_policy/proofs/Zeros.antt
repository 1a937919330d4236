-- A curve that counts as none is 0 at every time.
use Rattle.std.proofs.Common.{◌≡◌, ◌≤◌, ◌<◌, ◌+◌, ◌-◌, ◌*◌, ◌⊎◌, inl, inr, ℕ, true, min, Option, None, Some, ap, arith, subst}
use Rattle.std.specs.Prelude.{◌↔◌, slice_get}
use Rattle.std.proofs.lemmas.Bool.{cases_lt}
use Rattle.std.proofs.lemmas.Bool.Decides.{nat_tests}
use Rattle.service_curve.specs.declared.Curve.{Curve}
use Rattle.service_curve.proofs.Amounts.{amount_after, mul_mono}
use Rattle.hfsc_model.specs.RealTime.{is_zero}
use Rattle.conf_tree.specs.declared.class.Class.{Class}
use Rattle.conf_tree.specs.declared.interface.Interface.{Interface}
use Rattle.conf_tree.specs.declared.interface.Kind.{Kind}
use Rattle.conf_tree.specs.declared.interface.Kind.TheVariants.{Hfsc, Cbq}
use Rattle.conf_laws.specs.Fit.{IsCurveIfAny, IsInterface, IsOfKind}
use Rattle.interface_policy.specs.Laws.{GivesNothing}

first_none : (s : Curve) → is_zero s ≡ true → s.m1 ≡ 0
first_none s e = grind (arith, nat_tests, e)

second_none : (s : Curve) → is_zero s ≡ true → s.m2 ≡ 0
second_none s e = grind (arith, nat_tests, e)

both_none : (s : Curve) → s.m1 ≡ 0 → s.m2 ≡ 0 → is_zero s ≡ true
both_none s e f = grind (arith, nat_tests, e, f)

gives_nothing : (s : Curve) → is_zero s ≡ true → GivesNothing s
gives_nothing s e t =
    let one = ap (λ n. n * min t s.d) (first_none s e) in
    let two = ap (λ n. n * (t - s.d)) (second_none s e) in
    omega arith

-- a nanosecond past the bend both slopes count, where there is a first piece
slopes_of : (s : Curve) → (s.d ≡ 0 → s.m1 ≡ s.m2) → GivesNothing s → (s.m1 ≡ 0) × (s.m2 ≡ 0)
slopes_of s flat none = go (cases_lt 0 s.d)
  where
    second : s.m1 * s.d + s.m2 ≡ 0
    second =
        let past = amount_after s (s.d + 1) (omega arith) in
        let one : (s.d + 1) - s.d ≡ 1 = omega arith in
        let two = ap (λ n. s.m2 * n) one in
        let all = none (s.d + 1) in
        omega arith

    go : (0 < s.d) ⊎ (s.d ≤ 0) → (s.m1 ≡ 0) × (s.m2 ≡ 0)
    go (inl some) = let first = mul_mono s.m1 1 s.d (omega (arith, some)) in (omega (arith, first, second), omega (arith, second))
    go (inr flat_from) = let same = flat (omega (arith, flat_from)) in (omega (arith, same, second), omega (arith, second))

pub told_by_amounts : (s : Curve) → (s.d ≡ 0 → s.m1 ≡ s.m2) → (is_zero s ≡ true) ↔ GivesNothing s
told_by_amounts s flat = (gives_nothing s, λ none. let both = slopes_of s flat none in both_none s both.0 both.1)

-- real-time curves of an interface are in that form
curve_is : (o : Option Curve) (s : Curve) → IsCurveIfAny 0 0 o → o ≡ Some s → s.d ≡ 0 → s.m1 ≡ s.m2
curve_is None s h e = absurd cc
curve_is (Some r) s h e = let same : r ≡ s = cc in subst (λ (x : Curve). x.d ≡ 0 → x.m1 ≡ x.m2) same h.one_slope

real_is : (kind : Kind) (c : Class) (s : Curve) → IsOfKind kind c → c.real ≡ Some s → s.d ≡ 0 → s.m1 ≡ s.m2
real_is Hfsc c s h e = curve_is c.real s h.real e
real_is Cbq c s h e = let none = h.real in absurd cc

pub zeros_give_nothing : (i : Interface) (k : ℕ) (c : Class) (s : Curve) → IsInterface i → slice_get i.classes k ≡ Some c → c.real ≡ Some s
    → (is_zero s ≡ true) ↔ GivesNothing s
zeros_give_nothing i k c s h at real = told_by_amounts s (real_is i.kind c s (h.tree.class k c at).own real)
