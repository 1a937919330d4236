-- The curves of an interface that keeps to the ranges of a configuration.
use Rattle.std.proofs.Common.{◌≡◌, ◌≤◌, ℕ, zero, suc, List, [], ◌∷◌, length, Option, None, Some, refl, sym, subst, arith}
use Rattle.std.specs.Prelude.{All, slice_get}
use Rattle.service_curve.specs.declared.Curve.{Curve}
use Rattle.service_curve.specs.Curve.{IsInRange}
use Rattle.conf_tree.specs.declared.class.Class.{Class}
use Rattle.conf_tree.specs.declared.interface.Interface.{Interface}
use Rattle.conf_tree.specs.declared.interface.Kind.{Kind}
use Rattle.conf_tree.specs.declared.interface.Kind.TheVariants.{Hfsc, Cbq}
use Rattle.conf_laws.specs.Fit.{IsCurve, IsCurveIfAny, IsInterface, IsOfKind}
use Rattle.admission.specs.Fit.{Fits}
use Rattle.link_fit.specs.Curves.{real_curves, curves_of, HasCurves}

-- a curve that can be summed, where there is one
abbrev IsSound : Option Curve → Type 0
IsSound None = Unit {0}
IsSound (Some s) = IsInRange s

in_range : (s : Curve) → IsCurve 0 0 s → IsInRange s
in_range s h =
    let first = h.first.1 in
    let second = h.second.1 in
    let most = h.bend.1 in
    let bend = h.bend.2 in
    record { first = omega (arith, first); bend = omega (arith, most, bend); second = omega (arith, second) }

sound_if : (o : Option Curve) → IsCurveIfAny 0 0 o → IsSound o
sound_if None h = tt
sound_if (Some s) h = in_range s h

sound_of : (kind : Kind) (c : Class) → IsOfKind kind c → IsSound c.real
sound_of Hfsc c h = sound_if c.real h.real
sound_of Cbq c h = subst IsSound (sym h.real) tt

abbrev with_curve : Option Curve → List Curve → List Curve
with_curve o ss = elim o [ None ↦ ss | Some s ↦ s ∷ ss ]

all_cons : (s : Curve) (ss : List Curve) → IsInRange s → All IsInRange ss → All IsInRange (s ∷ ss)
all_cons s ss h all zero d l = h
all_cons s ss h all (suc k) d l = all k d (omega (arith, l))

all_with : (o : Option Curve) (ss : List Curve) → IsSound o → All IsInRange ss → All IsInRange (with_curve o ss)
all_with None ss h all = all
all_with (Some s) ss h all = all_cons s ss h all

count_with : (o : Option Curve) (ss : List Curve) (n : ℕ) → length ss ≤ n → length (with_curve o ss) ≤ suc n
count_with None ss n h = omega (arith, h)
count_with (Some s) ss n h = omega (arith, h)

all_in_range : (cs : List Class) → ((k : ℕ) (c : Class) → slice_get cs k ≡ Some c → IsSound c.real) → All IsInRange (real_curves cs)
all_in_range [] h = λ k d l. absurd (omega (arith, l))
all_in_range (c ∷ cs) h = all_with c.real (real_curves cs) (h 0 c refl) (all_in_range cs (λ k d e. h (suc k) d e))

few : (cs : List Class) → length (real_curves cs) ≤ length cs
few [] = omega arith
few (c ∷ cs) = count_with c.real (real_curves cs) (length cs) (few cs)

pub has_curves : (i : Interface) → IsInterface i → HasCurves i
has_curves i h =
    let fewer = few i.classes in
    let most = h.classes in
    let rate = h.rate.1 in
    record {
      curves = record { count = omega (arith, fewer, most); each = all_in_range i.classes (λ k c e. sound_of i.kind c (h.tree.class k c e).own) };
      rate = omega (arith, rate);
    }

-- no class by rates has a real-time curve
none_of : (o : Option Curve) (ss : List Curve) → o ≡ None → ss ≡ [] → with_curve o ss ≡ []
none_of None ss e h = h
none_of (Some s) ss e h = cc

none_real : (cs : List Class) → ((k : ℕ) (c : Class) → slice_get cs k ≡ Some c → c.real ≡ None) → real_curves cs ≡ []
none_real [] h = refl
none_real (c ∷ cs) h = none_of c.real (real_curves cs) (h 0 c refl) (none_real cs (λ k d e. h (suc k) d e))

by_kind : (kind : Kind) (c : Class) → kind ≡ Cbq → IsOfKind kind c → c.real ≡ None
by_kind Hfsc c e h = cc
by_kind Cbq c e h = h.real

pub rates_fit : (i : Interface) → IsInterface i → i.kind ≡ Cbq → Fits i.rate (curves_of i)
rates_fit i h e =
    let P : List Curve → Type 0 = λ ss. Fits i.rate ss in
    subst P (sym (none_real i.classes (λ k c is. by_kind i.kind c e (h.tree.class k c is).own))) (λ t. omega arith)
