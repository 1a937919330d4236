-- Real-time curves of an interface, and the bound that they are held to.
use Rattle.std.proofs.Common.{◌≡◌, ◌≤◌, ◌⊎◌, inl, inr, ℕ, zero, suc, Bool, true, false, List, [], ◌∷◌, get_or, map, cond, Option, None, Some, refl, ap, subst, arith}
use Rattle.std.specs.Prelude.{slice_get}
use Rattle.admission.specs.declared.Fit.{Fit}
use Rattle.admission.specs.declared.Fit.TheVariants as fit
use Rattle.conf_laws.specs.Fit.{IsCurve, IsCurveIfAny, IsInterface, IsOfKind}
use Rattle.conf_tree.specs.declared.class.Class.{Class}
use Rattle.conf_tree.specs.declared.interface.Interface.{Interface}
use Rattle.conf_tree.specs.declared.interface.Kind.{Kind}
use Rattle.conf_tree.specs.declared.interface.Kind.TheVariants.{Hfsc, Cbq}
use Rattle.fate_check.specs.declared.reading.Row.{Row}
use Rattle.fate_judge.specs.Walk.{EachRow, FirstFails}
use Rattle.fate_timely.specs.Dues.{AreRealTime, IsRealTime}
use Rattle.fate_timely.specs.Timely.{EndsInTime, ForCurve}
use Rattle.hfsc_model.specs.RealTime.{is_zero, unless_zero}
use Rattle.link_fit.specs.Curves.{IsFitOf}
use Rattle.runtime_curve.specs.Opening.{RisesFromZero}
use Rattle.service_curve.specs.declared.Curve.{Curve}
use Rattle.file_judge.specs.Given.{curve_in, curves_in, longest_time}
use Rattle.file_judge.specs.Verdict.{EndsByDue, FitTheLink, IsMost}

rises : (s : Curve) → (s.m1 ≡ 0) ⊎ (s.m2 ≤ s.m1) → RisesFromZero s
rises s (inl e) = λ l. e
rises s (inr e) = λ l. absurd (omega (arith, e, l))

real_time : (s : Curve) → IsCurve 0 0 s → IsRealTime s
real_time s h =
    let first = h.first.1 in
    let second = h.second.1 in
    let most = h.bend.1 in
    let bend = h.bend.2 in
    record { range = record { first = omega (arith, first); bend = omega (arith, most, bend); second = omega (arith, second) }; rises = rises s h.upward }

unless : (b : Bool) (s : Curve) → IsCurve 0 0 s → ForCurve (cond b None (Some s)) IsRealTime
unless true s h = tt
unless false s h = real_time s h

if_any : (o : Option Curve) → IsCurveIfAny 0 0 o → ForCurve (unless_zero o) IsRealTime
if_any None h = tt
if_any (Some s) h = unless (is_zero s) s h

real_at : (classes : List Class) → ((k : ℕ) (c : Class) → slice_get classes k ≡ Some c → IsCurveIfAny 0 0 c.real) → (class : ℕ)
    → ForCurve (get_or (map curve_in classes) class None) IsRealTime
real_at [] h class = tt
real_at (c ∷ classes) h zero = if_any c.real (h 0 c refl)
real_at (c ∷ classes) h (suc n) = real_at classes (λ k x e. h (suc k) x e) n

of_kind : (kind : Kind) (c : Class) → IsOfKind kind c → IsCurveIfAny 0 0 c.real
of_kind Hfsc c h = h.real
of_kind Cbq c h = let P : Option Curve → Type 0 = λ o. IsCurveIfAny 0 0 o in rw h.real tt

pub are_real_time : (i : Interface) → IsInterface i → AreRealTime (curves_in i)
are_real_time i h = real_at i.classes (λ k c at. of_kind i.kind c (h.tree.class k c at).own)

pub same_real_time : (curves : List (Option Curve)) (i : Interface) → curves ≡ curves_in i → IsInterface i → AreRealTime curves
same_real_time curves i is h = rw is (are_real_time i h)

-- the bound
pub most_fits : (i : Interface) (rows : List Row) (f : Fit) (t : ℕ) → IsFitOf i f → f ≡ fit.Fits → t ≡ longest_time i.rate rows → IsMost i rows (Some t)
most_fits i rows f t h is e = record { fits = λ _. ap Some e; only = λ m x. (h.fits.0 is, (let same : t ≡ m = cc in cc)) }

pub most_exceeds : (i : Interface) (rows : List Row) (f : Fit) (at by : ℕ) → IsFitOf i f → f ≡ fit.Exceeds at by → IsMost i rows None
most_exceeds i rows f at by h is = record { fits = λ x. absurd (let e : f ≡ fit.Fits = h.fits.1 x in cc); only = λ m e. absurd cc }

pub due_passed : (i : Interface) (rows : List Row) (curves : List (Option Curve)) (most : Option ℕ) → curves ≡ curves_in i → IsMost i rows most
    → ((m : ℕ) → most ≡ Some m → EachRow (EndsInTime curves m) [] rows) → FitTheLink i → EachRow (EndsByDue i rows) [] rows
due_passed i rows curves most is h timely fits =
    let P : List (Option Curve) → Type 0 = λ cs. EachRow (EndsInTime cs (longest_time i.rate rows)) [] rows in
    subst P is (timely (longest_time i.rate rows) (h.fits fits))

pub due_fails : (i : Interface) (rows : List Row) (curves : List (Option Curve)) (most : Option ℕ) (row : ℕ) → curves ≡ curves_in i → IsMost i rows most
    → (m : ℕ) × (most ≡ Some m) × FirstFails (EndsInTime curves m) rows row → FitTheLink i × FirstFails (EndsByDue i rows) rows row
due_fails i rows curves most row is h x =
    let o = h.only x.0 x.1 in
    let M : ℕ → Type 0 = λ m. FirstFails (EndsInTime curves m) rows row in
    let P : List (Option Curve) → Type 0 = λ cs. FirstFails (EndsInTime cs (longest_time i.rate rows)) rows row in
    (o.0, subst P is (subst M o.1 x.2))
