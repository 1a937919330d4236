-- The lines of classes, one after another; and curves are in their ranges.
use Rattle.std.proofs.Common.{◌≡◌, ◌+◌, ◌∙◌, ◌++◌, ℕ, zero, suc, Bool, true, false, List, [], ◌∷◌, Option, None, Some, ap, sym, subst, arith, append_assoc, drop}
use Rattle.std.specs.Prelude.{slice_get}
use Rattle.conf_laws.specs.Fit.{IsCurve, IsCurveIfAny, IsInterface, IsOfKind}
use Rattle.conf_tree.specs.declared.class.Class.{Class}
use Rattle.conf_tree.specs.declared.interface.Interface.{Interface}
use Rattle.conf_tree.specs.declared.interface.Kind.{Kind}
use Rattle.conf_tree.specs.declared.interface.Kind.TheVariants.{Hfsc, Cbq}
use Rattle.conf_tree.specs.Family.{is_leaf}
use Rattle.service_curve.specs.Curve.{IsInRange}
use Rattle.service_curve.specs.declared.Curve.{Curve}
use Rattle.bound_command.specs.Lines.{Burst, bound_line, bound_of, if_leaf, lines_from}

-- the line of a class
abbrev pub line_in : (fits : Bool) → Interface → Burst → Class → List ℕ
line_in fits i b c = bound_line c.name (bound_of fits c.real i.rate b)

pub lines_next : (line : Class → List ℕ) (all : List Class) (m n : ℕ) (cs : List Class) (c : Class) → slice_get cs n ≡ Some c
    → lines_from line all m (drop n cs) ≡ if_leaf (is_leaf all m) (line c) ++ lines_from line all (m + 1) (drop (suc n) cs)
lines_next line all m n [] c e = cc
lines_next line all m zero (x ∷ cs) c e =
    let s : x ≡ c = cc in ap (λ (y : Class). if_leaf (is_leaf all m) (line y) ++ lines_from line all (m + 1) cs) s
lines_next line all m (suc n) (x ∷ cs) c e = lines_next line all m n cs c e

-- of a leaf the line is there, of another class none is
pub line_there : (text line rest all : List ℕ) (leaf : Bool) → leaf ≡ true → text ++ (if_leaf leaf line ++ rest) ≡ all → (text ++ line) ++ rest ≡ all
line_there text line rest all true e h = append_assoc text line rest ∙ h
line_there text line rest all false e h = cc

pub no_line : (text line rest all : List ℕ) (leaf : Bool) → leaf ≡ false → text ++ (if_leaf leaf line ++ rest) ≡ all → text ++ rest ≡ all
no_line text line rest all true e h = cc
no_line text line rest all false e h = h

in_range : (s : Curve) → IsCurve 0 0 s → IsInRange s
in_range s h =
    let first = h.first.1 in
    let second = h.second.1 in
    let most = h.bend.1 in
    let bend = h.bend.2 in
    record { first = omega (arith, first); bend = omega (arith, most, bend); second = omega (arith, second) }

real_in_range : (kind : Kind) (c : Class) (s : Curve) → IsOfKind kind c → c.real ≡ Some s → IsInRange s
real_in_range Hfsc c s h e = let P : Option Curve → Type 0 = λ o. IsCurveIfAny 0 0 o in in_range s (subst P e h.real)
real_in_range Cbq c s h e = absurd (none_some s (sym h.real ∙ e))
  where
    none_some : (s : Curve) → None ≡ Some s → ⊥
    none_some s h = cc

pub reals_in_range : (i : Interface) → IsInterface i → (k : ℕ) (c : Class) (s : Curve) → slice_get i.classes k ≡ Some c → c.real ≡ Some s → IsInRange s
reals_in_range i h k c s at e = real_in_range i.kind c s (h.tree.class k c at).own e
