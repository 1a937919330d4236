-- Classes of the same numbers are the same.
use Rattle.std.proofs.Common.{◌≡◌, ℕ, List, [], ◌∷◌, None, Some, refl, ap, sym, arith}
use Rattle.std.specs.declared.option.Option.{Option}
use Rattle.service_curve.specs.declared.Curve.{Curve}
use Rattle.hfsc_model.specs.declared.HfscClass.{HfscClass}
use Rattle.share_report.specs.Classes.{class_numbers, with_curve, with_parent}

abbrev front : List ℕ → ℕ
front [] = 0
front (x ∷ xs) = x

abbrev behind : List ℕ → List ℕ
behind [] = []
behind (x ∷ xs) = xs

same_front : {x y : ℕ} {xs ys : List ℕ} → x ∷ xs ≡ y ∷ ys → x ≡ y
same_front e = ap front e

same_behind : {x y : ℕ} {xs ys : List ℕ} → x ∷ xs ≡ y ∷ ys → xs ≡ ys
same_behind e = ap behind e

same_parent : (a b : Option ℕ) (xs ys : List ℕ) → with_parent a xs ≡ with_parent b ys → (a ≡ b) × (xs ≡ ys)
same_parent None None xs ys e = (refl, same_behind e)
same_parent None (Some q) xs ys e = absurd (let f = same_front e in omega (arith, f))
same_parent (Some p) None xs ys e = absurd (let f = same_front e in omega (arith, f))
same_parent (Some p) (Some q) xs ys e = let f = same_front e in (ap (λ (k : ℕ). Some k) (omega (arith, f)), same_behind e)

same_curve : (a b : Option Curve) (xs ys : List ℕ) → with_curve a xs ≡ with_curve b ys → (a ≡ b) × (xs ≡ ys)
same_curve None None xs ys e = (refl, same_behind e)
same_curve None (Some d) xs ys e = absurd (let f = same_front e in omega (arith, f))
same_curve (Some c) None xs ys e = absurd (let f = same_front e in omega (arith, f))
same_curve (Some c) (Some d) xs ys e =
    let f = same_behind e in
    let g = same_behind f in
    let h = same_behind g in
    let k = same_front f in
    let l = same_front g in
    let m = same_front h in
    ((λ i. Some (record { m1 = k i; d = l i; m2 = m i })), same_behind h)

-- numbers of some classes are some
some_parent : (a : Option ℕ) (xs : List ℕ) → [] ≡ with_parent a xs → ⊥
some_parent None xs e = cc
some_parent (Some p) xs e = cc

nothing_more : (d : HfscClass) (ds : List HfscClass) → [] ≡ class_numbers (d ∷ ds) → ⊥
nothing_more d ds e = some_parent d.parent _ e

pub same_classes : (cs ds : List HfscClass) → class_numbers cs ≡ class_numbers ds → cs ≡ ds
same_classes [] [] e = refl
same_classes [] (d ∷ ds) e = absurd (nothing_more d ds e)
same_classes (c ∷ cs) [] e = absurd (nothing_more c cs (sym e))
same_classes (c ∷ cs) (d ∷ ds) e =
    let p = same_parent c.parent d.parent _ _ e in
    let r = same_curve c.real d.real _ _ p.1 in
    let s = same_curve c.share d.share _ _ r.1 in
    let l = same_curve c.limit d.limit _ _ s.1 in
    let rest = same_classes cs ds l.1 in
    λ i. record { parent = p.0 i; real = r.0 i; share = s.0 i; limit = l.0 i } ∷ rest i
