-- The real-time curves that HFSC sees of an interface give what those of its classes give.
use Rattle.std.proofs.Common.{◌≡◌, ◌≤◌, ◌+◌, ◌*◌, ◌∙◌, ℕ, List, [], ◌∷◌, Option, None, Some, refl, ap, sym, subst, arith}
use Rattle.std.specs.Prelude.{sum_by}
use Rattle.std.proofs.lemmas.List.Sums.{sum_by-cons}
use Rattle.service_curve.specs.declared.Curve.{Curve}
use Rattle.service_curve.specs.Curve.{amount}
use Rattle.conf_tree.specs.declared.class.Class.{Class}
use Rattle.conf_tree.specs.declared.interface.Interface.{Interface}
use Rattle.admission.specs.Fit.{Fits, total}
use Rattle.link_fit.specs.Curves.{curves_of, real_curves}
use Rattle.hfsc_model.specs.Timely.{FitLink, amount_of}
use Rattle.hfsc_model.specs.Tree.{reals}
use Rattle.interface_policy.specs.Classes.{hfsc_classes}

total_with : (o : Option Curve) (ss : List Curve) (t : ℕ) → total (elim o [ None ↦ ss | Some s ↦ s ∷ ss ]) t ≡ amount_of o t + total ss t
total_with None ss t = omega arith
total_with (Some s) ss t = sum_by-cons (λ (x : Curve). amount x t) s ss

sums : (cs : List Class) (t : ℕ) → sum_by (λ o. amount_of o t) (reals (hfsc_classes cs)) ≡ total (real_curves cs) t
sums [] t = refl
sums (c ∷ cs) t =
    sum_by-cons (λ (o : Option Curve). amount_of o t) c.real (reals (hfsc_classes cs))
    ∙ ap (λ (n : ℕ). amount_of c.real t + n) (sums cs t)
    ∙ sym (total_with c.real (real_curves cs) t)

-- so where the ones fit the link, the others do
pub fit_link : (i : Interface) → Fits i.rate (curves_of i) → FitLink i.rate (reals (hfsc_classes i.classes))
fit_link i fits = λ t. subst (λ (n : ℕ). n ≤ i.rate * t) (sym (sums i.classes t)) (fits t)
