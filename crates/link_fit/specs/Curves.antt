-- The real-time curves of an interface, after Stoica, Zhang and Ng, SIGCOMM 1997. A class with children has none, and so has a class
-- of CBQ.
use Rattle.std.specs.Prelude.{◌≡◌, ◌≤◌, ◌^◌, ◌↔◌, List, [], ◌∷◌, None, Some}
use Rattle.service_curve.specs.declared.Curve.{Curve}
use Rattle.conf_tree.specs.declared.class.Class.{Class}
use Rattle.conf_tree.specs.declared.interface.Interface.{Interface}
use Rattle.admission.specs.declared.Fit.{Fit}
use Rattle.admission.specs.declared.Fit.TheVariants as fit
use Rattle.admission.specs.Answer.{IfExceeds}
use Rattle.admission.specs.Bends.{AreInRange}
use Rattle.admission.specs.Fit.{Fits, IsExcess}

abbrev pub real_curves : List Class → List Curve
real_curves [] = []
real_curves (c ∷ cs) = elim c.real [ None ↦ real_curves cs | Some s ↦ s ∷ real_curves cs ]

abbrev pub curves_of : Interface → List Curve
curves_of i = real_curves i.classes

-- curves and a rate that can be summed
pub record HasCurves (i : Interface) : Type 0 where
  pub curves : AreInRange (curves_of i)
  pub rate : i.rate ≤ 10 ^ 12

-- whether they fit the link of the interface, and if not, where they exceed it and by how much
pub record IsFitOf (i : Interface) (f : Fit) : Type 0 where
  pub fits : (f ≡ fit.Fits) ↔ Fits i.rate (curves_of i)
  pub exceeds : IfExceeds f (IsExcess i.rate (curves_of i))
