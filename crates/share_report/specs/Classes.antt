-- The classes that are watched, in numbers.
use Rattle.std.specs.Prelude.{◌+◌, ℕ, List, [], ◌∷◌, None, Some}
use Rattle.std.specs.declared.option.Option.{Option}
use Rattle.service_curve.specs.declared.Curve.{Curve}
use Rattle.hfsc_model.specs.declared.HfscClass.{HfscClass}

-- a parent, and a curve, each before other numbers
abbrev pub with_parent : Option ℕ → List ℕ → List ℕ
with_parent None rest = 0 ∷ rest
with_parent (Some p) rest = (p + 1) ∷ rest

abbrev pub with_curve : Option Curve → List ℕ → List ℕ
with_curve None rest = 0 ∷ rest
with_curve (Some c) rest = 1 ∷ c.m1 ∷ c.d ∷ c.m2 ∷ rest

-- different classes have different numbers
abbrev pub class_numbers : List HfscClass → List ℕ
class_numbers [] = []
class_numbers (c ∷ cs) = with_parent c.parent (with_curve c.real (with_curve c.share (with_curve c.limit (class_numbers cs))))
