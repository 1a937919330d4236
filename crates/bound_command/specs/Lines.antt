-- What `bound` says of the leaves of an interface. Rates are bits per second, lengths and bursts bytes, bounds nanoseconds.
use Rattle.std.specs.Prelude.{◌≡◌, ◌+◌, ◌++◌, ◌==◌, ℕ, Bool, true, false, List, [], ◌∷◌, Option, None, Some, codes, decimal, if◌then◌else◌, option_map}
use Rattle.admission.specs.declared.Fit.{Fit}
use Rattle.admission.specs.declared.Fit.TheVariants as fit
use Rattle.bound_command.specs.declared.lines.Bound.{Bound}
use Rattle.conf_tree.specs.declared.class.Class.{Class}
use Rattle.conf_tree.specs.declared.interface.Interface.{Interface}
use Rattle.conf_tree.specs.declared.interface.Kind.{Kind}
use Rattle.conf_tree.specs.declared.interface.Kind.TheVariants.{Hfsc, Cbq}
use Rattle.conf_tree.specs.Family.{is_leaf}
use Rattle.delay_bound.specs.Bound.{bound}
use Rattle.link_fit.specs.Curves.{IsFitOf}
use Rattle.service_curve.specs.declared.Curve.{Curve}

-- the longest packet on the link, and a burst of a leaf
pub record Burst : Type 0 where
  pub longest : ℕ
  pub burst : ℕ

-- the bound of a curve on a link of a rate: none without a second slope
abbrev pub bound_by : Curve → (link_rate : ℕ) → Burst → Option Bound
bound_by s link_rate b =
    if s.m2 == 0 then None else option_map (λ n. record { rate = s.m2; bound = n }) (bound s link_rate b.longest b.burst)

-- of the real-time curve of a leaf, where the curves of its interface fit the link
abbrev pub bound_of : (fits : Bool) → Option Curve → (link_rate : ℕ) → Burst → Option Bound
bound_of false o link_rate b = None
bound_of true None link_rate b = None
bound_of true (Some s) link_rate b = bound_by s link_rate b

-- the line of a leaf: `NAME rate R bound N`, or `NAME none`
abbrev pub bound_line : (name : List ℕ) → Option Bound → List ℕ
bound_line name None = name ++ codes " none\n"
bound_line name (Some x) = name ++ (codes " rate " ++ (decimal x.rate ++ (codes " bound " ++ (decimal x.bound ++ codes "\n"))))

abbrev pub if_leaf : (leaf : Bool) → List ℕ → List ℕ
if_leaf true line = line
if_leaf false line = []

-- the lines of the leaves among these classes, of which the first has this number
abbrev pub lines_from : (line : Class → List ℕ) → (all : List Class) → (number : ℕ) → List Class → List ℕ
lines_from line all number [] = []
lines_from line all number (c ∷ cs) = if_leaf (is_leaf all number) (line c) ++ lines_from line all (number + 1) cs

abbrev pub bound_lines : (fits : Bool) → Interface → Burst → List ℕ
bound_lines fits i b = lines_from (λ c. bound_line c.name (bound_of fits c.real i.rate b)) i.classes 0 i.classes

abbrev pub is_fit : Fit → Bool
is_fit fit.Fits = true
is_fit (fit.Exceeds at by) = false

-- those of the leaves of HFSC; of CBQ nothing
abbrev pub lines_by : Kind → Fit → Interface → Burst → List ℕ
lines_by Hfsc f i b = bound_lines (is_fit f) i b
lines_by Cbq f i b = []

pub record IsBoundText (i : Interface) (b : Burst) (text : List ℕ) : Type 0 where
  pub by : Fit
  pub curves : IsFitOf i by
  pub text_is : text ≡ lines_by i.kind by i b
