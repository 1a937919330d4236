-- What can become of the packets of each class of an interface.
use Rattle.std.specs.Prelude.{Bool, true, false, not, List, map, Option, None, Some}
use Rattle.service_curve.specs.declared.Curve.{Curve}
use Rattle.conf_tree.specs.declared.class.Class.{Class}
use Rattle.conf_tree.specs.declared.class.DropRule.{DropRule}
use Rattle.conf_tree.specs.declared.class.DropRule.TheVariants.{Tail, Red, Ecn, Rio}
use Rattle.conf_tree.specs.declared.interface.Interface.{Interface}
use Rattle.conf_tree.specs.declared.interface.Kind.{Kind}
use Rattle.conf_tree.specs.declared.interface.Kind.TheVariants.{Hfsc, Cbq}
use Rattle.fate_judge.specs.declared.given.Allowed.{Allowed}
use Rattle.frame_classes.specs.Handlings.{is_ecn}
use Rattle.hfsc_model.specs.RealTime.{is_zero}

-- a curve that is 0 everywhere counts as none
abbrev pub has_curve : Option Curve → Bool
has_curve None = false
has_curve (Some s) = not (is_zero s)

abbrev pub drops_early : DropRule → Bool
drops_early Tail = false
drops_early Red = true
drops_early Ecn = true
drops_early Rio = true

-- HFSC sends by share, and by real time in a class with a real-time curve (Stoica, Zhang and Ng, 1997); CBQ by a class's own rate, and
-- by borrowing in a class that may (Floyd and Jacobson, 1995)
abbrev pub allowed_in : Kind → Class → Allowed
allowed_in Hfsc c = record { real_time = has_curve c.real; share = true; own = false; borrow = false; early = drops_early c.drop }
allowed_in Cbq c = record { real_time = false; share = false; own = true; borrow = c.borrow; early = drops_early c.drop }

abbrev pub allowed_of : Interface → List Allowed
allowed_of i = map (allowed_in i.kind) i.classes

-- which classes have a queue that marks (RFC 3168)
abbrev pub marks_by : Class → Bool
marks_by c = is_ecn c.drop

abbrev pub marks_of : Interface → List Bool
marks_of i = map marks_by i.classes
