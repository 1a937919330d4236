-- What a play needs of an interface, and what it may promise of it.
use Rattle.std.specs.Prelude.{◌≡◌, ◌↔◌, ℕ, true, List, Some, slice_get}
use Rattle.altq_model.specs.History.{Arrival, LabelledEvent}
use Rattle.altq_model.specs.Lawful.{AreHeld, AreRising, IsLawful, IsOneOf}
use Rattle.altq_model.specs.Play.{AreDue}
use Rattle.conf_laws.specs.Fit.{IsInterface}
use Rattle.conf_tree.specs.declared.class.Class.{Class}
use Rattle.conf_tree.specs.declared.interface.Interface.{Interface}
use Rattle.conf_tree.specs.Family.{is_queue_class}
use Rattle.hfsc_model.specs.RealTime.{is_zero}
use Rattle.hfsc_policy.specs.Heads.{AreSized}
use Rattle.cbq_model.specs.Tree.{class_of, lender_of, lenders, path}
use Rattle.cbq_model.specs.Ways.{IsWay, IsWayOfLoans}
use Rattle.service_curve.specs.declared.Curve.{Curve}
use Rattle.service_curve.specs.Curve.{amount}
use Rattle.play_text.specs.Names.{HasClass}
use Rattle.interface_policy.specs.Classes.{cbq_classes}
use Rattle.interface_policy.specs.Policy.{policy_of, queue_names}
use Rattle.interface_policy.specs.Promises.{KeepsPromises}

-- the policy of an interface is lawful
abbrev pub PoliciesAreLawful : Type 0
PoliciesAreLawful = (i : Interface) → IsInterface i → IsLawful (policy_of i)

-- each class that holds packets is one of the policy's, and has a name
abbrev pub QueueClassesAreHeld : Type 0
QueueClassesAreHeld = (i : Interface) (c : ℕ) → is_queue_class i.kind i.classes c ≡ true → IsOneOf c (policy_of i).classes

abbrev pub QueueClassesAreNamed : Type 0
QueueClassesAreNamed = (i : Interface) (c : ℕ) → is_queue_class i.kind i.classes c ≡ true → HasClass (queue_names i) c

-- the first events of each play of it keep what it promises, however many
abbrev pub PlaysKeepPromises : Type 0
PlaysKeepPromises =
    (i : Interface) → IsInterface i → (seed : ℕ) (arrived : List Arrival) (g : List LabelledEvent) → AreRising arrived → AreSized arrived
    → AreHeld (policy_of i) arrived → AreDue (policy_of i) i.rate seed arrived g → KeepsPromises i arrived g

-- CBQ's walk over 8 levels from a class goes on up to the root, and its walk over those that may lend to the class up to the last one
-- that does
abbrev pub PathsReachTheRoot : Type 0
PathsReachTheRoot = (i : Interface) (c : ℕ) → IsInterface i → IsWay (cbq_classes i.classes) (Some c) (path (cbq_classes i.classes) c)

abbrev pub LoansReachTheLast : Type 0
LoansReachTheLast =
    (i : Interface) (c : ℕ) → IsInterface i
    → IsWayOfLoans (cbq_classes i.classes) (lender_of (class_of (cbq_classes i.classes) c)) (lenders (cbq_classes i.classes) c)

-- a curve is 0 at every time
abbrev pub GivesNothing : Curve → Type 0
GivesNothing s = (t : ℕ) → amount s t ≡ 0

-- of a curve in the one form that every set curve has: its slopes tell exactly that it is 0 at every time
abbrev pub SlopesTellZeros : Type 0
SlopesTellZeros = (s : Curve) → (s.d ≡ 0 → s.m1 ≡ s.m2) → (is_zero s ≡ true) ↔ GivesNothing s

-- so a real-time curve of a configuration counts as none exactly there
abbrev pub ZerosGiveNothing : Type 0
ZerosGiveNothing =
    (i : Interface) (k : ℕ) (c : Class) (s : Curve) → IsInterface i → slice_get i.classes k ≡ Some c → c.real ≡ Some s
    → (is_zero s ≡ true) ↔ GivesNothing s
