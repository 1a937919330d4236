-- The packets of a play come to classes of its interface.
use Rattle.std.proofs.Common.{◌≡◌, ◌<◌, ◌-◌, ◌∙◌, ℕ, zero, suc, false, true, not, List, [], ◌∷◌, Some, length, nat_lt, ap, subst, arith}
use Rattle.std.specs.Prelude.{slice_get}
use Rattle.std.specs.Option.{option_map_or}
use Rattle.std.specs.declared.option.Option.{Option}
use Rattle.std.proofs.lemmas.Bool.{and_parts}
use Rattle.std.proofs.lemmas.Bool.Decides.{nat_tests}
use Rattle.std.proofs.lemmas.List.{length-map}
use Rattle.altq_model.specs.declared.Fate.{Fate}
use Rattle.altq_model.specs.History.{Arrival}
use Rattle.altq_model.specs.Lawful.{AreHeld}
use Rattle.altq_model.specs.Play.{IsOneOf, Policy}
use Rattle.cbq_model.proofs.Places.{is_below}
use Rattle.conf_laws.proofs.ListPlaces.{element, map_on}
use Rattle.conf_tree.specs.declared.class.Class.{Class}
use Rattle.conf_tree.specs.declared.interface.Interface.{Interface}
use Rattle.conf_tree.specs.declared.interface.Kind.{Kind}
use Rattle.conf_tree.specs.declared.interface.Kind.TheVariants.{Hfsc, Cbq}
use Rattle.fate_judge.specs.declared.given.Allowed.{Allowed}
use Rattle.fate_judge.specs.Reading.{can_occur, can_occur_in}
use Rattle.given_play.specs.Rights.{allowed_in, allowed_of}
use Rattle.hfsc_model.specs.declared.HfscClass.{HfscClass}
use Rattle.hfsc_model.specs.Tree.{is_parent}
use Rattle.hfsc_policy.proofs.Lawful.{one_leaf}
use Rattle.interface_policy.specs.Classes.{cbq_class, cbq_classes, hfsc_class, hfsc_classes}
use Rattle.interface_policy.specs.Policy.{policy_by, policy_of}
use Rattle.journal_laws.specs.Journal.{class_of}

-- a class of the policy is one of the interface
below : (kind : Kind) (i : Interface) (c : ℕ) → IsOneOf c (policy_by kind i).classes → c < length i.classes
below Hfsc i c m =
    let cs : List HfscClass = hfsc_classes i.classes in
    let long : length cs ≡ length i.classes = length-map i.classes hfsc_class in
    let low = (and_parts (nat_lt c (length cs)) (not (is_parent cs c)) (one_leaf cs c m)).0 in
    let under : c < length cs = grind (arith, nat_tests, low) in
    omega (arith, under, long)
below Cbq i c m =
    let long : length (cbq_classes i.classes) ≡ length i.classes = length-map i.classes cbq_class in
    omega (arith, is_below c (cbq_classes i.classes) m, long)

-- the class of a packet
pub record HasClass (i : Interface) (a : Arrival) : Type 0 where
  pub class : Class
  pub at : slice_get i.classes a.class ≡ Some class

one_of_at : (p : Policy) (arrived : List Arrival) (k : ℕ) (a : Arrival) → AreHeld p arrived → slice_get arrived k ≡ Some a → IsOneOf a.class p.classes
one_of_at p [] k a held at = absurd cc
one_of_at p (x ∷ rest) zero a held at =
    let same : x ≡ a = cc in
    let P : Arrival → Type 0 = λ y. IsOneOf y.class p.classes in
    subst P same held.0
one_of_at p (x ∷ rest) (suc k) a held at = one_of_at p rest k a held.1 at

pub has_class : (i : Interface) (arrived : List Arrival) (n : ℕ) (a : Arrival) → AreHeld (policy_of i) arrived → slice_get arrived (n - 1) ≡ Some a
    → HasClass i a
has_class i arrived n a held at =
    let its = element i.classes a.class (below i.kind i a.class (one_of_at (policy_of i) arrived (n - 1) a held at)) in
    record { class = its.0; at = its.1 }

-- the class of a number is that of its packet
pub class_at : (arrived : List Arrival) (n : ℕ) (a : Arrival) → slice_get arrived (n - 1) ≡ Some a → class_of arrived n ≡ a.class
class_at arrived n a at = ap (λ (o : Option Arrival). option_map_or (λ (x : Arrival). x.class) o 0) at

-- what can occur in that class, can occur of that number
pub occurs_there : (i : Interface) (arrived : List Arrival) (n : ℕ) (a : Arrival) (k : Class) (f : Fate) → slice_get arrived (n - 1) ≡ Some a
    → slice_get i.classes a.class ≡ Some k → can_occur (allowed_in i.kind k) f ≡ true → can_occur_in (allowed_of i) (class_of arrived n) f ≡ true
occurs_there i arrived n a k f at there may =
    let its : slice_get (allowed_of i) a.class ≡ Some (allowed_in i.kind k) = map_on (allowed_in i.kind) i.classes a.class k there in
    ap (λ (c : ℕ). can_occur_in (allowed_of i) c f) (class_at arrived n a at)
    ∙ ap (λ (o : Option Allowed). option_map_or (λ c. can_occur c f) o false) its ∙ may
