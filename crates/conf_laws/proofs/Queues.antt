-- Packets go to classes that hold packets, and are metered there.
use Rattle.std.proofs.Common.{◌≡◌, ◌≢◌, ℕ, ◌<◌, true, false, not, List, length, Option, Some, None, unwrap_or, slice_get, refl, ap, arith, nat_lt, get_or}
use Rattle.std.specs.List.{list_any}
use Rattle.std.proofs.lemmas.Bool.Decides.{nat_tests}
use Rattle.std.proofs.lemmas.Bool.{and_from}
use Rattle.std.proofs.lemmas.List.Folds.{list_any_none}
use Rattle.std.proofs.lemmas.Option.{slice_get-get_or, slice_get_within}
use Rattle.conf_tree.specs.declared.class.Class.{Class}
use Rattle.conf_tree.specs.declared.filter.Filter.{Filter}
use Rattle.conf_tree.specs.declared.interface.Interface.{Interface}
use Rattle.conf_tree.specs.declared.interface.Kind.{Kind}
use Rattle.conf_tree.specs.declared.interface.Kind.TheVariants.{Hfsc, Cbq}
use Rattle.conf_tree.specs.Family.{names_parent, is_child, is_leaf, default_class, is_queue_class}
use Rattle.conf_laws.specs.Fit.{HasParent, HasDefault, IsTree, IsInterface}
use Rattle.conf_laws.specs.Laws.{HasQueues}
use Rattle.conf_laws.proofs.ListPlaces.{AtEach, position_at}

-- a class that no class names as its parent is a leaf
abbrev IsChildless : List Class → ℕ → Type 0
IsChildless classes p = AtEach (λ k c. c.parent ≢ Some p) classes

other_parent : (p : ℕ) (o : Option ℕ) → o ≢ Some p → names_parent p o ≡ false
other_parent p o n = grind (arith, nat_tests)

no_child : (classes : List Class) (p : ℕ) → IsChildless classes p → list_any (λ c. is_child p c) classes ≡ false
no_child classes p h = list_any_none (λ c. is_child p c) classes (λ k x inside.
    let c = get_or classes k x in other_parent p c.parent (h k c (slice_get-get_or classes k x inside)))

queue_by : (kind : Kind) (classes : List Class) (p : ℕ) → p < length classes → (kind ≡ Hfsc → IsChildless classes p) → is_queue_class kind classes p ≡ true
queue_by Hfsc classes p inside h =
    and_from (nat_lt p (length classes)) (is_leaf classes p) (grind (arith, nat_tests)) (ap not (no_child classes p (h refl)))
queue_by Cbq classes p inside h = grind (arith, nat_tests)

-- the default class is the one that says so, and in HFSC it has no children
default_is : (classes : List Class) (h : HasDefault classes) → default_class classes ≡ h.number
default_is classes h =
    ap (λ o. unwrap_or o 0) (position_at (λ (c : Class). c.is_default) classes h.number h.class h.at h.is_default (λ j c at is. h.one j c at is))

unparented : (kind : Kind) (classes : List Class) (h : HasDefault classes) (k : ℕ) (parent : Option ℕ) → HasParent kind classes k parent → kind ≡ Hfsc
    → parent ≢ Some h.number
unparented kind classes h k None has hfsc e = cc
unparented kind classes h k (Some p) has hfsc e = cc (has.2, h.at, h.is_default, has.3.inner hfsc)

no_control : (kind : Kind) (classes : List Class) (filters : List Filter) (tree : IsTree kind classes filters) (k : ℕ) (c : Class)
    → slice_get classes k ≡ Some c → c.control ≡ true → is_queue_class kind classes k ≡ true
no_control Hfsc classes filters tree k c at is = cc ((tree.class k c at).own.control)
no_control Cbq classes filters tree k c at is = queue_by Cbq classes k (slice_get_within classes k c at) (λ e. cc)

-- in HFSC a class with a conditioner has no children
metered : (kind : Kind) (classes : List Class) (p : ℕ) (c : Class) → slice_get classes p ≡ Some c → c.meter ≢ None → (k : ℕ) (parent : Option ℕ)
    → HasParent kind classes k parent → kind ≡ Hfsc → parent ≢ Some p
metered kind classes p c at some k None has hfsc e = cc
metered kind classes p c at some k (Some q) has hfsc e = some (cc (has.2, at, has.3.unmetered hfsc))

pub has_queues : (i : Interface) → IsInterface i → HasQueues i
has_queues i h =
    let tree = h.tree in
    let d = tree.default in
    record {
      default = rw (default_is i.classes d) (queue_by i.kind i.classes d.number (slice_get_within i.classes d.number d.class d.at)
          (λ hfsc k c at. unparented i.kind i.classes d k c.parent (tree.class k c at).parent hfsc));
      filter = λ k f at. queue_by i.kind i.classes f.class (tree.filter k f at).class (tree.filter k f at).outer;
      control = no_control i.kind i.classes i.filters tree;
      meter = λ k c at some. queue_by i.kind i.classes k (slice_get_within i.classes k c at)
          (λ hfsc j x there. metered i.kind i.classes k c at some j x.parent (tree.class j x there).parent hfsc);
    }
