-- Classes without a packet: their nodes, and groups in which none stands.
use Rattle.std.proofs.Common.{◌≡◌, ◌≤◌, ◌<◌, ◌⊎◌, inl, inr, ℕ, Bool, true, false, List, [], ◌∷◌, ◌++◌, None, Some, get_or, length, refl, ap, sym, subst, arith, ◌∙◌}
use Rattle.std.specs.Prelude.{Option, ◌&&◌, slice_get}
use Rattle.std.proofs.lemmas.Bool.{cases_lt}
use Rattle.std.proofs.lemmas.List.{get_or_append_left, length-append}
use Rattle.std.proofs.lemmas.Option.{slice_get_within, get_or_from_slice_get}
use Rattle.ranking.specs.declared.Ranking.{Ranking}
use Rattle.ranking.specs.Order.{is_in}
use Rattle.ranking.specs.Ranking.{HasPlace, order_of}
use Rattle.hfsc_model.specs.declared.HfscClass.{HfscClass}
use Rattle.hfsc_model.specs.Tree.{class_of, is_child, is_number}
use Rattle.hfsc_groups.specs.declared.node.Node.{Node}
use Rattle.hfsc_groups.specs.declared.group.Group.{Group}
use Rattle.hfsc_groups.specs.Classes.{AreClasses}
use Rattle.hfsc_groups.specs.Node.{active_in, parent_in, time_in, opens_in, is_child_in, is_active_child, AreNew, AreParentsFirst, AreLimitsBy, IsNewNode}
use Rattle.hfsc_groups.specs.declared.late.LimitedChildren.{LimitedChildren}
use Rattle.hfsc_groups.specs.Late.{HasLatePlace, is_late, late_order}
use Rattle.hfsc_groups.specs.Group.{AreEmpty, Delays, GroupsHold, IsEmpty, IsNewGroup, Ranks, time_key}
use Rattle.hfsc_groups.proofs.Found.{outside_parent}

-- a group that is reserved for the children of a class
pub reserved_empty : (cs : List HfscClass) (class first places : ℕ) (g : Group) → IsNewGroup first places g → ((c : ℕ) → is_child cs class c ≡ true → first ≤ c)
    → ((c : ℕ) → is_child cs class c ≡ true → c < places) → IsEmpty cs class g
reserved_empty cs class first places g new from below = record {
  times = new.times;
  moments = new.moments.order;
  time_keys = λ c k. record {
    from = let one = new.time_first in let low = from c k in omega (arith, one, low);
    room = let keys = new.time_keys in let low = from c k in let high = below c k in omega (arith, keys, low, high);
  };
  moment_keys = λ c k. record {
    from = let one = new.moments.first in let low = from c k in omega (arith, one, low);
    room = let keys = new.moments.places in let low = from c k in let high = below c k in omega (arith, keys, low, high);
  };
  high = new.high;
}

at_end : (xs : List Group) (x d : Group) → get_or (xs ++ x ∷ []) (length xs) d ≡ x
at_end [] x d = refl
at_end (y ∷ ys) x d = at_end ys x d

-- one group more
pub one_more : (cs : List HfscClass) (groups new : List Group) (g : Group) (class : ℕ) → length groups ≡ class → new ≡ groups ++ g ∷ []
    → ((p : ℕ) (d : Group) → p < length groups → IsEmpty cs p (get_or groups p d)) → IsEmpty cs class g → (p : ℕ) (d : Group) → p < length new → IsEmpty cs p (get_or new p d)
one_more cs groups new g class count e each here p d h =
    subst (λ (xs : List Group). IsEmpty cs p (get_or xs p d)) (sym e) (go (cases_lt p (length groups)))
  where
    go : (p < length groups) ⊎ (length groups ≤ p) → IsEmpty cs p (get_or (groups ++ g ∷ []) p d)
    go (inl k) = subst (λ (y : Group). IsEmpty cs p y) (sym (get_or_append_left groups (g ∷ []) d p k)) (each p d k)
    go (inr k) =
        let long = ap (λ (xs : List Group). length xs) e ∙ length-append groups (g ∷ []) in
        let last : p ≡ length groups = omega (arith, h, k, long) in
        let class_is : class ≡ p = omega (arith, last, count) in
        subst (λ (y : Group). IsEmpty cs p y) (sym (ap (λ n. get_or (groups ++ g ∷ []) n d) last ∙ at_end groups g d)) (subst (λ n. IsEmpty cs n g) class_is here)

-- each of them
pub new_node : (cs : List HfscClass) (nodes : List Node) (c : ℕ) (x : Node) → AreNew cs nodes → slice_get nodes c ≡ Some x → IsNewNode (class_of cs c) x
new_node cs nodes c x new e = subst (λ (y : Node). IsNewNode (class_of cs c) y) (get_or_from_slice_get nodes c x x e) (new.each c x (slice_get_within nodes c x e))

new_group : (cs : List HfscClass) (groups : List Group) (p : ℕ) (g : Group) → AreEmpty cs groups → slice_get groups p ≡ Some g → IsEmpty cs p g
new_group cs groups p g new e = subst (λ (y : Group). IsEmpty cs p y) (get_or_from_slice_get groups p g g e) (new.each p g (slice_get_within groups p g e))

pub idle_in : (cs : List HfscClass) (nodes : List Node) (c : ℕ) → AreNew cs nodes → active_in (slice_get nodes c) ≡ false
idle_in cs nodes c new = go (slice_get nodes c) refl
  where
    go : (o : Option Node) → slice_get nodes c ≡ o → active_in o ≡ false
    go None e = refl
    go (Some x) e = (new_node cs nodes c x new e).active

time_zero : (cs : List HfscClass) (nodes : List Node) (c : ℕ) → AreNew cs nodes → time_in (slice_get nodes c) ≡ 0
time_zero cs nodes c new = go (slice_get nodes c) refl
  where
    go : (o : Option Node) → slice_get nodes c ≡ o → time_in o ≡ 0
    go None e = refl
    go (Some x) e = (new_node cs nodes c x new e).time

pub parent_is : (cs : List HfscClass) (nodes : List Node) (c : ℕ) → AreNew cs nodes → parent_in (slice_get nodes c) ≡ (class_of cs c).parent
parent_is cs nodes c new = go (slice_get nodes c) refl
  where
    go : (o : Option Node) → slice_get nodes c ≡ o → parent_in o ≡ (class_of cs c).parent
    go None e = outside_parent nodes cs c new.count e
    go (Some x) e = (new_node cs nodes c x new e).parent

no_active : (cs : List HfscClass) (nodes : List Node) (p c : ℕ) → AreNew cs nodes → is_active_child nodes p c ≡ false
no_active cs nodes p c new = ap (λ b. is_child_in nodes p c && b) (idle_in cs nodes c new) ∙ nothing (is_child_in nodes p c)
  where
    nothing : (b : Bool) → (b && false) ≡ false
    nothing true = refl
    nothing false = refl

empty_ranks : (cs : List HfscClass) (nodes : List Node) (p : ℕ) (key : Option Node → Option ℕ) (r : Ranking) → AreNew cs nodes → order_of r ≡ []
    → ((c : ℕ) → is_child cs p c ≡ true → HasPlace r c) → Ranks nodes p key r
empty_ranks cs nodes p key r new empty room = record {
  places = λ c k. room c (sym (ap (is_number p) (parent_is cs nodes c new)) ∙ k);
  exactly = λ c. ap (λ (xs : List ℕ). is_in c xs) empty ∙ sym (no_active cs nodes p c new);
  keys = λ c a. let no = no_active cs nodes p c new in absurd cc;
}

empty_delays : (cs : List HfscClass) (nodes : List Node) (p : ℕ) (r : LimitedChildren) → AreNew cs nodes → late_order r ≡ []
    → ((c : ℕ) → is_child cs p c ≡ true → HasLatePlace r c) → Delays nodes p r
empty_delays cs nodes p r new empty room = record {
  places = λ c k. room c (sym (ap (is_number p) (parent_is cs nodes c new)) ∙ k);
  exactly = λ c. ap (λ (xs : List ℕ). is_in c xs) empty ∙ sym (ap (λ b. b && is_late (opens_in (slice_get nodes c))) (no_active cs nodes p c new));
  keys = λ c a. let no = no_active cs nodes p c new in absurd cc;
}

pub new_holds : (cs : List HfscClass) (nodes : List Node) (groups : List Group) → AreNew cs nodes → AreEmpty cs groups → GroupsHold nodes groups
new_holds cs nodes groups new empty = record {
  count = empty.count ∙ sym new.count;
  each = λ p g e.
      let x = new_group cs groups p g empty e in
      record {
        times = empty_ranks cs nodes p time_key g.times new x.times x.time_keys;
        moments = empty_delays cs nodes p g.moments new x.moments x.moment_keys;
        high = record {
          highest = λ c k. let zero_is = time_zero cs nodes c new in omega arith;
          least = λ other up. let none = x.high in omega arith;
        };
      };
}

pub new_parents : (cs : List HfscClass) (nodes : List Node) → AreClasses cs → AreNew cs nodes → AreParentsFirst nodes
new_parents cs nodes classes new = λ c p e. classes.tree.earlier c p (sym (parent_is cs nodes c new) ∙ e)

pub new_limits : (cs : List HfscClass) (nodes : List Node) → AreNew cs nodes → AreLimitsBy 0 nodes
new_limits cs nodes new = λ c x e last f. let no = sym (new_node cs nodes c x new e).never ∙ f in absurd cc
