-- The classes that hold packets are those of the policy.
use Rattle.std.proofs.Common.{◌≡◌, ◌≤◌, ◌<◌, ◌+◌, ◌⊎◌, inl, inr, ◌∙◌, ℕ, Bool, true, false, not, List, [], ◌∷◌, Option, None, Some, length, nat_lt, refl, ap, sym, subst, arith}
use Rattle.std.specs.Prelude.{slice_get}
use Rattle.std.specs.List.{list_any}
use Rattle.std.proofs.lemmas.Bool.{and_parts, cases_lt}
use Rattle.std.proofs.lemmas.Bool.Decides.{nat_tests}
use Rattle.std.proofs.lemmas.List.{length-map}
use Rattle.std.proofs.lemmas.List.Folds.{list_any_at}
use Rattle.std.proofs.lemmas.Option.{get_or_from_slice_get, slice_get_within}
use Rattle.altq_model.specs.Play.{IsOneOf}
use Rattle.conf_tree.specs.declared.class.Class.{Class}
use Rattle.conf_tree.specs.declared.interface.Interface.{Interface}
use Rattle.conf_tree.specs.declared.interface.Kind.{Kind}
use Rattle.conf_tree.specs.declared.interface.Kind.TheVariants.{Hfsc, Cbq}
use Rattle.conf_tree.specs.Family.{is_child, is_leaf, is_queue_class, names_parent}
use Rattle.hfsc_model.specs.Tree.{is_child as is_hfsc_child, is_leaf as is_hfsc_leaf, is_parent}
use Rattle.hfsc_laws.proofs.Tree.{any_is, parent_of, true_and}
use Rattle.hfsc_policy.proofs.Lawful.{leaf_one}
use Rattle.cbq_model.specs.declared.CbqClass.{CbqClass}
use Rattle.cbq_model.specs.Tree.{each_from}
use Rattle.interface_policy.specs.Classes.{cbq_class, cbq_classes, hfsc_class, hfsc_classes}
use Rattle.interface_policy.specs.Policy.{policy_by, policy_of}
use Rattle.interface_policy.proofs.Named.{inside}
use Rattle.interface_policy.proofs.Trees.{by_class}

-- a class with a child in HFSC has one in the configuration
named_by : (p : ℕ) (o : Option ℕ) → o ≡ Some p → names_parent p o ≡ true
named_by p None e = absurd cc
named_by p (Some q) e = let same : q ≡ p = cc in grind (arith, nat_tests)

child_at : (classes : List Class) (p k : ℕ) (c : Class) → slice_get classes k ≡ Some c → c.parent ≡ Some p → list_any (λ x. is_child p x) classes ≡ true
child_at classes p k c at e =
    list_any_at (λ x. is_child p x) classes k c (slice_get_within classes k c at)
    (subst (λ (x : Class). is_child p x ≡ true) (sym (get_or_from_slice_get classes k c c at)) (named_by p c.parent e))

pub parent_there : (classes : List Class) (p : ℕ) → is_parent (hfsc_classes classes) p ≡ true → list_any (λ x. is_child p x) classes ≡ true
parent_there classes p e =
    let cs = hfsc_classes classes in
    let child = any_is (is_hfsc_child cs p) 0 (length cs) e in
    by_class (λ x. x.parent ≡ Some p → list_any (λ y. is_child p y) classes ≡ true) classes child.one (λ m f. absurd cc) (λ x at f. child_at classes p child.one x at f)
    (parent_of cs p child.one child.passes)

hfsc_leaf : (classes : List Class) (c : ℕ) → is_queue_class Hfsc classes c ≡ true → is_hfsc_leaf (hfsc_classes classes) c ≡ true
hfsc_leaf classes c h =
    let cs = hfsc_classes classes in
    let long : length cs ≡ length classes = length-map classes hfsc_class in
    let low = inside Hfsc classes c h in
    let no_child = (and_parts (nat_lt c (length classes)) (is_leaf classes c) h).1 in
    true_and (nat_lt c (length cs)) (not (is_parent cs c)) (ap (nat_lt c) long ∙ grind (arith, nat_tests)) (go (is_parent cs c) (list_any (λ x. is_child c x) classes) no_child (parent_there classes c))
  where
    go : (a b : Bool) → not b ≡ true → (a ≡ true → b ≡ true) → not a ≡ true
    go true true e f = absurd cc
    go true false e f = let bad = f refl in absurd cc
    go false b e f = refl

number_there : (first c : ℕ) (cs : List CbqClass) → first ≤ c → c < first + length cs → IsOneOf c (each_from (λ n k. n) first cs)
number_there first c [] low high = absurd (omega (arith, low, high))
number_there first c (k ∷ cs) low high = go (cases_lt first c) (λ l. number_there (first + 1) c cs (omega (arith, l)) (omega (arith, high)))
  where
    go : (first < c) ⊎ (c ≤ first) → (first < c → IsOneOf c (each_from (λ n k. n) (first + 1) cs)) → (first ≡ c) ⊎ IsOneOf c (each_from (λ n k. n) (first + 1) cs)
    go (inl l) rest = inr (rest l)
    go (inr l) rest = inl (omega (arith, l, low))

held_by : (kind : Kind) (i : Interface) (c : ℕ) → is_queue_class kind i.classes c ≡ true → IsOneOf c (policy_by kind i).classes
held_by Hfsc i c h = leaf_one (hfsc_classes i.classes) c (hfsc_leaf i.classes c h)
held_by Cbq i c h =
    let long : length (cbq_classes i.classes) ≡ length i.classes = length-map i.classes cbq_class in
    let low = inside Cbq i.classes c h in
    number_there 0 c (cbq_classes i.classes) (omega arith) (omega (arith, low, long))

pub class_held : (i : Interface) (c : ℕ) → is_queue_class i.kind i.classes c ≡ true → IsOneOf c (policy_of i).classes
class_held i c h = held_by i.kind i c h
