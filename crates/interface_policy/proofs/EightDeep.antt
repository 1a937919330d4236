-- The classes of an interface as CBQ sees them: a tree of at most eight levels.
use Rattle.std.proofs.Common.{◌≡◌, ◌≤◌, ◌+◌, ℕ, List, [], ◌∷◌, Option, None, Some, length, refl, subst, arith}
use Rattle.std.specs.Prelude.{slice_get}
use Rattle.conf_tree.specs.declared.class.Class.{Class}
use Rattle.conf_tree.specs.declared.interface.Interface.{Interface}
use Rattle.conf_tree.specs.Family.{IsOnLevel, root, below}
use Rattle.conf_laws.specs.Fit.{IsInterface}
use Rattle.cbq_model.specs.declared.CbqClass.{CbqClass}
use Rattle.cbq_model.specs.Tree.{class_of, lender_of, lenders, no_class, path}
use Rattle.cbq_model.specs.Ways.{IsEightDeep, IsWay, IsWayOfLoans}
use Rattle.cbq_model.proofs.WholeWays.{whole_loans, whole_way}
use Rattle.interface_policy.specs.Classes.{cbq_class, cbq_classes}
use Rattle.interface_policy.proofs.Numbers.{earlier_parents}
use Rattle.interface_policy.proofs.Places.{by_place}

-- nothing stands above a class without a parent
none_above : (cs : List CbqClass) (o : Option ℕ) (up : List ℕ) → o ≡ None → IsWay cs o up → length up ≡ 0
none_above cs None [] e w = omega arith
none_above cs None (d ∷ up) e w = absurd w
none_above cs (Some p) up e w = absurd cc

-- above a class stand its parent and what stands above that
one_above : (cs : List CbqClass) (p n : ℕ) (o : Option ℕ) (up : List ℕ) → o ≡ Some p
    → ((more : List ℕ) → IsWay cs (class_of cs p).parent more → length more + 1 ≤ n) → IsWay cs o up → length up ≤ n
one_above cs p n None up e rest w = absurd cc
one_above cs p n (Some q) [] e rest w = absurd w
one_above cs p n (Some q) (d ∷ up) e rest w =
    let same : q ≡ p = cc in
    let few = rest up (subst (λ (x : ℕ). IsWay cs (class_of cs x).parent up) same w.1) in
    omega (arith, few)

some_level : (classes : List Class) (k level : ℕ) → IsOnLevel classes k level → 1 ≤ level
some_level classes k level (root j c e n) = omega arith
some_level classes k level (below j p up c e n on) = omega arith

-- fewer classes stand above a class than its level says
above : (classes : List Class) (k level : ℕ) → IsOnLevel classes k level → (c : Class) → slice_get classes k ≡ Some c
    → (up : List ℕ) → IsWay (cbq_classes classes) c.parent up → length up + 1 ≤ level
above classes k level (root j d e none) c f up w =
    let same : d ≡ c = cc in
    let few = none_above (cbq_classes classes) c.parent up (subst (λ (x : Class). x.parent ≡ None) same none) w in
    omega (arith, few)
above classes k level (below j p n d e parent on) c f up w =
    let same : d ≡ c = cc in
    let cs = cbq_classes classes in
    let rest = λ (more : List ℕ). by_place cbq_class no_class (λ x. IsWay cs x.parent more → length more + 1 ≤ n) classes p
    (λ m v. let few = none_above cs None more refl v in let some = some_level classes p n on in omega (arith, few, some))
    (λ x g v. above classes p n on x g more v) in
    let few = one_above cs p n c.parent up (subst (λ (x : Class). x.parent ≡ Some p) same parent) rest w in
    omega (arith, few)

pub eight_deep : (i : Interface) → IsInterface i → IsEightDeep (cbq_classes i.classes)
eight_deep i h = record {
  earlier = earlier_parents i h;
  levels = λ c way w. few_of c way w;
}
  where
    few_of : (c : ℕ) (way : List ℕ) → IsWay (cbq_classes i.classes) (Some c) way → length way ≤ 8
    few_of c [] w = absurd w
    few_of c (d ∷ up) w = by_place cbq_class no_class (λ x. IsWay (cbq_classes i.classes) x.parent up → length (d ∷ up) ≤ 8) i.classes c
        (λ m v. let few = none_above (cbq_classes i.classes) None up refl v in omega (arith, few))
        (λ x e v.
        let is = h.tree.class c x e in
        let eight = is.eight in
        let few = above i.classes c is.level is.on x e up v in
        omega (arith, few, eight))
        w.1

pub paths_are_whole : (i : Interface) (c : ℕ) → IsInterface i → IsWay (cbq_classes i.classes) (Some c) (path (cbq_classes i.classes) c)
paths_are_whole i c h = whole_way (cbq_classes i.classes) c (eight_deep i h)

pub loans_are_whole : (i : Interface) (c : ℕ) → IsInterface i
    → IsWayOfLoans (cbq_classes i.classes) (lender_of (class_of (cbq_classes i.classes) c)) (lenders (cbq_classes i.classes) c)
loans_are_whole i c h = whole_loans (cbq_classes i.classes) c (eight_deep i h)
