-- The classes of an interface as HFSC sees them: they are a tree, and HFSC may be built of them.
use Rattle.std.proofs.Common.{◌≡◌, ◌≢◌, ◌≤◌, ◌<◌, ◌+◌, ◌⊎◌, inl, inr, ℕ, zero, suc, Bool, true, false, List, [], ◌∷◌, Option, None, Some, length, map, get_or, refl, ap, sym, subst, arith, ◌∙◌}
use Rattle.std.specs.Prelude.{All, IsSome, IsSomeAnd, IfSome, slice_get, ◌==◌, if◌then◌else◌}
use Rattle.std.proofs.lemmas.List.{length-map}
use Rattle.std.proofs.lemmas.List.Elements.{All-nil, All-cons}
use Rattle.std.proofs.lemmas.Option.{slice_get_within}
use Rattle.service_curve.specs.declared.Curve.{Curve}
use Rattle.service_curve.specs.Curve.{IsInRange}
use Rattle.runtime_curve.specs.Opening.{RisesFromZero}
use Rattle.conf_tree.specs.declared.class.Class.{Class}
use Rattle.conf_tree.specs.declared.filter.Filter.{Filter}
use Rattle.conf_tree.specs.declared.interface.Interface.{Interface}
use Rattle.conf_tree.specs.declared.interface.Kind.{Kind}
use Rattle.conf_tree.specs.declared.interface.Kind.TheVariants.{Hfsc}
use Rattle.conf_tree.specs.Family.{IsOnLevel, root, below}
use Rattle.conf_laws.specs.Fit.{HasParent, IsClass, IsCurve, IsCurveIfAny, IsInterface, IsTree}
use Rattle.hfsc_model.specs.declared.HfscClass.{HfscClass}
use Rattle.hfsc_model.specs.Tree.{class_of, no_class, is_child, is_parent, numbers, path_up, reals, IsTree as IsHfscTree}
use Rattle.hfsc_laws.proofs.Tree.{any_is, parent_of}
use Rattle.hfsc_policy.specs.Classes.{IsClassTree, IsLimit}
use Rattle.hfsc_eligible.specs.Real.{CanCarry, IsCurve as IsRealCurve}
use Rattle.hfsc_groups.specs.Classes.{AreClasses, IsClass as IsShareClass, IsLimit as IsShareLimit, IsShare}
use Rattle.hfsc_groups.specs.Curves.{IsCurve as IsShareCurve}
use Rattle.hfsc_core.specs.Chooser.{MayBuild}
use Rattle.interface_policy.specs.Classes.{hfsc_class, hfsc_classes}
use Rattle.interface_policy.proofs.Places.{all_of, by_place}

-- what is known of a tree of HFSC
record Known (classes : List Class) : Type 0 where
  class : (k : ℕ) (c : Class) → slice_get classes k ≡ Some c → IsClass Hfsc classes k c

pub by_class : (P : HfscClass → Type 0) (classes : List Class) (c : ℕ) → (length classes ≤ c → P no_class)
    → ((x : Class) → slice_get classes c ≡ Some x → P (hfsc_class x)) → P (class_of (hfsc_classes classes) c)
by_class P classes c none some = by_place hfsc_class no_class P classes c none some

-- parents
first_has_none : (classes : List Class) (o : Option ℕ) → HasParent Hfsc classes 0 o → o ≡ None
first_has_none classes None h = refl
first_has_none classes (Some p) h = absurd (omega (arith, h.0))

later_has_one : (classes : List Class) (c : ℕ) (o : Option ℕ) → 0 < c → HasParent Hfsc classes c o → elim o [ None ↦ false | Some p ↦ true ] ≡ true
later_has_one classes c None l h = absurd (omega (arith, h))
later_has_one classes c (Some p) l h = refl

stands_before : (classes : List Class) (c p : ℕ) (o : Option ℕ) → HasParent Hfsc classes c o → o ≡ Some p → p < c
stands_before classes c p None h e = absurd cc
stands_before classes c p (Some q) h e = let same : q ≡ p = cc in omega (arith, h.0)

without_real : (classes : List Class) (c p : ℕ) (o : Option ℕ) → HasParent Hfsc classes c o → o ≡ Some p
    → (q : Class) × (slice_get classes p ≡ Some q) × (q.real ≡ None)
without_real classes c p None h e = absurd cc
without_real classes c p (Some q) h e =
    let same : q ≡ p = cc in
    (h.1, subst (λ k. slice_get classes k ≡ Some h.1) same h.2, h.3.real)

-- levels
path_of_none : (n : ℕ) (cs : List HfscClass) → path_up n cs None ≡ []
path_of_none zero cs = refl
path_of_none (suc n) cs = refl

some_level : (classes : List Class) (k level : ℕ) → IsOnLevel classes k level → 1 ≤ level
some_level classes k level (root j c e n) = omega arith
some_level classes k level (below j p up c e n on) = omega arith

ends_at_root : (cs : List HfscClass) (n : ℕ) (o : Option ℕ) → o ≡ None → path_up (suc n) cs o ≡ path_up n cs o
ends_at_root cs n None e = sym (path_of_none n cs)
ends_at_root cs n (Some p) e = absurd cc

goes_on : (cs : List HfscClass) (n p : ℕ) (o : Option ℕ) → o ≡ Some p
    → path_up (suc n) cs (class_of cs p).parent ≡ path_up n cs (class_of cs p).parent → path_up (suc (suc n)) cs o ≡ path_up (suc n) cs o
goes_on cs n p None e rest = absurd cc
goes_on cs n p (Some q) e rest =
    let same : q ≡ p = cc in
    subst (λ x. path_up (suc (suc n)) cs (Some x) ≡ path_up (suc n) cs (Some x)) (sym same) (ap (λ (xs : List ℕ). p ∷ xs) rest)

-- the path above a class ends where its level does
ends_above : (classes : List Class) (k level : ℕ) → IsOnLevel classes k level → (n : ℕ) → level ≤ suc n → (c : Class) → slice_get classes k ≡ Some c
    → path_up (suc n) (hfsc_classes classes) c.parent ≡ path_up n (hfsc_classes classes) c.parent
ends_above classes k level (root j d e none) n l c f =
    let same : d ≡ c = cc in
    ends_at_root (hfsc_classes classes) n c.parent (subst (λ (x : Class). x.parent ≡ None) same none)
ends_above classes k level (below j p up d e parent on) zero l c f = let some : 1 ≤ up = some_level classes p up on in absurd (omega (arith, l))
ends_above classes k level (below j p up d e parent on) (suc n) l c f =
    let same : d ≡ c = cc in
    let cs = hfsc_classes classes in
    goes_on cs n p c.parent (subst (λ (x : Class). x.parent ≡ Some p) same parent)
    (by_class (λ x. path_up (suc n) cs x.parent ≡ path_up n cs x.parent) classes p (λ m. ends_at_root cs n None refl)
    (λ x g. ends_above classes p up on n (omega (arith, l)) x g))

hfsc_tree : (classes : List Class) → Known classes → IsHfscTree (hfsc_classes classes)
hfsc_tree classes known =
    let cs = hfsc_classes classes in
    record {
      root = by_class (λ x. x.parent ≡ None) classes 0 (λ m. refl) (λ x e. first_has_none classes x.parent (known.class 0 x e).parent);
      earlier = λ c p. by_class (λ x. x.parent ≡ Some p → p < c) classes c (λ m e. absurd cc) (λ x e. stands_before classes c p x.parent (known.class c x e).parent);
      levels = λ c. ap (λ (xs : List ℕ). c ∷ xs) (by_class (λ x. path_up 8 cs x.parent ≡ path_up 7 cs x.parent) classes c (λ m. refl)
          (λ x e. let is = known.class c x e in let eight = is.eight in ends_above classes c is.level is.on 7 (omega (arith, eight)) x e));
    }

-- curves
in_range : (low least : ℕ) (s : Curve) → IsCurve low least s → IsInRange s
in_range low least s h =
    let first = h.first.1 in
    let second = h.second.1 in
    let most = h.bend.1 in
    let bend = h.bend.2 in
    record { first = omega (arith, first); bend = omega (arith, most, bend); second = omega (arith, second) }

rises : (s : Curve) → (s.m1 ≡ 0) ⊎ (s.m2 ≤ s.m1) → RisesFromZero s
rises s (inl e) = λ l. e
rises s (inr e) = λ l. absurd (omega (arith, e, l))

curve_in : (low least : ℕ) (o : Option Curve) (s : Curve) → IsCurveIfAny low least o → o ≡ Some s → IsCurve low least s
curve_in low least None s h e = absurd cc
curve_in low least (Some r) s h e = let same : r ≡ s = cc in subst (IsCurve low least) same h

real_in : (o : Option Curve) → IsCurveIfAny 0 0 o → CanCarry o
real_in o h = λ s e. let of = curve_in 0 0 o s h e in record { in_range = in_range 0 0 s of; slopes = rises s of.upward }

class_tree_of : (classes : List Class) → Known classes → 0 < length classes → IsClassTree (hfsc_classes classes)
class_tree_of classes known some =
    let cs = hfsc_classes classes in
    let long : length cs ≡ length classes = length-map classes hfsc_class in
    record {
      some = omega (arith, long, some);
      tree = hfsc_tree classes known;
      one_root = λ c l. by_class (λ x. c < length cs → elim x.parent [ None ↦ false | Some p ↦ true ] ≡ true) classes c (λ m n. absurd (omega (arith, m, n, long)))
          (λ x e n. later_has_one classes c x.parent l (known.class c x e).parent);
      inside = λ p e.
          let child = any_is (is_child cs p) 0 (length cs) e in
          by_class (λ x. x.parent ≡ Some p → (class_of cs p).real ≡ None) classes child.one (λ m f. absurd cc)
          (λ x f g.
          let up = without_real classes child.one p x.parent (known.class child.one x f).parent g in
          by_class (λ y. y.real ≡ None) classes p (λ m. refl) (λ y h. let same : up.0 ≡ y = cc (up.1, h) in subst (λ (z : Class). z.real ≡ None) same up.2))
          (parent_of cs p child.one child.passes);
      shares = λ c s e. by_class (λ x. x.share ≡ Some s → IsInRange s) classes c (λ m f. absurd cc)
          (λ x f g. in_range 0 1 s (curve_in 0 1 x.share s (known.class c x f).own.share g));
      limits = λ c s. by_class (λ x. x.limit ≡ Some s → IsLimit s) classes c (λ m f. absurd cc)
          (λ x f g. let of = curve_in 1000 1000 x.upper s (known.class c x f).own.upper g in let second = of.second.0 in record { in_range = in_range 1000 1000 s of; second = second });
    }

-- what sharing asks of each class
share_in : (o : Option ℕ) (q : Option Curve) → (o ≢ None → q ≢ None) → IsCurveIfAny 0 1 q → IsSome o → IsSomeAnd q IsShare
share_in None q shared h is = absurd cc
share_in (Some p) None shared h is = absurd (shared (λ e. cc) refl)
share_in (Some p) (Some s) shared h is = record { curve = record { in_range = in_range 0 1 s h; slopes = rises s h.upward }; second = h.second.0 }

limit_in : (q : Option Curve) → IsCurveIfAny 1000 1000 q → IfSome q IsShareLimit
limit_in None h = tt
limit_in (Some s) h =
    record { curve = record { in_range = in_range 1000 1000 s h; slopes = rises s h.upward }; first = h.first.0; second = h.second.0 }

may_build_of : (classes : List Class) → Known classes → 0 < length classes → MayBuild (hfsc_classes classes)
may_build_of classes known some = record {
  tree = class_tree_of classes known some;
  share = record {
    tree = hfsc_tree classes known;
    each = all_of hfsc_class IsShareClass classes (λ k x e.
        let own = (known.class k x e).own in
        record { share = share_in x.parent x.share own.shared own.share; limit = limit_in x.upper own.upper });
  };
  real = all_reals classes (λ k x e. real_in x.real (known.class k x e).own.real);
}
  where
    all_reals : (xs : List Class) → ((k : ℕ) (x : Class) → slice_get xs k ≡ Some x → CanCarry x.real) → All CanCarry (reals (hfsc_classes xs))
    all_reals [] each = All-nil CanCarry
    all_reals (x ∷ xs) each = All-cons CanCarry x.real (reals (hfsc_classes xs)) (each 0 x refl) (all_reals xs (λ k. each (suc k)))

-- of an interface
tree_of : (i : Interface) → IsInterface i → i.kind ≡ Hfsc → IsTree Hfsc i.classes i.filters
tree_of i h e = subst (λ (kind : Kind). IsTree kind i.classes i.filters) e h.tree

known_of : (i : Interface) → IsInterface i → i.kind ≡ Hfsc → Known i.classes
known_of i h e = record { class = (tree_of i h e).class }

pub some_classes : (i : Interface) → IsInterface i → 0 < length i.classes
some_classes i h = let d = h.tree.default in let inside = slice_get_within i.classes d.number d.class d.at in omega (arith, inside)

pub class_tree : (i : Interface) → IsInterface i → i.kind ≡ Hfsc → IsClassTree (hfsc_classes i.classes)
class_tree i h e = class_tree_of i.classes (known_of i h e) (some_classes i h)

pub may_build : (i : Interface) → IsInterface i → i.kind ≡ Hfsc → MayBuild (hfsc_classes i.classes)
may_build i h e = may_build_of i.classes (known_of i h e) (some_classes i h)
