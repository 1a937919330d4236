-- What the queues and CBQ ask of the classes of an interface.
use Rattle.std.proofs.Common.{◌≡◌, ◌≤◌, ◌<◌, ℕ, List, Option, None, Some, subst, arith}
use Rattle.std.specs.Prelude.{All, slice_get}
use Rattle.conf_tree.specs.declared.class.Class.{Class}
use Rattle.conf_tree.specs.declared.interface.Interface.{Interface}
use Rattle.conf_tree.specs.declared.interface.Kind.{Kind}
use Rattle.conf_tree.specs.declared.interface.Kind.TheVariants.{Cbq}
use Rattle.conf_laws.specs.Fit.{HasParent, IsCbqClass, IsInterface, IsTree}
use Rattle.cbq_model.specs.Tree.{no_class}
use Rattle.cbq_sharing.specs.Fresh.{HasEarlierParents, IsClass}
use Rattle.interface_policy.specs.Classes.{cbq_class, cbq_classes}
use Rattle.interface_policy.proofs.Places.{all_at, all_of, by_place}

pub limits_allowed : (i : Interface) → IsInterface i → All (λ (c : Class). (1 ≤ c.limit) × (c.limit ≤ 10000)) i.classes
limits_allowed i h = all_at (λ (c : Class). (1 ≤ c.limit) × (c.limit ≤ 10000)) i.classes (λ k c e. (h.tree.class k c e).limit)

stands_before : (kind : Kind) (classes : List Class) (c p : ℕ) (o : Option ℕ) → HasParent kind classes c o → o ≡ Some p → p < c
stands_before kind classes c p None h e = absurd cc
stands_before kind classes c p (Some q) h e = let same : q ≡ p = cc in omega (arith, h.0)

pub earlier_parents : (i : Interface) → IsInterface i → HasEarlierParents (cbq_classes i.classes)
earlier_parents i h c p =
    by_place cbq_class no_class (λ x. x.parent ≡ Some p → p < c) i.classes c (λ m e. absurd cc) (λ x e. stands_before i.kind i.classes c p x.parent (h.tree.class c x e).parent)

cbq_class_is : (c : Class) → IsCbqClass c → IsClass (cbq_class c)
cbq_class_is c h = record {
  least_rate = h.rate.0;
  most_rate = h.rate.1;
  priority = h.priority;
  some_packets = h.maxburst.0;
  few_packets = h.maxburst.1;
  some_bytes = h.packetsize.0;
  few_bytes = h.packetsize.1;
}

pub are_cbq_classes : (i : Interface) → IsInterface i → i.kind ≡ Cbq → All IsClass (cbq_classes i.classes)
are_cbq_classes i h e =
    let tree = subst (λ (kind : Kind). IsTree kind i.classes i.filters) e h.tree in
    all_of cbq_class IsClass i.classes (λ k c f. cbq_class_is c (tree.class k c f).own)
