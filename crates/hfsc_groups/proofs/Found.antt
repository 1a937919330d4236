-- What is held of a class of a tree is there.
use Rattle.std.proofs.Common.{◌≡◌, ◌≤◌, ◌<◌, ◌⊎◌, inl, inr, ℕ, zero, suc, List, [], ◌∷◌, None, Some, length, refl, sym, subst, arith, get_or}
use Rattle.std.specs.Prelude.{Option, All, IfSome, slice_get}
use Rattle.std.proofs.lemmas.Bool.{cases_lt}
use Rattle.std.proofs.lemmas.Option.{slice_get-get_or}
use Rattle.service_curve.specs.declared.Curve.{Curve}
use Rattle.hfsc_model.specs.declared.HfscClass.{HfscClass}
use Rattle.hfsc_model.specs.Tree.{class_of, no_class}
use Rattle.hfsc_groups.specs.declared.node.Node.{Node}
use Rattle.hfsc_groups.specs.declared.group.Group.{Group}
use Rattle.hfsc_groups.specs.Classes.{AreClasses, IsClass, IsLimit}

pub missing : {X : Type 0} (xs : List X) (i : ℕ) → i < length xs → slice_get xs i ≡ None → ⊥
missing {X} [] i h e = absurd (omega arith)
missing {X} (x ∷ xs) i h e = let one = slice_get-get_or (x ∷ xs) i x h in absurd cc

-- a class has a node
pub record IsNode (nodes : List Node) (c : ℕ) : Type 0 where
  pub node : Node
  pub at : slice_get nodes c ≡ Some node

pub node_of : (nodes : List Node) (c : ℕ) → c < length nodes → IsNode nodes c
node_of nodes c h = go (slice_get nodes c) refl
  where
    go : (o : Option Node) → slice_get nodes c ≡ o → IsNode nodes c
    go (Some x) e = record { node = x; at = e }
    go None e = absurd (missing nodes c h e)

-- a group is where its class is
pub record IsGroup (groups : List Group) (c : ℕ) : Type 0 where
  pub group : Group
  pub at : slice_get groups c ≡ Some group

pub group_of : (groups : List Group) (c : ℕ) → c < length groups → IsGroup groups c
group_of groups c h = go (slice_get groups c) refl
  where
    go : (o : Option Group) → slice_get groups c ≡ o → IsGroup groups c
    go None e = absurd (missing groups c h e)
    go (Some g) e = record { group = g; at = e }

-- beyond the nodes there is no class
beyond : (cs : List HfscClass) (c : ℕ) → length cs ≤ c → (class_of cs c).parent ≡ None
beyond [] c h = refl
beyond (k ∷ ks) zero h = absurd (omega arith)
beyond (k ∷ ks) (suc c) h = beyond ks c (omega arith)

pub outside_parent : (nodes : List Node) (cs : List HfscClass) (c : ℕ) → length nodes ≡ length cs → slice_get nodes c ≡ None → None ≡ (class_of cs c).parent
outside_parent nodes cs c count e = go (cases_lt c (length nodes))
  where
    go : (c < length nodes) ⊎ (length nodes ≤ c) → None ≡ (class_of cs c).parent
    go (inl k) = absurd (missing nodes c k e)
    go (inr k) = sym (beyond cs c (omega arith))

-- what holds of all classes holds of a class by its number
class_in : (ks : List HfscClass) (c : ℕ) → All IsClass ks → IsClass (get_or ks c no_class)
class_in ks c all = go (cases_lt c (length ks))
  where
    past : (xs : List HfscClass) (k : ℕ) → length xs ≤ k → get_or xs k no_class ≡ no_class
    past [] k h = refl
    past (x ∷ xs) zero h = absurd (omega arith)
    past (x ∷ xs) (suc k) h = past xs k (omega arith)

    nothing : IsClass no_class
    nothing = record { share = λ e. absurd cc; limit = tt }

    go : (c < length ks) ⊎ (length ks ≤ c) → IsClass (get_or ks c no_class)
    go (inl h) = all c no_class h
    go (inr h) = subst (λ (k : HfscClass). IsClass k) (sym (past ks c h)) nothing

pub class_is : (cs : List HfscClass) (c : ℕ) → AreClasses cs → IsClass (class_of cs c)
class_is cs c a = class_in cs c a.each

pub limit_is : (cs : List HfscClass) (c : ℕ) → AreClasses cs → (s : Curve) → (class_of cs c).limit ≡ Some s → IsLimit s
limit_is cs c a s e = subst (λ (o : Option Curve). IfSome o IsLimit) e (class_is cs c a).limit
