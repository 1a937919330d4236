-- A walk up to the root, one class after another.
use Rattle.std.proofs.Common.{◌≡◌, ◌<◌, ◌⊎◌, inl, inr, ℕ, Bool, true, false, List, None, Some, length, refl, ap, sym, subst, arith, ◌∙◌}
use Rattle.std.specs.Prelude.{Option, slice_get, slice_set}
use Rattle.std.proofs.lemmas.List.{length-set}
use Rattle.ranking.proofs.Ranks.{same_test}
use Rattle.hfsc_model.specs.declared.HfscClass.{HfscClass}
use Rattle.hfsc_model.specs.Event.{HfscHistory}
use Rattle.hfsc_model.specs.Tree.{class_of, is_child, is_number, is_under, IsTree}
use Rattle.hfsc_laws.proofs.Tree.{under_self, parent_of}
use Rattle.hfsc_groups.specs.declared.node.Node.{Node}
use Rattle.hfsc_groups.specs.Node.{parent_in, NodeStands}
use Rattle.hfsc_groups.proofs.Places.{get_here, get_other}
use Rattle.hfsc_groups.proofs.Held.{split}
use Rattle.hfsc_groups.proofs.Under.{under_low, under_trans, in_line, parent_over, same_or_up, IsUp}
use Rattle.hfsc_groups.proofs.Found.{outside_parent}
use Rattle.hfsc_groups.proofs.Children.{Stand}
use Rattle.hfsc_share.specs.Walk.{Walks, is_over}
use Rattle.hfsc_share.proofs.Off.{AllOff, off_back, off_stands}

-- the nodes have the tree
pub walks_parents : (cs : List HfscClass) (h g : HfscHistory) (last leaf : ℕ) (next : Option ℕ) (nodes : List Node) → Walks cs h g last leaf next nodes
    → (c : ℕ) → parent_in (slice_get nodes c) ≡ (class_of cs c).parent
walks_parents cs h g last leaf next nodes w c = go (slice_get nodes c) (is_over cs next c) refl refl
  where
    go : (o : Option Node) (b : Bool) → slice_get nodes c ≡ o → is_over cs next c ≡ b → parent_in o ≡ (class_of cs c).parent
    go None b e f = outside_parent nodes cs c w.count e
    go (Some x) true e f = (w.before c x e f).parent
    go (Some x) false e f = (w.after c x e f).parent

-- no class stands over its parent, and a child stands over none of those above
pub child_not_over : (cs : List HfscClass) (c e : ℕ) → IsTree cs → is_child cs c e ≡ true → is_under cs e c ≡ false
child_not_over cs c e t k = go (is_under cs e c) refl
  where
    go : (b : Bool) → is_under cs e c ≡ b → b ≡ false
    go true u =
        let low = under_low cs e c t u in
        let high = t.earlier e c (parent_of cs c e k) in
        absurd (omega arith)
    go false u = refl

-- of two children of a class neither stands over the other
pub sibling_not_over : (cs : List HfscClass) (p c d : ℕ) → IsTree cs → (class_of cs c).parent ≡ Some p → is_child cs p d ≡ true → (d ≡ c → ⊥) → is_under cs d c ≡ false
sibling_not_over cs p c d t of k n = go (is_under cs d c) refl
  where
    number : (a b : ℕ) → Some a ≡ Some b → a ≡ b
    number a b e = cc

    up : (c ≡ d) ⊎ IsUp cs d c → ⊥
    up (inl s) = n (sym s)
    up (inr x) =
        let same = number x.parent p (sym x.of ∙ of) in
        let low = under_low cs d x.parent t x.under in
        let high = t.earlier d p (parent_of cs p d k) in
        omega arith

    go : (b : Bool) → is_under cs d c ≡ b → b ≡ false
    go true u = absurd (up (same_or_up cs d c t u))
    go false u = refl

-- the children of the class that is taken in stand for the longer history
pub walks_children : (cs : List HfscClass) (h g : HfscHistory) (last leaf c : ℕ) (nodes : List Node) → Walks cs h g last leaf (Some c) nodes → Stand cs g last c nodes
walks_children cs h g last leaf c nodes w = record {
  count = w.count;
  parents = walks_parents cs h g last leaf (Some c) nodes w;
  each = λ e x at k. w.after e x at (child_not_over cs c e w.classes.tree k);
}

-- and the children of its parent for the shorter one
pub walks_siblings : (cs : List HfscClass) (h g : HfscHistory) (last leaf c p : ℕ) (nodes : List Node) → Walks cs h g last leaf (Some c) nodes → AllOff cs h g leaf
    → (class_of cs c).parent ≡ Some p → Stand cs h last p nodes
walks_siblings cs h g last leaf c p nodes w off of = record {
  count = w.count;
  parents = walks_parents cs h g last leaf (Some c) nodes w;
  each = λ d. split (λ e. (x : Node) → slice_get nodes e ≡ Some x → is_child cs p e ≡ true → NodeStands cs h last e x) c d
      (λ x at k. w.before c x at (under_self cs c))
      (λ n x at k. back d x k n (w.after d x at (sibling_not_over cs p c d w.classes.tree of k n)));
}
  where
    apart : (d : ℕ) → is_child cs p d ≡ true → (d ≡ c → ⊥) → is_under cs d leaf ≡ false
    apart d k n = go (is_under cs d leaf) refl
      where
        line : (is_under cs d c ≡ true) ⊎ (is_under cs c d ≡ true) → ⊥
        line (inl u) = let no = sibling_not_over cs p c d w.classes.tree of k n in cc
        line (inr u) = let no = sibling_not_over cs p d c w.classes.tree (parent_of cs p d k) (is_child_of c p of) (λ s. n (sym s)) in cc
          where
            is_child_of : (e q : ℕ) → (class_of cs e).parent ≡ Some q → is_child cs q e ≡ true
            is_child_of e q f = ap (is_number q) f ∙ same_test q

        go : (b : Bool) → is_under cs d leaf ≡ b → b ≡ false
        go true u = absurd (line (in_line cs d c leaf w.classes.tree u (w.on_path c refl)))
        go false u = refl

    back : (d : ℕ) (x : Node) → is_child cs p d ≡ true → (d ≡ c → ⊥) → NodeStands cs g last d x → NodeStands cs h last d x
    back d x k n s = off_stands cs g h last leaf d x w.classes.tree (λ e f. off_back cs h g e (off e f)) (apart d k n) s

-- one class is taken in
pub walked : (cs : List HfscClass) (h g : HfscHistory) (last leaf c : ℕ) (nodes : List Node) (z : Node) (next : Option ℕ) → Walks cs h g last leaf (Some c) nodes → c < length nodes
    → NodeStands cs g last c z → (class_of cs c).parent ≡ next → Walks cs h g last leaf next (slice_set nodes c z)
walked cs h g last leaf c nodes z next w low s of = record {
  classes = w.classes;
  count = length-set nodes c z ∙ w.count;
  small = w.small;
  arrivals = w.arrivals;
  on_path = λ p e. under_trans cs p c leaf w.classes.tree (parent_over cs p c p w.classes.tree (of ∙ e) (under_self cs p)) (w.on_path c refl);
  before = before next of;
  after = after next of;
}
  where
    same_node : (a b : Node) → Some a ≡ Some b → a ≡ b
    same_node a b e = cc

    before : (o : Option ℕ) → (class_of cs c).parent ≡ o → (d : ℕ) (x : Node) → slice_get (slice_set nodes c z) d ≡ Some x → is_over cs o d ≡ true → NodeStands cs h last d x
    before None f d x at u = absurd cc
    before (Some p) f d x at u =
        let low = under_low cs d p w.classes.tree u in
        let high = w.classes.tree.earlier c p f in
        w.before d x (sym (get_other nodes c d z (λ e. omega arith)) ∙ at) (parent_over cs d c p w.classes.tree f u)

    not_over : (o : Option ℕ) → (class_of cs c).parent ≡ o → (d : ℕ) → (d ≡ c → ⊥) → is_over cs o d ≡ false → is_under cs d c ≡ false
    not_over o f d n u = go (is_under cs d c) refl
      where
        number : (a b : ℕ) → Some a ≡ Some b → a ≡ b
        number a b e = cc

        up : (q : Option ℕ) → (class_of cs c).parent ≡ q → is_over cs q d ≡ false → (c ≡ d) ⊎ IsUp cs d c → ⊥
        up q k v (inl e) = n (sym e)
        up None k v (inr x) = let no : None ≡ Some x.parent = sym k ∙ x.of in cc
        up (Some q) k v (inr x) =
            let same = number x.parent q (sym x.of ∙ k) in
            let yes : is_under cs d q ≡ true = subst (λ m. is_under cs d m ≡ true) same x.under in
            cc

        go : (b : Bool) → is_under cs d c ≡ b → b ≡ false
        go true v = absurd (up o f u (same_or_up cs d c w.classes.tree v))
        go false v = refl

    after : (o : Option ℕ) → (class_of cs c).parent ≡ o → (d : ℕ) (x : Node) → slice_get (slice_set nodes c z) d ≡ Some x → is_over cs o d ≡ false → NodeStands cs g last d x
    after o f d = split (λ e. (x : Node) → slice_get (slice_set nodes c z) e ≡ Some x → is_over cs o e ≡ false → NodeStands cs g last e x) c d
        (λ x at u. subst (λ (y : Node). NodeStands cs g last c y) (same_node z x (sym (get_here nodes c z low) ∙ at)) s)
        (λ n x at u. w.after d x (sym (get_other nodes c d z n) ∙ at) (not_over o f d n u))
