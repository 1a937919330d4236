-- The children of a class whose nodes stand for a history.
use Rattle.std.proofs.Common.{◌≡◌, ◌≤◌, ℕ, Bool, true, false, List, [], ◌∷◌, None, Some, length, refl, ap, sym, arith, ◌∙◌}
use Rattle.std.specs.Prelude.{Option, ◌&&◌, ◌==◌, if◌then◌else◌, is_some, slice_get}
use Rattle.std.proofs.lemmas.Bool.Decides.{nat_tests}
use Rattle.ranking.specs.declared.Ranking.{Ranking}
use Rattle.ranking.specs.Order.{is_in, key_of}
use Rattle.ranking.specs.Ranking.{keys_of, order_of}
use Rattle.ranking.specs.Search.{IsRanked}
use Rattle.ranking.proofs.Ranks.{ranked_true, same_test}
use Rattle.ranking.proofs.Subsets.{IsMore, IsSubset, all_within, one_more}
use Rattle.service_curve.specs.declared.Curve.{Curve}
use Rattle.runtime_curve.specs.Deadline.{later_of}
use Rattle.hfsc_model.specs.declared.HfscClass.{HfscClass}
use Rattle.hfsc_model.specs.Event.{HfscHistory}
use Rattle.hfsc_model.specs.Tree.{class_of, is_number, is_child, is_leaf, IsTree}
use Rattle.hfsc_model.specs.Share.{active, total}
use Rattle.hfsc_model.specs.Limit.{arrivals_of, is_within}
use Rattle.hfsc_model.specs.RealTime.{has_come, IsOpenBy}
use Rattle.hfsc_laws.proofs.Tree.{same_truth, and_true, true_and, child_within}
use Rattle.hfsc_groups.specs.declared.node.Node.{Node}
use Rattle.hfsc_groups.specs.declared.group.Group.{Group}
use Rattle.hfsc_groups.specs.Curves.{limit_opens}
use Rattle.hfsc_groups.specs.Classes.{IsLimit, opens_under}
use Rattle.hfsc_groups.specs.Node.{parent_in, active_in, opens_in, is_child_in, is_active_child, NodeStands, OpensAt}
use Rattle.hfsc_groups.specs.declared.late.LimitedChildren.{LimitedChildren}
use Rattle.hfsc_groups.specs.Late.{first_key, is_late, late_keys, late_order}
use Rattle.hfsc_groups.specs.Group.{Delays, GroupHolds, Ranks, first_moment, time_key}
use Rattle.hfsc_groups.proofs.Found.{IsNode, node_of}
use Rattle.hfsc_groups.proofs.Lists.{late_ranked}
use Rattle.hfsc_groups.proofs.Opening.{leaf_opens, child_opens, opens_child, leaf_childless, active_child}
use Rattle.hfsc_groups.proofs.Moments.{within_from, later_come, later_some, limit_some, first_come_of, open_later}

-- the nodes have the tree, and those of the children of p stand for the history
pub record Stand (cs : List HfscClass) (h : HfscHistory) (last p : ℕ) (nodes : List Node) : Type 0 where
  pub count : length nodes ≡ length cs
  pub parents : (c : ℕ) → parent_in (slice_get nodes c) ≡ (class_of cs c).parent
  pub each : (c : ℕ) (x : Node) → slice_get nodes c ≡ Some x → is_child cs p c ≡ true → NodeStands cs h last c x

pub child_is : (cs : List HfscClass) (h : HfscHistory) (last p : ℕ) (nodes : List Node) (c : ℕ) → Stand cs h last p nodes → is_child_in nodes p c ≡ is_child cs p c
child_is cs h last p nodes c s = ap (is_number p) (s.parents c)

pub child_node : (cs : List HfscClass) (h : HfscHistory) (last p : ℕ) (nodes : List Node) (c : ℕ) → Stand cs h last p nodes → is_child cs p c ≡ true → IsNode nodes c
child_node cs h last p nodes c s k =
    let low = child_within cs p c k in
    let count = s.count in
    node_of nodes c (omega arith)

pub active_is_in : (cs : List HfscClass) (h : HfscHistory) (last p : ℕ) (nodes : List Node) (c : ℕ) → Stand cs h last p nodes
    → is_active_child nodes p c ≡ (is_child cs p c && active cs h c)
active_is_in cs h last p nodes c s = go (is_child cs p c) refl
  where
    go : (b : Bool) → is_child cs p c ≡ b → is_active_child nodes p c ≡ (b && active cs h c)
    go true e =
        let n = child_node cs h last p nodes c s e in
        ap (λ b. b && active_in (slice_get nodes c)) (child_is cs h last p nodes c s ∙ e)
        ∙ ap active_in n.at ∙ sym (s.each c n.node n.at e).active
    go false e = ap (λ b. b && active_in (slice_get nodes c)) (child_is cs h last p nodes c s ∙ e)

-- its first moment tells whether a child is open
pub key_opens : (cs : List HfscClass) (h : HfscHistory) (last p now : ℕ) (nodes : List Node) (r : LimitedChildren) (c : ℕ) → Stand cs h last p nodes → Delays nodes p r → last ≤ now
    → is_child cs p c ≡ true → active cs h c ≡ true → has_come (key_of (late_keys r) c) now ≡ opens_under cs h now c
key_opens cs h last p now nodes r c s ranks later k a =
    let n = child_node cs h last p nodes c s k in
    let y = s.each c n.node n.at k in
    ap (λ (o : Option ℕ). has_come o now) (ranks.keys c (active_is_in cs h last p nodes c s ∙ true_and (is_child cs p c) (active cs h c) k a) ∙ ap opens_in n.at)
    ∙ sym ((y.opens (sym y.active ∙ a)).from now later)

pub in_list : (cs : List HfscClass) (h : HfscHistory) (last p : ℕ) (nodes : List Node) (key : Option Node → Option ℕ) (r : Ranking) (c : ℕ) → Stand cs h last p nodes → Ranks nodes p key r
    → is_in c (order_of r) ≡ (is_child cs p c && active cs h c)
in_list cs h last p nodes key r c s ranks = ranks.exactly c ∙ active_is_in cs h last p nodes c s

-- where each active child stands in the list by moments, its first tells whether a class is open
listed_opens : (cs : List HfscClass) (h : HfscHistory) (last p now : ℕ) (nodes : List Node) (r : LimitedChildren) → IsTree cs → Stand cs h last p nodes → Delays nodes p r
    → ((c : ℕ) → is_in c (late_order r) ≡ (is_child cs p c && active cs h c)) → last ≤ now → active cs h p ≡ true
    → opens_under cs h now p ≡ (is_within cs h now p && has_come (first_key (late_keys r) (late_order r)) now)
listed_opens cs h last p now nodes r t s ranks listed later a = go (is_leaf cs p) refl
  where
    only : (xs : List ℕ) → late_order r ≡ xs → ((c : ℕ) → is_in c xs ≡ true → ⊥) → has_come (first_key (late_keys r) xs) now ≡ true
    only [] e n = grind (arith, nat_tests)
    only (c ∷ xs) e n = absurd (n c (rw (same_test c) refl))

    leaf_case : is_leaf cs p ≡ true → opens_under cs h now p ≡ (is_within cs h now p && has_come (first_key (late_keys r) (late_order r)) now)
    leaf_case l =
        let none : (c : ℕ) → is_in c (late_order r) ≡ true → ⊥
        = λ c i. leaf_childless cs p c l (and_true (is_child cs p c) (active cs h c) (sym (listed c) ∙ i)).0 in
        leaf_opens cs h now p t l a
        ∙ with_true (is_within cs h now p) (has_come (first_key (late_keys r) (late_order r)) now) (only (late_order r) refl none)
      where
        with_true : (b d : Bool) → d ≡ true → b ≡ (b && d)
        with_true true d e = sym e
        with_true false d e = refl

    there : is_leaf cs p ≡ false → opens_under cs h now p ≡ true → (is_within cs h now p && has_come (first_key (late_keys r) (late_order r)) now) ≡ true
    there l e =
        let x = child_opens cs h now p t l e in
        let o = x.1 in
        let i : is_in o.child (late_order r) ≡ true = listed o.child ∙ true_and (is_child cs p o.child) (active cs h o.child) o.of o.active in
        let come = key_opens cs h last p now nodes r o.child s ranks later o.of o.active ∙ o.opens in
        true_and (is_within cs h now p) (has_come (first_key (late_keys r) (late_order r)) now) x.0
        (first_come_of (late_keys r) (late_order r) o.child now (late_ranked r) i come)

    inner : (xs : List ℕ) → late_order r ≡ xs → has_come (first_key (late_keys r) xs) now ≡ true → is_leaf cs p ≡ false → is_within cs h now p ≡ true → opens_under cs h now p ≡ true
    inner [] e f l w =
        let x = active_child cs h p t l a in
        let i : is_in x.child (late_order r) ≡ true = listed x.child ∙ true_and (is_child cs p x.child) (active cs h x.child) x.of x.active in
        let no : is_in x.child (late_order r) ≡ false = ap (λ (ys : List ℕ). is_in x.child ys) e in
        absurd cc
    inner (c ∷ xs) e f l w =
        let i : is_in c (late_order r) ≡ true = ap (λ (ys : List ℕ). is_in c ys) e ∙ (let one : is_in c (c ∷ xs) ≡ true = rw (same_test c) refl in one) in
        let both = and_true (is_child cs p c) (active cs h c) (sym (listed c) ∙ i) in
        opens_child cs h now p t w (record { child = c; of = both.0; opens = sym (key_opens cs h last p now nodes r c s ranks later both.0 both.1) ∙ f; active = both.1 })

    back : is_leaf cs p ≡ false → (is_within cs h now p && has_come (first_key (late_keys r) (late_order r)) now) ≡ true → opens_under cs h now p ≡ true
    back l e =
        let both = and_true (is_within cs h now p) (has_come (first_key (late_keys r) (late_order r)) now) e in
        inner (late_order r) refl both.1 l both.0

    go : (b : Bool) → is_leaf cs p ≡ b → opens_under cs h now p ≡ (is_within cs h now p && has_come (first_key (late_keys r) (late_order r)) now)
    go true l = leaf_case l
    go false l = same_truth (opens_under cs h now p) (is_within cs h now p && has_come (first_key (late_keys r) (late_order r)) now) (there l) (back l)

-- what opens at once has come
at_once : (k : Option ℕ) (now : ℕ) → is_late k ≡ false → has_come k now ≡ true
at_once None now e = absurd cc
at_once (Some t) now e = grind (arith, nat_tests, e)

within : (cs : List HfscClass) (h : HfscHistory) (last p : ℕ) (nodes : List Node) (g : Group) → GroupHolds nodes p g → IsSubset (late_order g.moments) (order_of g.times)
within cs h last p nodes g holds d i =
    holds.times.exactly d ∙ (and_true (is_active_child nodes p d) (is_late (opens_in (slice_get nodes d))) (sym (holds.moments.exactly d) ∙ i)).0

-- where one does not, it opens at once
other_opens : (cs : List HfscClass) (h : HfscHistory) (last p now : ℕ) (nodes : List Node) (g : Group) → IsTree cs → Stand cs h last p nodes → GroupHolds nodes p g
    → IsMore (late_order g.moments) (order_of g.times) → last ≤ now → opens_under cs h now p ≡ (is_within cs h now p && true)
other_opens cs h last p now nodes g t s holds more later = go (is_leaf cs p) refl
  where
    here : is_active_child nodes p more.class ≡ true
    here = sym (holds.times.exactly more.class) ∙ more.there

    both : (is_child cs p more.class ≡ true) × (active cs h more.class ≡ true)
    both = and_true (is_child cs p more.class) (active cs h more.class) (sym (in_list cs h last p nodes time_key g.times more.class s holds.times) ∙ more.there)

    soon : is_late (opens_in (slice_get nodes more.class)) ≡ false
    soon = sym (ap (λ b. b && is_late (opens_in (slice_get nodes more.class))) here) ∙ sym (holds.moments.exactly more.class) ∙ more.absent

    come : opens_under cs h now more.class ≡ true
    come =
        sym (key_opens cs h last p now nodes g.moments more.class s holds.moments later both.0 both.1)
        ∙ ap (λ (k : Option ℕ). has_come k now) (holds.moments.keys more.class here) ∙ at_once (opens_in (slice_get nodes more.class)) now soon

    there : is_leaf cs p ≡ false → opens_under cs h now p ≡ true → (is_within cs h now p && true) ≡ true
    there l e = let x = child_opens cs h now p t l e in true_and (is_within cs h now p) true x.0 refl

    back : (is_within cs h now p && true) ≡ true → opens_under cs h now p ≡ true
    back e = opens_child cs h now p t (and_true (is_within cs h now p) true e).0 (record { child = more.class; of = both.0; opens = come; active = both.1 })

    go : (b : Bool) → is_leaf cs p ≡ b → opens_under cs h now p ≡ (is_within cs h now p && true)
    go true l = absurd (leaf_childless cs p more.class l both.0)
    go false l = same_truth (opens_under cs h now p) (is_within cs h now p && true) (there l) back

first_opens : (cs : List HfscClass) (h : HfscHistory) (last p now : ℕ) (nodes : List Node) (g : Group) → IsTree cs → Stand cs h last p nodes → GroupHolds nodes p g
    → last ≤ now → active cs h p ≡ true → opens_under cs h now p ≡ (is_within cs h now p && has_come (first_moment g) now)
first_opens cs h last p now nodes g t s holds later a = go (length (late_order g.moments) == length (order_of g.times)) refl
  where
    by_moments : IsRanked (late_keys g.moments) (late_order g.moments)
    by_moments = late_ranked g.moments

    by_times : IsRanked (keys_of g.times) (order_of g.times)
    by_times = ranked_true (keys_of g.times) (order_of g.times) g.times.ranked

    inside : IsSubset (late_order g.moments) (order_of g.times)
    inside = within cs h last p nodes g holds

    listed : length (late_order g.moments) ≡ length (order_of g.times) → (c : ℕ) → is_in c (late_order g.moments) ≡ (is_child cs p c && active cs h c)
    listed e c =
        same_truth (is_in c (late_order g.moments)) (is_in c (order_of g.times)) (inside c)
        (all_within (late_keys g.moments) (keys_of g.times) (late_order g.moments) (order_of g.times) by_moments by_times inside e c)
        ∙ in_list cs h last p nodes time_key g.times c s holds.times

    go : (b : Bool) → (length (late_order g.moments) == length (order_of g.times)) ≡ b
        → opens_under cs h now p ≡ (is_within cs h now p && has_come (if b then first_key (late_keys g.moments) (late_order g.moments) else Some 0) now)
    go true e = listed_opens cs h last p now nodes g.moments t s holds.moments (listed (grind (arith, nat_tests, e))) later a
    go false e =
        other_opens cs h last p now nodes g t s holds
        (one_more (late_keys g.moments) (keys_of g.times) (late_order g.moments) (order_of g.times) by_moments by_times inside (λ f. grind (arith, nat_tests, e, f))) later
        ∙ ap (λ b. is_within cs h now p && b) (sym (at_once (Some 0) now refl))

-- so a class opens with the later of its limit's moment and the first below it
first_some : (cs : List HfscClass) (h : HfscHistory) (last p : ℕ) (nodes : List Node) (g : Group) → Stand cs h last p nodes → GroupHolds nodes p g → is_some (first_moment g) ≡ true
first_some cs h last p nodes g s holds = go (length (late_order g.moments) == length (order_of g.times))
  where
    listed : (xs : List ℕ) → late_order g.moments ≡ xs → is_some (first_key (late_keys g.moments) xs) ≡ true
    listed [] e = refl
    listed (c ∷ xs) e =
        let i : is_in c (late_order g.moments) ≡ true = ap (λ (ys : List ℕ). is_in c ys) e ∙ (let one : is_in c (c ∷ xs) ≡ true = rw (same_test c) refl in one) in
        let here : is_active_child nodes p c ≡ true = (and_true (is_active_child nodes p c) (is_late (opens_in (slice_get nodes c))) (sym (holds.moments.exactly c) ∙ i)).0 in
        let both = and_true (is_child cs p c) (active cs h c) (sym (active_is_in cs h last p nodes c s) ∙ here) in
        let n = child_node cs h last p nodes c s both.0 in
        let y = s.each c n.node n.at both.0 in
        ap is_some (holds.moments.keys c here ∙ ap opens_in n.at) ∙ (y.opens (sym y.active ∙ both.1)).some

    go : (b : Bool) → is_some (if b then first_key (late_keys g.moments) (late_order g.moments) else Some 0) ≡ true
    go true = listed (late_order g.moments) refl
    go false = refl

pub opens_at : (cs : List HfscClass) (h : HfscHistory) (last p : ℕ) (nodes : List Node) (g : Group) → IsTree cs → ((s : Curve) → (class_of cs p).limit ≡ Some s → IsLimit s)
    → IsOpenBy (arrivals_of cs h p) last → Stand cs h last p nodes → GroupHolds nodes p g → active cs h p ≡ true
    → OpensAt cs h last p (later_of (limit_opens (class_of cs p).limit (arrivals_of cs h p) (total cs h p)) (first_moment g))
opens_at cs h last p nodes g t l by s holds a = record {
  some = later_some (limit_opens (class_of cs p).limit (arrivals_of cs h p) (total cs h p)) (first_moment g)
      (limit_some (class_of cs p).limit (arrivals_of cs h p) (total cs h p) l) (first_some cs h last p nodes g s holds);
  from = λ now later.
      first_opens cs h last p now nodes g t s holds later a
      ∙ ap (λ b. b && has_come (first_moment g) now) (within_from (class_of cs p).limit (arrivals_of cs h p) now (total cs h p) l (open_later (arrivals_of cs h p) last now by later))
      ∙ sym (later_come (limit_opens (class_of cs p).limit (arrivals_of cs h p) (total cs h p)) (first_moment g) now);
}
