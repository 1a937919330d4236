-- What both choices hold of a leaf.
use Rattle.std.proofs.Common.{◌≡◌, ◌≤◌, ◌<◌, ◌⊎◌, inl, inr, ℕ, zero, suc, Bool, true, false, List, [], ◌∷◌, None, Some, length, refl, ap, sym, subst, arith, ◌∙◌, get_or}
use Rattle.std.specs.Prelude.{Option, ◌&&◌, not, nat_lt, slice_get}
use Rattle.std.proofs.lemmas.Bool.{cases_eq}
use Rattle.std.proofs.lemmas.Option.{slice_get-get_or}
use Rattle.service_curve.specs.declared.Curve.{Curve}
use Rattle.runtime_curve.specs.declared.Opening.{Opening}
use Rattle.runtime_curve.specs.declared.Running.{Running}
use Rattle.runtime_curve.specs.Opening.{newest}
use Rattle.ranking.proofs.Ranks.{same_test}
use Rattle.hfsc_model.specs.declared.HfscClass.{HfscClass}
use Rattle.hfsc_model.specs.Event.{HfscHistory}
use Rattle.hfsc_model.specs.Leaf.{Waiting, leaf, head_len, is_waiting}
use Rattle.hfsc_model.specs.RealTime.{curve_of, IsOpenBy, AreOpenBy}
use Rattle.hfsc_model.specs.Share.{waits_under, active}
use Rattle.hfsc_model.specs.Tree.{no_class, class_of, is_number, is_child, is_leaf, is_parent, is_under, IsTree}
use Rattle.hfsc_laws.proofs.Tree.{same_truth, and_true, IsAny, any_is, is_any, child_within, under_self, below_is}
use Rattle.hfsc_policy.proofs.Offers.{leaf_below, above_active}
use Rattle.hfsc_eligible.specs.declared.Eligible.{Eligible}
use Rattle.hfsc_eligible.specs.declared.slot.Slot.{Slot}
use Rattle.hfsc_eligible.specs.Real.{last_in, RealStands}
use Rattle.hfsc_eligible.specs.Slot.{SlotStands}
use Rattle.hfsc_eligible.specs.Eligible.{Represents as HoldsReal, head_at, head_in, opening_at, opening_in}
use Rattle.hfsc_eligible.proofs.Lists.{no_slot}
use Rattle.hfsc_groups.specs.declared.node.Node.{Node}
use Rattle.hfsc_groups.specs.Node.{parent_in, active_in}
use Rattle.hfsc_share.specs.declared.Shares.{Shares}
use Rattle.hfsc_share.specs.Shares.{Represents as HoldsShare, parent_at, is_active_at}

-- no class has a leaf as its parent
beyond : (cs : List HfscClass) (c : ℕ) → length cs ≤ c → class_of cs c ≡ no_class
beyond [] c h = refl
beyond (k ∷ ks) zero h = absurd (omega arith)
beyond (k ∷ ks) (suc c) h = beyond ks c (omega arith)

none_there : {X : Type 0} (xs : List X) (c : ℕ) → slice_get xs c ≡ None → length xs ≤ c
none_there [] c e = omega arith
none_there (x ∷ xs) zero e = absurd cc
none_there (x ∷ xs) (suc c) e = let rest = none_there xs c e in omega (arith, rest)

pub some_there : {X : Type 0} (xs : List X) (c : ℕ) → c < length xs → (x : X) × (slice_get xs c ≡ Some x)
some_there [] c h = absurd (omega arith)
some_there (x ∷ xs) zero h = (x, refl)
some_there (x ∷ xs) (suc c) h = some_there xs c (omega arith)

parent_is : (s : Shares) (cs : List HfscClass) (h : HfscHistory) (d : ℕ) → HoldsShare s cs h → parent_at s d ≡ (class_of cs d).parent
parent_is s cs h d x = go (slice_get s.nodes.items d) refl
  where
    go : (o : Option Node) → slice_get s.nodes.items d ≡ o → parent_in o ≡ (class_of cs d).parent
    go None e =
        let far = none_there s.nodes.items d e in
        let count = x.count in
        sym (ap (λ (k : HfscClass). k.parent) (beyond cs d (omega (arith, far, count))))
    go (Some n) e = (x.each d n e).parent

leaf_no_parent : (cs : List HfscClass) (c e : ℕ) → is_leaf cs c ≡ true → is_child cs c e ≡ true → ⊥
leaf_no_parent cs c e l k =
    let low = child_within cs c e k in
    clash (is_parent cs c) (is_any (is_child cs c) 0 (length cs) e (omega arith) (omega arith) k) (and_true (nat_lt c (length cs)) (not (is_parent cs c)) l).1
  where
    clash : (b : Bool) → b ≡ true → not b ≡ true → ⊥
    clash true f g = cc
    clash false f g = cc

pub no_child : (s : Shares) (cs : List HfscClass) (h : HfscHistory) (c : ℕ) → HoldsShare s cs h → is_leaf cs c ≡ true → (d : ℕ) → parent_at s d ≡ Some c → ⊥
no_child s cs h c x l d e =
    let same = ap (is_number c) (sym (parent_is s cs h d x) ∙ e) in
    leaf_no_parent cs c d l (same ∙ same_test c)

-- a leaf is active where a packet waits in it
pub active_leaf : (cs : List HfscClass) (h : HfscHistory) (c : ℕ) → IsTree cs → is_leaf cs c ≡ true → active cs h c ≡ is_waiting (leaf h c).waiting
active_leaf cs h c t l = same_truth (active cs h c) (is_waiting (leaf h c).waiting) there (λ w. above_active cs h c c l w (under_self cs c))
  where
    there : active cs h c ≡ true → is_waiting (leaf h c).waiting ≡ true
    there a = go (cases_eq x.one c)
      where
        x : IsAny (waits_under cs h c) 0 (length cs)
        x = any_is (waits_under cs h c) 0 (length cs) a

        both : (is_under cs c x.one ≡ true) × (is_waiting (leaf h x.one).waiting ≡ true)
        both =
            let one = and_true (is_leaf cs x.one) (is_under cs c x.one && is_waiting (leaf h x.one).waiting) x.passes in
            and_true (is_under cs c x.one) (is_waiting (leaf h x.one).waiting) one.1

        go : (x.one ≡ c) ⊎ (x.one ≡ c → ⊥) → is_waiting (leaf h c).waiting ≡ true
        go (inl e) = subst (λ n. is_waiting (leaf h n).waiting ≡ true) e both.1
        go (inr n) = let b = below_is cs c x.one t both.0 n in absurd (leaf_no_parent cs c b.child l b.of)

pub active_is : (s : Shares) (cs : List HfscClass) (h : HfscHistory) (c : ℕ) → IsTree cs → HoldsShare s cs h → is_leaf cs c ≡ true
    → is_active_at s c ≡ is_waiting (leaf h c).waiting
active_is s cs h c t x l =
    let low = leaf_below cs c l in
    let count = x.count in
    let n = some_there s.nodes.items c (omega (arith, low, count)) in
    ap active_in n.1 ∙ sym (x.each c n.0 n.1).active ∙ active_leaf cs h c t l

-- the head and the last opening that are held
slot_there : (e : Eligible) (curves : List (Option Curve)) (h : HfscHistory) (c : ℕ) → HoldsReal e curves h → c < length curves
    → (x : Slot) × (slice_get e.slots.items c ≡ Some x) × SlotStands x (curve_of curves c) (leaf h c)
slot_there e curves h c y low =
    let count = y.classes in
    let k : c < length e.slots.items = omega (arith, low, count) in
    let d = no_slot e.slots.items c k in
    (get_or e.slots.items c d, slice_get-get_or e.slots.items c d k, y.each c d k)

pub head_is : (e : Eligible) (curves : List (Option Curve)) (h : HfscHistory) (c : ℕ) → HoldsReal e curves h → c < length curves → head_at e c ≡ head_len (leaf h c).waiting
head_is e curves h c y low = let x = slot_there e curves h c y low in ap head_in x.1 ∙ x.2.head

newest_by : (os : List Opening) (t : ℕ) (o : Opening) → IsOpenBy os t → newest os ≡ Some o → o.at ≤ t
newest_by [] t o b e = absurd cc
newest_by (p ∷ os) t o b e = let same : p ≡ o = cc in subst (λ (z : Opening). z.at ≤ t) same b.0

last_by : (r : Option Running) (s : Option Curve) (os : List Opening) (t : ℕ) (o : Opening) → RealStands r s os → IsOpenBy os t → last_in r ≡ Some o → o.at ≤ t
last_by None s os t o x b e = absurd cc
last_by (Some r) None os t o x b e = absurd x
last_by (Some r) (Some s) os t o x b e = newest_by os t o b (sym x.last ∙ e)

pub opening_by : (e : Eligible) (curves : List (Option Curve)) (h : HfscHistory) (c t : ℕ) (o : Opening) → HoldsReal e curves h → c < length curves → AreOpenBy h t
    → opening_at e c ≡ Some o → o.at ≤ t
opening_by e curves h c t o y low b f =
    let x = slot_there e curves h c y low in
    last_by x.0.real (curve_of curves c) (leaf h c).openings t o x.2.real (b c) (sym (ap opening_in x.1) ∙ f)

pub none_waits : (ws : List Waiting) → is_waiting ws ≡ false → head_len ws ≡ None
none_waits [] e = refl
none_waits (w ∷ ws) e = absurd cc
