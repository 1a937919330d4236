-- Activity and virtual times.
use Rattle.std.proofs.Common.{◌≡◌, ◌≤◌, ◌<◌, ◌⊎◌, inl, inr, ℕ, Bool, true, false, List, [], ◌∷◌, ◌++◌, None, Some, length, refl, ap, sym, arith, ◌∙◌}
use Rattle.std.specs.Prelude.{Option, ◌==◌, ◌&&◌, ◌||◌, nat_le, nat_lt, not, if◌then◌else◌}
use Rattle.std.specs.List.{list_any}
use Rattle.std.proofs.lemmas.Bool.Decides.{nat_tests}
use Rattle.service_curve.specs.declared.Curve.{Curve}
use Rattle.runtime_curve.specs.declared.Opening.{Opening}
use Rattle.runtime_curve.specs.Opening.{opening}
use Rattle.runtime_curve.specs.Deadline.{deadline, later_of, reached_at}
use Rattle.hfsc_model.specs.declared.HfscClass.{HfscClass}
use Rattle.hfsc_model.specs.Event.{HfscHistory, Enqueued}
use Rattle.hfsc_model.specs.Leaf.{Waiting, leaf, is_waiting, after_kept}
use Rattle.hfsc_model.specs.Tree.{class_of, numbers, is_child, is_leaf, is_parent, is_under, IsTree}
use Rattle.hfsc_model.specs.Share.{waits_under, active, total, activates, or_zero, reach, virtual_time_of, activation, activation_time, has_parent, activations, virtual_time}
use Rattle.hfsc_laws.proofs.Tree.{same_truth, and_true, true_and, IsAny, any_is, is_any, child_within, below_is, under_is}

-- a class is active exactly where it is a leaf in which a packet waits, or where a child of it is active
leaf_below : (cs : List HfscClass) (c e : ℕ) → is_child cs c e ≡ true → is_leaf cs c ≡ true → ⊥
leaf_below cs c e k l =
    let low = child_within cs c e k in
    let yes : is_parent cs c ≡ true = is_any (is_child cs c) 0 (length cs) e (omega arith) (omega arith) k in
    let no = (and_true (nat_lt c (length cs)) (not (is_parent cs c)) l).1 in
    clash (is_parent cs c) yes no
  where
    clash : (b : Bool) → b ≡ true → not b ≡ true → ⊥
    clash true e f = cc
    clash false e f = cc

child_active : (cs : List HfscClass) (h : HfscHistory) (c e : ℕ) → IsTree cs → is_child cs c e ≡ true → active cs h e ≡ true → active cs h c ≡ true
child_active cs h c e t k a =
    let x = any_is (waits_under cs h e) 0 (length cs) a in
    let one = and_true (is_leaf cs x.one) (is_under cs e x.one && is_waiting (leaf h x.one).waiting) x.passes in
    let two = and_true (is_under cs e x.one) (is_waiting (leaf h x.one).waiting) one.1 in
    is_any (waits_under cs h c) 0 (length cs) x.one x.from x.to
    (true_and (is_leaf cs x.one) (is_under cs c x.one && is_waiting (leaf h x.one).waiting) one.0
    (true_and (is_under cs c x.one) (is_waiting (leaf h x.one).waiting) (under_is cs c e x.one t k two.0) two.1))

active_child : (cs : List HfscClass) (h : HfscHistory) (c : ℕ) → IsTree cs → is_leaf cs c ≡ false → active cs h c ≡ true
    → list_any (λ e. is_child cs c e && active cs h e) (numbers cs) ≡ true
active_child cs h c t l a =
    let x = any_is (waits_under cs h c) 0 (length cs) a in
    let one = and_true (is_leaf cs x.one) (is_under cs c x.one && is_waiting (leaf h x.one).waiting) x.passes in
    let two = and_true (is_under cs c x.one) (is_waiting (leaf h x.one).waiting) one.1 in
    let other : x.one ≡ c → ⊥ = λ s. differs (is_leaf cs x.one) (is_leaf cs c) (ap (is_leaf cs) s) one.0 l in
    let b = below_is cs c x.one t two.0 other in
    let child = is_any (waits_under cs h b.child) 0 (length cs) x.one x.from x.to
    (true_and (is_leaf cs x.one) (is_under cs b.child x.one && is_waiting (leaf h x.one).waiting) one.0
    (true_and (is_under cs b.child x.one) (is_waiting (leaf h x.one).waiting) b.under two.1)) in
    let low = child_within cs c b.child b.of in
    is_any (λ e. is_child cs c e && active cs h e) 0 (length cs) b.child (omega arith) (omega arith)
    (true_and (is_child cs c b.child) (active cs h b.child) b.of child)
  where
    differs : (a b : Bool) → a ≡ b → a ≡ true → b ≡ false → ⊥
    differs a b e f g = cc

pub active_by_children : (cs : List HfscClass) (h : HfscHistory) (c : ℕ) → IsTree cs → is_leaf cs c ≡ false
    → active cs h c ≡ list_any (λ e. is_child cs c e && active cs h e) (numbers cs)
active_by_children cs h c t l =
    same_truth (active cs h c) (list_any (λ e. is_child cs c e && active cs h e) (numbers cs))
    (active_child cs h c t l)
    (λ e. let x = any_is (λ d. is_child cs c d && active cs h d) 0 (length cs) e in
    let both = and_true (is_child cs c x.one) (active cs h x.one) x.passes in
    child_active cs h c x.one t both.0 both.1)

-- a packet that is kept makes its leaf and all above it active, and no other class
waits_push : (ws : List Waiting) (w : Waiting) → is_waiting (ws ++ w ∷ []) ≡ true
waits_push [] w = refl
waits_push (x ∷ xs) w = refl

kept_waits : (cs : List HfscClass) (h : HfscHistory) (l at len c d : ℕ)
    → waits_under cs (Enqueued l at len ∷ h) c d ≡ (waits_under cs h c d || ((l == d) && (is_leaf cs l && is_under cs c l)))
kept_waits cs h l at len c d = go (l == d) refl
  where
    table : (a b w : Bool) → (a && (b && true)) ≡ ((a && (b && w)) || (a && b))
    table true true true = refl
    table true true false = refl
    table true false w = refl
    table false b w = refl

    plain : (a : Bool) → a ≡ (a || false)
    plain true = refl
    plain false = refl

    go : (v : Bool) → (l == d) ≡ v
        → (is_leaf cs d && (is_under cs c d && is_waiting (if v then after_kept at len (leaf h d) else leaf h d).waiting))
        ≡ (waits_under cs h c d || (v && (is_leaf cs l && is_under cs c l)))
    go true e =
        let same : l ≡ d = grind (arith, nat_tests, e) in
        ap (λ x. is_leaf cs d && (is_under cs c d && x)) (waits_push (leaf h d).waiting (record { at = at; len = len }))
        ∙ table (is_leaf cs d) (is_under cs c d) (is_waiting (leaf h d).waiting)
        ∙ ap (λ m. waits_under cs h c d || (is_leaf cs m && is_under cs c m)) (sym same)
    go false e = plain (waits_under cs h c d)

or_true : (a b : Bool) → (a || b) ≡ true → (a ≡ true) ⊎ (b ≡ true)
or_true true b e = inl refl
or_true false b e = inr e

either_true : (a b : Bool) → (a ≡ true) ⊎ (b ≡ true) → (a || b) ≡ true
either_true true b x = refl
either_true false b (inl e) = absurd cc
either_true false b (inr e) = e

pub active_kept : (cs : List HfscClass) (h : HfscHistory) (l at len c : ℕ)
    → active cs (Enqueued l at len ∷ h) c ≡ (active cs h c || (is_leaf cs l && is_under cs c l))
active_kept cs h l at len c =
    same_truth (active cs (Enqueued l at len ∷ h) c) (active cs h c || (is_leaf cs l && is_under cs c l)) there back
  where
    there : active cs (Enqueued l at len ∷ h) c ≡ true → (active cs h c || (is_leaf cs l && is_under cs c l)) ≡ true
    there e = either_true (active cs h c) (is_leaf cs l && is_under cs c l) (which (or_true (waits_under cs h c x.one) ((l == x.one) && (is_leaf cs l && is_under cs c l)) (sym (kept_waits cs h l at len c x.one) ∙ x.passes)))
      where
        x : IsAny (waits_under cs (Enqueued l at len ∷ h) c) 0 (length cs)
        x = any_is (waits_under cs (Enqueued l at len ∷ h) c) 0 (length cs) e

        which : (waits_under cs h c x.one ≡ true) ⊎ (((l == x.one) && (is_leaf cs l && is_under cs c l)) ≡ true) → (active cs h c ≡ true) ⊎ ((is_leaf cs l && is_under cs c l) ≡ true)
        which (inl f) = inl (is_any (waits_under cs h c) 0 (length cs) x.one x.from x.to f)
        which (inr f) = inr (and_true (l == x.one) (is_leaf cs l && is_under cs c l) f).1

    here : (l == l) ≡ true
    here = grind (arith, nat_tests)

    back : (active cs h c || (is_leaf cs l && is_under cs c l)) ≡ true → active cs (Enqueued l at len ∷ h) c ≡ true
    back e = which (or_true (active cs h c) (is_leaf cs l && is_under cs c l) e)
      where
        which : (active cs h c ≡ true) ⊎ ((is_leaf cs l && is_under cs c l) ≡ true) → active cs (Enqueued l at len ∷ h) c ≡ true
        which (inl f) =
            let x = any_is (waits_under cs h c) 0 (length cs) f in
            is_any (waits_under cs (Enqueued l at len ∷ h) c) 0 (length cs) x.one x.from x.to
            (kept_waits cs h l at len c x.one ∙ either_true (waits_under cs h c x.one) ((l == x.one) && (is_leaf cs l && is_under cs c l)) (inl x.passes))
        which (inr f) =
            let two = and_true (is_leaf cs l) (is_under cs c l) f in
            let low : l < length cs = grind (arith, nat_tests, (and_true (nat_lt l (length cs)) (not (is_parent cs l)) two.0).0) in
            is_any (waits_under cs (Enqueued l at len ∷ h) c) 0 (length cs) l (omega arith) (omega arith)
            (kept_waits cs h l at len c l ∙ either_true (waits_under cs h c l) ((l == l) && (is_leaf cs l && is_under cs c l)) (inr (true_and (l == l) (is_leaf cs l && is_under cs c l) here f)))

-- the virtual time with which a class becomes active is its virtual time then
or_later : (o : Option ℕ) → or_zero (later_of (Some 0) o) ≤ or_zero o
or_later None = omega arith
or_later (Some x) = omega arith

no_more : (s : Option Curve) (v u : ℕ) (os : List Opening) → reach s (opening v u ∷ os) u ≤ reach s os u
no_more None v u os = omega arith
no_more (Some s) v u os = go (nat_le u u) refl
  where
    go : (b : Bool) → nat_le u u ≡ b → or_zero (later_of (reached_at s (opening v u) u) (deadline s os u)) ≤ or_zero (deadline s os u)
    go true e = rw e (or_later (deadline s os u))
    go false e = absurd (grind (arith, nat_tests, e))

reach_time : (s : Option Curve) (os : List Opening) (u : ℕ) → reach s os u ≤ virtual_time_of s os u
reach_time None [] u = omega arith
reach_time (Some s) [] u = omega arith
reach_time s (o ∷ os) u = omega arith

own_most : (own high : ℕ) (vs : List ℕ) → own ≤ activation own vs high
own_most own high [] = omega arith
own_most own high (v ∷ vs) = omega arith

begins_at : (s : Option Curve) (v u : ℕ) (os : List Opening) → virtual_time_of s os u ≤ v → virtual_time_of s (opening v u ∷ os) u ≡ v
begins_at s v u os h =
    let one = no_more s v u os in
    let two = reach_time s os u in
    omega arith

pub activated_time : (cs : List HfscClass) (h : HfscHistory) (l at len c : ℕ) → has_parent cs c ≡ true → activates cs h l c ≡ true
    → virtual_time cs (Enqueued l at len ∷ h) c ≡ activation_time cs h (activations cs h) c
activated_time cs h l at len c p a =
    ap (λ (os : List Opening). virtual_time_of (class_of cs c).share os (total cs h c)) (taken (has_parent cs c && activates cs h l c) (true_and (has_parent cs c) (activates cs h l c) p a))
    ∙ begins_at (class_of cs c).share (activation_time cs h (activations cs h) c) (total cs h c) (activations cs h c)
    (own_most (virtual_time cs h c) _ _)
  where
    taken : (b : Bool) → b ≡ true
        → (if b then opening (activation_time cs h (activations cs h) c) (total cs h c) ∷ activations cs h c else activations cs h c)
        ≡ opening (activation_time cs h (activations cs h) c) (total cs h c) ∷ activations cs h c
    taken true e = refl
    taken false e = absurd cc
