-- An offer changes nothing for a leaf in which a packet waits.
use Rattle.std.proofs.Common.{◌≡◌, ◌<◌, ℕ, Bool, true, false, inl, inr, List, [], ◌∷◌, None, Some, length, refl, ap, arith, ◌∙◌}
use Rattle.std.specs.Prelude.{Option, ◌==◌, ◌&&◌, not, nat_lt, if◌then◌else◌}
use Rattle.std.proofs.lemmas.Bool.Decides.{nat_tests}
use Rattle.service_curve.specs.declared.Curve.{Curve}
use Rattle.runtime_curve.specs.declared.Opening.{Opening}
use Rattle.runtime_curve.specs.Opening.{opening, eligible_curve}
use Rattle.runtime_curve.specs.Deadline.{deadline, later_of}
use Rattle.altq_model.specs.Play.{IsOneOf}
use Rattle.altq_model.specs.declared.Verdict.{Verdict}
use Rattle.altq_model.specs.History.{Arrival, is_kept}
use Rattle.hfsc_model.specs.declared.HfscClass.{HfscClass}
use Rattle.hfsc_model.specs.Event.{HfscHistory, Enqueued}
use Rattle.hfsc_model.specs.Leaf.{Leaf, Waiting, leaf, is_waiting, opened, after_kept}
use Rattle.hfsc_model.specs.Tree.{class_of, is_leaf, is_parent, is_under, path, reals}
use Rattle.hfsc_model.specs.RealTime.{curve_of}
use Rattle.hfsc_model.specs.Share.{waits_under, active, total, activates}
use Rattle.hfsc_model.specs.Limit.{arrivals_of}
use Rattle.hfsc_laws.proofs.Tree.{and_true, true_and, is_any}
use Rattle.hfsc_policy.specs.Events.{with_offer}
use Rattle.hfsc_policy.specs.Policy.{eligible_from, within_from, open_from, earlier_of, send_from}
use Rattle.hfsc_policy.proofs.Lists.{one_any}

-- a leaf in which a packet waits is active, and so is every class on its path
pub leaf_below : (cs : List HfscClass) (c : ℕ) → is_leaf cs c ≡ true → c < length cs
leaf_below cs c l = grind (arith, nat_tests, (and_true (nat_lt c (length cs)) (not (is_parent cs c)) l).0)

pub above_active : (cs : List HfscClass) (h : HfscHistory) (c x : ℕ) → is_leaf cs c ≡ true → is_waiting (leaf h c).waiting ≡ true → is_under cs x c ≡ true
    → active cs h x ≡ true
above_active cs h c x l w u =
    let low = leaf_below cs c l in
    is_any (waits_under cs h x) 0 (length cs) c (omega arith) (omega arith)
    (true_and (is_leaf cs c) (is_under cs x c && is_waiting (leaf h c).waiting) l (true_and (is_under cs x c) (is_waiting (leaf h c).waiting) u w))

not_both : (a b c : Bool) → c ≡ true → (a && (b && not c)) ≡ false
not_both true true true e = refl
not_both true true false e = absurd cc
not_both true false c e = refl
not_both false b c e = refl

same_arrivals : (cs : List HfscClass) (h : HfscHistory) (d at len x : ℕ) → active cs h x ≡ true → arrivals_of cs (Enqueued d at len ∷ h) x ≡ arrivals_of cs h x
same_arrivals cs h d at len x a = go (activates cs h d x) (not_both (is_leaf cs d) (is_under cs x d) (active cs h x) a)
  where
    go : (b : Bool) → b ≡ false → (if b then opening at (total cs h x) ∷ arrivals_of cs h x else arrivals_of cs h x) ≡ arrivals_of cs h x
    go true e = absurd cc
    go false e = refl

same_open : (cs : List HfscClass) (h : HfscHistory) (d at len : ℕ) (up : List ℕ) → ((x : ℕ) → IsOneOf x up → active cs h x ≡ true)
    → open_from cs (Enqueued d at len ∷ h) up ≡ open_from cs h up
same_open cs h d at len [] f = refl
same_open cs h d at len (x ∷ up) f =
    let rest = same_open cs h d at len up (λ y i. f y (inr i)) in
    ap (λ (os : List Opening). later_of (within_from (class_of cs x).limit os (total cs h x)) (open_from cs (Enqueued d at len ∷ h) up))
    (same_arrivals cs h d at len x (f x (inl refl)))
    ∙ ap (λ (o : Option ℕ). later_of (within_from (class_of cs x).limit (arrivals_of cs h x) (total cs h x)) o) rest

same_openings : (ws : List Waiting) (at count : ℕ) (os : List Opening) → is_waiting ws ≡ true → opened ws at count os ≡ os
same_openings [] at count os e = absurd cc
same_openings (w ∷ ws) at count os e = refl

same_eligible : (o : Option Curve) (at len : ℕ) (l : Leaf) → is_waiting l.waiting ≡ true → eligible_from o (after_kept at len l) ≡ eligible_from o l
same_eligible None at len l w = refl
same_eligible (Some s) at len l w = ap (λ (os : List Opening). deadline (eligible_curve s) os l.count) (same_openings l.waiting at l.count l.openings w)

still_eligible : (o : Option Curve) (h : HfscHistory) (d at len c : ℕ) → is_waiting (leaf h c).waiting ≡ true
    → eligible_from o (leaf (Enqueued d at len ∷ h) c) ≡ eligible_from o (leaf h c)
still_eligible o h d at len c w = go (d == c)
  where
    go : (b : Bool) → eligible_from o (if b then after_kept at len (leaf h c) else leaf h c) ≡ eligible_from o (leaf h c)
    go true = same_eligible o at len (leaf h c) w
    go false = refl

kept_same : (cs : List HfscClass) (h : HfscHistory) (d at len c : ℕ) → is_leaf cs c ≡ true → is_waiting (leaf h c).waiting ≡ true
    → send_from cs (Enqueued d at len ∷ h) c ≡ send_from cs h c
kept_same cs h d at len c l w =
    ap (λ (o : Option ℕ). earlier_of o (open_from cs (Enqueued d at len ∷ h) (path cs c))) (still_eligible (curve_of (reals cs) c) h d at len c w)
    ∙ ap (λ (o : Option ℕ). earlier_of (eligible_from (curve_of (reals cs) c) (leaf h c)) o)
    (same_open cs h d at len (path cs c) (λ x i. above_active cs h c x l w (one_any (path cs c) x i)))

pub offer_same : (cs : List HfscClass) (h : HfscHistory) (v : Verdict) (a : Arrival) (c : ℕ) → is_leaf cs c ≡ true → is_waiting (leaf h c).waiting ≡ true
    → send_from cs (with_offer v a h) c ≡ send_from cs h c
offer_same cs h v a c l w = go (is_kept v)
  where
    go : (b : Bool) → send_from cs (if b then Enqueued a.class a.at a.len ∷ h else h) c ≡ send_from cs h c
    go true = kept_same cs h a.class a.at a.len c l w
    go false = refl
