-- What an event changes of activity and of virtual times.
use Rattle.std.proofs.Common.{◌≡◌, ◌≤◌, ◌+◌, ◌⊎◌, inl, inr, ℕ, Bool, true, false, List, [], ◌∷◌, drop, None, Some, refl, ap, sym, arith, ◌∙◌}
use Rattle.std.specs.Prelude.{Option, ◌&&◌, ◌||◌, ◌==◌, not, if◌then◌else◌}
use Rattle.std.proofs.lemmas.Bool.{cases_eq}
use Rattle.play_base.specs.Units.{units}
use Rattle.service_curve.specs.declared.Curve.{Curve}
use Rattle.runtime_curve.specs.declared.Opening.{Opening}
use Rattle.runtime_curve.specs.Opening.{opening}
use Rattle.hfsc_model.specs.declared.HfscClass.{HfscClass}
use Rattle.hfsc_model.specs.Event.{HfscHistory, Enqueued, Sent}
use Rattle.hfsc_model.specs.Leaf.{Leaf, Waiting, after_sent, is_waiting, leaf}
use Rattle.hfsc_model.specs.Share.{active, activates, activation_time, activations, has_parent, total, virtual_time, virtual_time_of}
use Rattle.hfsc_model.specs.Tree.{class_of, is_child, is_leaf, is_under, IsTree}
use Rattle.hfsc_laws.proofs.Activity.{activated_time, active_kept}
use Rattle.hfsc_laws.proofs.Tree.{and_true, parent_of, true_and}
use Rattle.hfsc_order.specs.Order.{HaveSlopes}
use Rattle.hfsc_order.proofs.Times.{rises}
use Rattle.hfsc_groups.proofs.Opening.{active_is, is_active, is_waits, waits_is}
use Rattle.hfsc_groups.proofs.Under.{in_line}
use Rattle.hfsc_share.proofs.Walking.{sibling_not_over}
use Rattle.fair_shares.specs.Sharing.{IsLine, step_of}
use Rattle.fair_shares.proofs.Lines.{IsChain, chain_grows, chain_opens}
use Rattle.fair_shares.proofs.Means.{starts_from_own}
use Rattle.fair_shares.proofs.Moves.{AreBy, by_more, time_moves}

-- a sending makes no class active
still_waits : (ws : List Waiting) → is_waiting (drop 1 ws) ≡ true → is_waiting ws ≡ true
still_waits [] e = e
still_waits (w ∷ ws) e = refl

pub sent_active : (cs : List HfscClass) (h : HfscHistory) (l len : ℕ) (real : Bool) (start c : ℕ)
    → active cs (Sent l len real start ∷ h) c ≡ true → active cs h c ≡ true
sent_active cs h l len real start c e =
    let x = active_is cs (Sent l len real start ∷ h) c e in
    let w = waits_is cs (Sent l len real start ∷ h) c x.one x.waits in
    is_active cs h c x.one (is_waits cs h c x.one w.leaf_is w.under (was (l == x.one) (leaf h x.one) w.waiting))
  where
    was : (b : Bool) (f : Leaf) → is_waiting (if b then after_sent len real f else f).waiting ≡ true → is_waiting f.waiting ≡ true
    was true f i = still_waits f.waiting i
    was false f i = i

-- a packet that is kept ends no activity, and makes active exactly what it activates
pub kept_active : (cs : List HfscClass) (h : HfscHistory) (l at len c : ℕ) → active cs h c ≡ true → active cs (Enqueued l at len ∷ h) c ≡ true
kept_active cs h l at len c e = active_kept cs h l at len c ∙ ap (λ b. b || (is_leaf cs l && is_under cs c l)) e

pub was_or_woken : (cs : List HfscClass) (h : HfscHistory) (l at len c : ℕ) → active cs (Enqueued l at len ∷ h) c ≡ true
    → (active cs h c ≡ true) ⊎ (activates cs h l c ≡ true)
was_or_woken cs h l at len c e = go (active cs h c) refl (sym (active_kept cs h l at len c) ∙ e)
  where
    go : (b : Bool) → active cs h c ≡ b → (b || (is_leaf cs l && is_under cs c l)) ≡ true → (b ≡ true) ⊎ ((is_leaf cs l && (is_under cs c l && not b)) ≡ true)
    go true f g = inl refl
    go false f g =
        let both = and_true (is_leaf cs l) (is_under cs c l) g in
        inr (true_and (is_leaf cs l) (is_under cs c l && true) both.0 (true_and (is_under cs c l) true both.1 refl))

pub woken_under : (cs : List HfscClass) (h : HfscHistory) (l c : ℕ) → activates cs h l c ≡ true → is_under cs c l ≡ true
woken_under cs h l c e = (and_true (is_under cs c l) (not (active cs h c)) (and_true (is_leaf cs l) (is_under cs c l && not (active cs h c)) e).1).0

-- of two siblings at most one stands over a leaf
pub one_over : (cs : List HfscClass) (p l c d : ℕ) → IsTree cs → is_child cs p c ≡ true → is_child cs p d ≡ true → is_under cs c l ≡ true → is_under cs d l ≡ true → c ≡ d
one_over cs p l c d t k m u v = go (cases_eq c d)
  where
    apart : (c ≡ d → ⊥) → (is_under cs c d ≡ true) ⊎ (is_under cs d c ≡ true) → ⊥
    apart n (inl w) = let no = sibling_not_over cs p d c t (parent_of cs p d m) k n in absurd cc
    apart n (inr w) = let no = sibling_not_over cs p c d t (parent_of cs p c k) m (λ s. n (sym s)) in absurd cc

    go : (c ≡ d) ⊎ (c ≡ d → ⊥) → c ≡ d
    go (inl s) = s
    go (inr n) = absurd (apart n (in_line cs c d l t u v))

pub child_has : (cs : List HfscClass) (p c : ℕ) → is_child cs p c ≡ true → has_parent cs c ≡ true
child_has cs p c k = ap (λ (o : Option ℕ). elim o [ None ↦ false | Some q ↦ true ]) (parent_of cs p c k)

-- a packet that is kept changes the virtual time of what it activates alone
pub time_kept : (cs : List HfscClass) (h : HfscHistory) (l at len c : ℕ) → activates cs h l c ≡ false → virtual_time cs (Enqueued l at len ∷ h) c ≡ virtual_time cs h c
time_kept cs h l at len c e =
    ap (λ (b : Bool). virtual_time_of (class_of cs c).share (if b then opening (activation_time cs h (activations cs h) c) (total cs h c) ∷ activations cs h c else activations cs h c) (total cs h c))
    (none (has_parent cs c) (activates cs h l c) e)
  where
    none : (a b : Bool) → b ≡ false → (a && b) ≡ false
    none true b f = f
    none false b f = refl

pub time_woken : (cs : List HfscClass) (h : HfscHistory) (l at len p c : ℕ) → is_child cs p c ≡ true → activates cs h l c ≡ true
    → virtual_time cs (Enqueued l at len ∷ h) c ≡ activation_time cs h (activations cs h) c
time_woken cs h l at len p c k e = activated_time cs h l at len c (child_has cs p c k) e

-- no activation is later than the virtual time
pub are_by : (cs : List HfscClass) (h : HfscHistory) (c : ℕ) → HaveSlopes cs → AreBy (virtual_time cs h c) (activations cs h c)
are_by cs [] c some = tt
are_by cs (Sent l len real start ∷ h) c some =
    by_more (virtual_time cs h c) (virtual_time cs (Sent l len real start ∷ h) c) (activations cs h c) (rises cs (Sent l len real start) h c some) (are_by cs h c some)
are_by cs (Enqueued l at len ∷ h) c some = go (has_parent cs c && activates cs h l c) (are_by cs h c some)
  where
    acts : Bool → List Opening
    acts b = if b then opening (activation_time cs h (activations cs h) c) (total cs h c) ∷ activations cs h c else activations cs h c

    go : (b : Bool) → AreBy (virtual_time cs h c) (activations cs h c)
        → AreBy (virtual_time_of (class_of cs c).share (if b then opening (activation_time cs h (activations cs h) c) (total cs h c) ∷ activations cs h c else activations cs h c) (total cs h c))
        (if b then opening (activation_time cs h (activations cs h) c) (total cs h c) ∷ activations cs h c else activations cs h c)
    go true b =
        let own = starts_from_own cs h c in (
          omega arith,
          by_more (virtual_time cs h c)
              (virtual_time_of (class_of cs c).share (opening (activation_time cs h (activations cs h) c) (total cs h c) ∷ activations cs h c) (total cs h c))
              (activations cs h c) (omega (arith, own)) b,
        )
    go false b = b

-- a sending moves a virtual time by at most the step of its packet
pub time_sent : (cs : List HfscClass) (h : HfscHistory) (l len : ℕ) (real : Bool) (start p c : ℕ) → HaveSlopes cs → is_child cs p c ≡ true
    → virtual_time cs (Sent l len real start ∷ h) c ≤ virtual_time cs h c + step_of (class_of cs c).share (units len)
time_sent cs h l len real start p c some k = go (is_under cs c l)
  where
    more : virtual_time_of (class_of cs c).share (activations cs h c) (total cs h c + units len) ≤ virtual_time cs h c + step_of (class_of cs c).share (units len)
    more = time_moves (class_of cs c).share (activations cs h c) (total cs h c) (units len) (λ s e. some c s (child_has cs p c k) e) (are_by cs h c some)

    go : (b : Bool) → virtual_time_of (class_of cs c).share (activations cs h c) (if b then total cs h c + units len else total cs h c)
        ≤ virtual_time cs h c + step_of (class_of cs c).share (units len)
    go true = more
    go false = omega arith

pub time_off : (cs : List HfscClass) (h : HfscHistory) (l len : ℕ) (real : Bool) (start c : ℕ) → is_under cs c l ≡ false
    → virtual_time cs (Sent l len real start ∷ h) c ≡ virtual_time cs h c
time_off cs h l len real start c e =
    ap (λ (b : Bool). virtual_time_of (class_of cs c).share (activations cs h c) (if b then total cs h c + units len else total cs h c)) e

-- the activations of a class of a linear curve are a chain
total_grows : (cs : List HfscClass) (h : HfscHistory) (l len : ℕ) (real : Bool) (start c : ℕ) → total cs h c ≤ total cs (Sent l len real start ∷ h) c
total_grows cs h l len real start c = go (is_under cs c l)
  where
    go : (b : Bool) → total cs h c ≤ (if b then total cs h c + units len else total cs h c)
    go true = omega arith
    go false = omega arith

pub are_chain : (cs : List HfscClass) (h : HfscHistory) (c r : ℕ) (s : Curve) → (class_of cs c).share ≡ Some s → IsLine s r → 1 ≤ s.m2
    → IsChain r (activations cs h c) (total cs h c)
are_chain cs [] c r s has is some = tt
are_chain cs (Sent l len real start ∷ h) c r s has is some =
    chain_grows r (activations cs h c) (total cs h c) (total cs (Sent l len real start ∷ h) c) (total_grows cs h l len real start c) (are_chain cs h c r s has is some)
are_chain cs (Enqueued l at len ∷ h) c r s has is some = go (has_parent cs c && activates cs h l c) (are_chain cs h c r s has is some)
  where
    go : (b : Bool) → IsChain r (activations cs h c) (total cs h c)
        → IsChain r (if b then opening (activation_time cs h (activations cs h) c) (total cs h c) ∷ activations cs h c else activations cs h c) (total cs h c)
    go true chain =
        let own = starts_from_own cs h c in
        let same = ap (λ (o : Option Curve). virtual_time_of o (activations cs h c) (total cs h c)) has in
        chain_opens s r (activations cs h c) (total cs h c) (activation_time cs h (activations cs h) c) is some chain (omega (arith, own, same))
    go false chain = chain
