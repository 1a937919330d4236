-- A class on whose path a packet was kept.
use Rattle.std.proofs.Common.{◌≡◌, ◌≤◌, ℕ, Bool, true, false, List, ◌∷◌, None, Some, map, refl, ap, sym, subst, arith, ◌∙◌}
use Rattle.std.specs.Prelude.{Option, ◌&&◌, ◌||◌, max, nat_le, not, if◌then◌else◌}
use Rattle.std.proofs.lemmas.Bool.Decides.{nat_tests}
use Rattle.std.specs.List.{filter}
use Rattle.service_curve.specs.declared.Curve.{Curve}
use Rattle.runtime_curve.specs.declared.Opening.{Opening}
use Rattle.runtime_curve.specs.declared.Running.{Running}
use Rattle.runtime_curve.specs.Opening.{opening}
use Rattle.runtime_curve.specs.Deadline.{later_of}
use Rattle.hfsc_model.specs.declared.HfscClass.{HfscClass}
use Rattle.hfsc_model.specs.Event.{HfscHistory, Enqueued}
use Rattle.hfsc_model.specs.Tree.{class_of, is_leaf, is_under}
use Rattle.hfsc_model.specs.Share.{active, activates, activation, activation_time, activations, greatest, has_parent, siblings, total, virtual_time, virtual_time_of}
use Rattle.hfsc_model.specs.Limit.{arrivals_of}
use Rattle.hfsc_laws.proofs.Activity.{active_kept, activated_time}
use Rattle.hfsc_laws.proofs.Tree.{true_and}
use Rattle.hfsc_groups.specs.declared.node.Node.{Node}
use Rattle.hfsc_groups.specs.declared.group.Group.{Group}
use Rattle.hfsc_groups.specs.Curves.{RunningStands, share_of, limit_opens, since}
use Rattle.hfsc_groups.specs.Classes.{AreSmall}
use Rattle.hfsc_groups.specs.Node.{NodeStands, OpensAt, IsActivated, IsReopened}
use Rattle.hfsc_groups.specs.Group.{Ranks, IsHigh, ranked_in, time_key}
use Rattle.hfsc_groups.proofs.Children.{Stand}
use Rattle.hfsc_share.specs.Walk.{start_among}
use Rattle.hfsc_share.proofs.Starting.{start_is}

-- all that a node stands for but the moment from which it opens
pub record NodeHas (cs : List HfscClass) (h : HfscHistory) (c : ℕ) (x : Node) : Type 0 where
  pub parent : x.parent ≡ (class_of cs c).parent
  pub share : RunningStands x.share (share_of (class_of cs c)) (activations cs h c)
  pub limit : RunningStands x.limit (class_of cs c).limit (arrivals_of cs h c)
  pub total : total cs h c ≡ x.total
  pub active : active cs h c ≡ x.active
  pub time : virtual_time cs h c ≡ x.time

pub stands_has : (cs : List HfscClass) (h : HfscHistory) (last c : ℕ) (x : Node) → NodeStands cs h last c x → NodeHas cs h c x
stands_has cs h last c x s = record { parent = s.parent; share = s.share; limit = s.limit; total = s.total; active = s.active; time = s.time }

-- from the last wake on no earlier moment tells more
since_opens : (cs : List HfscClass) (h : HfscHistory) (last c : ℕ) (o : Option ℕ) → OpensAt cs h last c o → OpensAt cs h last c (since last o)
since_opens cs h last c None s = s
since_opens cs h last c (Some t) s = go (nat_le t last) refl
  where
    go : (b : Bool) → nat_le t last ≡ b → OpensAt cs h last c (if b then Some 0 else Some t)
    go true e = record { some = refl; from = λ now later. s.from now later ∙ come now later }
      where
        come : (now : ℕ) → last ≤ now → nat_le t now ≡ nat_le 0 now
        come now later = grind (arith, nat_tests, e, later)
    go false e = s

pub reopened_stands : (cs : List HfscClass) (h : HfscHistory) (last c : ℕ) (below : Option ℕ) (x y : Node) → NodeHas cs h c x → IsReopened last below x y
    → (active cs h c ≡ true → OpensAt cs h last c (later_of (limit_opens (class_of cs c).limit (arrivals_of cs h c) (total cs h c)) below))
    → NodeStands cs h last c y
reopened_stands cs h last c below x y s r o = record {
  parent = r.parent ∙ s.parent;
  share = subst (λ (k : Option Running). RunningStands k (share_of (class_of cs c)) (activations cs h c)) (sym r.share) s.share;
  limit = subst (λ (k : Option Running). RunningStands k (class_of cs c).limit (arrivals_of cs h c)) (sym r.limit) s.limit;
  total = s.total ∙ sym r.total;
  active = s.active ∙ sym r.active;
  time = s.time ∙ sym r.time;
  opens = λ a.
      let was = sym r.active ∙ a in
      subst (λ (m : Option ℕ). OpensAt cs h last c m)
      (sym (r.opens was (class_of cs c).limit (arrivals_of cs h c) s.limit
      ∙ ap (λ n. since last (later_of (limit_opens (class_of cs c).limit (arrivals_of cs h c) n) below)) (sym s.total)))
      (since_opens cs h last c (later_of (limit_opens (class_of cs c).limit (arrivals_of cs h c) (total cs h c)) below) (o (s.active ∙ was)));
}

-- a class that is active stays so
kept_active : (cs : List HfscClass) (h : HfscHistory) (l at len c : ℕ) → is_leaf cs l ≡ true → is_under cs c l ≡ true → active cs (Enqueued l at len ∷ h) c ≡ true
kept_active cs h l at len c e u =
    active_kept cs h l at len c ∙ ap (λ b. active cs h c || b) (true_and (is_leaf cs l) (is_under cs c l) e u) ∙ always (active cs h c)
  where
    always : (b : Bool) → (b || true) ≡ true
    always true = refl
    always false = refl

no_more : (cs : List HfscClass) (h : HfscHistory) (l c : ℕ) → active cs h c ≡ true → activates cs h l c ≡ false
no_more cs h l c a = ap (λ b. is_leaf cs l && (is_under cs c l && not b)) a ∙ nothing (is_leaf cs l) (is_under cs c l)
  where
    nothing : (a b : Bool) → (a && (b && false)) ≡ false
    nothing true true = refl
    nothing true false = refl
    nothing false b = refl

begins : (cs : List HfscClass) (h : HfscHistory) (l c : ℕ) → is_leaf cs l ≡ true → is_under cs c l ≡ true → active cs h c ≡ false → activates cs h l c ≡ true
begins cs h l c e u a = true_and (is_leaf cs l) (is_under cs c l && not (active cs h c)) e (true_and (is_under cs c l) (not (active cs h c)) u (ap not a))

none : (a b : Bool) → b ≡ false → (a && b) ≡ false
none true b e = e
none false b e = refl

pub woken_active : (cs : List HfscClass) (h : HfscHistory) (l at len c : ℕ) (x : Node) → is_leaf cs l ≡ true → is_under cs c l ≡ true → NodeHas cs h c x
    → x.active ≡ true → NodeHas cs (Enqueued l at len ∷ h) c x
woken_active cs h l at len c x e u s a = record {
  parent = s.parent;
  share = subst (λ (os : List Opening). RunningStands x.share (share_of (class_of cs c)) os) (sym acts) s.share;
  limit = subst (λ (os : List Opening). RunningStands x.limit (class_of cs c).limit os)
      (sym (ap (λ b. if b then opening at (total cs h c) ∷ arrivals_of cs h c else arrivals_of cs h c) (no_more cs h l c was))) s.limit;
  total = s.total;
  active = kept_active cs h l at len c e u ∙ sym a;
  time = ap (λ (os : List Opening). virtual_time_of (class_of cs c).share os (total cs h c)) acts ∙ s.time;
}
  where
    was : active cs h c ≡ true
    was = s.active ∙ a

    acts : activations cs (Enqueued l at len ∷ h) c ≡ activations cs h c
    acts = ap (λ b. if b then opening (activation_time cs h (activations cs h) c) (total cs h c) ∷ activations cs h c else activations cs h c)
        (none (has_parent cs c) (activates cs h l c) (no_more cs h l c was))

-- a class becomes active, below a parent
any_none : (r : Option Running) (os others : List Opening) → RunningStands r None os → RunningStands r None others
any_none None os others s = tt
any_none (Some r) os others s = absurd s

woken_limit : (cs : List HfscClass) (h : HfscHistory) (l at len c start : ℕ) (x y : Node) → is_leaf cs l ≡ true → is_under cs c l ≡ true
    → NodeHas cs h c x → x.active ≡ false → IsActivated at start x y → RunningStands y.limit (class_of cs c).limit (arrivals_of cs (Enqueued l at len ∷ h) c)
woken_limit cs h l at len c start x y e u s a r =
    subst (λ (os : List Opening). RunningStands y.limit (class_of cs c).limit os)
    (sym (ap (λ b. if b then opening at (total cs h c) ∷ arrivals_of cs h c else arrivals_of cs h c) (begins cs h l c e u (s.active ∙ a))))
    (subst (λ n. RunningStands y.limit (class_of cs c).limit (opening at n ∷ arrivals_of cs h c)) (sym s.total)
    (r.limit (class_of cs c).limit (arrivals_of cs h c) s.limit))

-- the curve that is kept
pub shared : (k : HfscClass) (p : ℕ) → k.parent ≡ Some p → share_of k ≡ k.share
shared k p e = ap (λ (o : Option ℕ). elim o [ None ↦ None | Some q ↦ k.share ]) e

pub unshared : (k : HfscClass) → k.parent ≡ None → share_of k ≡ None
unshared k e = ap (λ (o : Option ℕ). elim o [ None ↦ None | Some q ↦ k.share ]) e

pub woken_child : (cs : List HfscClass) (h : HfscHistory) (l at len c p start : ℕ) (x y : Node) → is_leaf cs l ≡ true → is_under cs c l ≡ true
    → AreSmall cs (Enqueued l at len ∷ h) → NodeHas cs h c x → x.active ≡ false → (class_of cs c).parent ≡ Some p
    → max (virtual_time cs h c) start ≡ activation_time cs h (activations cs h) c
    → IsActivated at start x y → NodeHas cs (Enqueued l at len ∷ h) c y
woken_child cs h l at len c p start x y e u small s a of v r = record {
  parent = r.parent ∙ s.parent;
  share = subst (λ (os : List Opening). RunningStands y.share (share_of (class_of cs c)) os) (sym acts)
      (subst (λ n. RunningStands y.share (share_of (class_of cs c)) (opening n (total cs h c) ∷ activations cs h c)) (sym time)
      (subst (λ n. RunningStands y.share (share_of (class_of cs c)) (opening y.time n ∷ activations cs h c)) (sym s.total)
      (r.share (share_of (class_of cs c)) (activations cs h c) s.share)));
  limit = woken_limit cs h l at len c start x y e u s a r;
  total = s.total ∙ sym r.total;
  active = kept_active cs h l at len c e u ∙ sym r.active;
  time = is ∙ time;
}
  where
    begun : activates cs h l c ≡ true
    begun = begins cs h l c e u (s.active ∙ a)

    parent : has_parent cs c ≡ true
    parent = ap (λ (o : Option ℕ). elim o [ None ↦ false | Some q ↦ true ]) of

    acts : activations cs (Enqueued l at len ∷ h) c ≡ opening (activation_time cs h (activations cs h) c) (total cs h c) ∷ activations cs h c
    acts = ap (λ b. if b then opening (activation_time cs h (activations cs h) c) (total cs h c) ∷ activations cs h c else activations cs h c)
        (true_and (has_parent cs c) (activates cs h l c) parent begun)

    is : virtual_time cs (Enqueued l at len ∷ h) c ≡ activation_time cs h (activations cs h) c
    is = activated_time cs h l at len c parent begun

    time : activation_time cs h (activations cs h) c ≡ y.time
    time =
        let most = (small c).time in
        let made = r.time in
        let own = s.time in
        let m = v in
        let i = is in
        omega arith

pub woken_root : (cs : List HfscClass) (h : HfscHistory) (l at len c : ℕ) (x y : Node) → is_leaf cs l ≡ true → is_under cs c l ≡ true
    → NodeHas cs h c x → x.active ≡ false → (class_of cs c).parent ≡ None → IsActivated at 0 x y → NodeHas cs (Enqueued l at len ∷ h) c y
woken_root cs h l at len c x y e u s a of r = record {
  parent = r.parent ∙ s.parent;
  share = subst (λ (k : Option Curve). RunningStands y.share k (activations cs (Enqueued l at len ∷ h) c)) (sym none_is)
      (any_none y.share (opening y.time x.total ∷ activations cs h c) (activations cs (Enqueued l at len ∷ h) c)
      (r.share None (activations cs h c) (subst (λ (k : Option Curve). RunningStands x.share k (activations cs h c)) none_is s.share)));
  limit = woken_limit cs h l at len c 0 x y e u s a r;
  total = s.total ∙ sym r.total;
  active = kept_active cs h l at len c e u ∙ sym r.active;
  time = ap (λ (os : List Opening). virtual_time_of (class_of cs c).share os (total cs h c)) acts ∙ s.time ∙ (let made = r.time in let most = x.time_small in omega arith);
}
  where
    none_is : share_of (class_of cs c) ≡ None
    none_is = unshared (class_of cs c) of

    acts : activations cs (Enqueued l at len ∷ h) c ≡ activations cs h c
    acts = ap (λ (o : Option ℕ). if (elim o [ None ↦ false | Some q ↦ true ]) && activates cs h l c
        then opening (activation_time cs h (activations cs h) c) (total cs h c) ∷ activations cs h c else activations cs h c) of

-- the virtual time that it takes is the one that the definition says
pub start_taken : (cs : List HfscClass) (h : HfscHistory) (last c p : ℕ) (nodes : List Node) (g : Group) → (class_of cs c).parent ≡ Some p → Stand cs h last p nodes
    → Ranks nodes p time_key g.times → IsHigh nodes p g.high
    → max (virtual_time cs h c) (start_among nodes g (ranked_in g)) ≡ activation_time cs h (activations cs h) c
start_taken cs h last c p nodes g of s ranks high =
    start_is cs h last p (virtual_time cs h c) nodes g s ranks high
    ∙ sym (ap (λ (o : Option ℕ). activation (virtual_time cs h c) (map (virtual_time cs h) (filter (active cs h) (siblings cs c o))) (greatest (map (virtual_time cs h) (siblings cs c o)))) of)
