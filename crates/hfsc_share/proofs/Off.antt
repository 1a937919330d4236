-- What an event leaves as it was: all that does not stand over its leaf.
use Rattle.std.proofs.Common.{◌≡◌, ℕ, Bool, true, false, List, ◌∷◌, refl, ap, sym, subst, arith, ◌∙◌}
use Rattle.std.specs.Prelude.{◌==◌, ◌&&◌, ◌+◌, not, if◌then◌else◌}
use Rattle.std.proofs.lemmas.Bool.Decides.{nat_tests}
use Rattle.play_base.specs.Units.{units}
use Rattle.runtime_curve.specs.declared.Opening.{Opening}
use Rattle.runtime_curve.specs.Opening.{opening}
use Rattle.hfsc_model.specs.declared.HfscClass.{HfscClass}
use Rattle.hfsc_model.specs.Event.{HfscHistory, Enqueued, Sent}
use Rattle.hfsc_model.specs.Leaf.{leaf, is_waiting, after_kept, after_sent}
use Rattle.hfsc_model.specs.Tree.{class_of, is_leaf, is_under, IsTree}
use Rattle.hfsc_model.specs.Share.{active, activates, activation_time, activations, has_parent, total, virtual_time, virtual_time_of}
use Rattle.hfsc_model.specs.Limit.{arrivals_of, is_within, within}
use Rattle.hfsc_laws.proofs.Tree.{same_truth, under_self}
use Rattle.hfsc_groups.specs.declared.node.Node.{Node}
use Rattle.hfsc_groups.specs.Curves.{RunningStands, share_of}
use Rattle.hfsc_groups.specs.Classes.{opens_under}
use Rattle.hfsc_groups.specs.Node.{NodeStands}
use Rattle.hfsc_groups.proofs.Under.{under_trans}
use Rattle.hfsc_groups.proofs.Opening.{opens_is, is_opens, waits_is, is_waits, active_is, is_active}

-- after g a class has what it has after h
pub record Off (cs : List HfscClass) (h g : HfscHistory) (c : ℕ) : Type 0 where
  pub acts : activations cs g c ≡ activations cs h c
  pub arrivals : arrivals_of cs g c ≡ arrivals_of cs h c
  pub units : total cs g c ≡ total cs h c
  pub waiting : is_waiting (leaf g c).waiting ≡ is_waiting (leaf h c).waiting

pub off_back : (cs : List HfscClass) (h g : HfscHistory) (c : ℕ) → Off cs h g c → Off cs g h c
off_back cs h g c o = record { acts = sym o.acts; arrivals = sym o.arrivals; units = sym o.units; waiting = sym o.waiting }

-- an event at the leaf l
same_leaf : (cs : List HfscClass) (l c : ℕ) → is_under cs c l ≡ false → (l == c) ≡ false
same_leaf cs l c e = go (l == c) refl
  where
    go : (b : Bool) → (l == c) ≡ b → b ≡ false
    go true f =
        let same : l ≡ c = grind (arith, nat_tests, f) in
        let under : is_under cs c l ≡ true = ap (λ m. is_under cs c m) same ∙ under_self cs c in
        absurd cc
    go false f = refl

idle : (cs : List HfscClass) (h : HfscHistory) (l c : ℕ) → is_under cs c l ≡ false → activates cs h l c ≡ false
idle cs h l c e = ap (λ b. is_leaf cs l && (b && not (active cs h c))) e ∙ nothing (is_leaf cs l)
  where
    nothing : (b : Bool) → (b && false) ≡ false
    nothing true = refl
    nothing false = refl

none : (a b : Bool) → b ≡ false → (a && b) ≡ false
none true b e = e
none false b e = refl

pub kept_off : (cs : List HfscClass) (h : HfscHistory) (l at len c : ℕ) → is_under cs c l ≡ false → Off cs h (Enqueued l at len ∷ h) c
kept_off cs h l at len c e = record {
  acts = ap (λ b. if b then opening (activation_time cs h (activations cs h) c) (total cs h c) ∷ activations cs h c else activations cs h c)
      (none (has_parent cs c) (activates cs h l c) (idle cs h l c e));
  arrivals = ap (λ b. if b then opening at (total cs h c) ∷ arrivals_of cs h c else arrivals_of cs h c) (idle cs h l c e);
  units = refl;
  waiting = ap (λ b. is_waiting (if b then after_kept at len (leaf h c) else leaf h c).waiting) (same_leaf cs l c e);
}

pub sent_off : (cs : List HfscClass) (h : HfscHistory) (l len : ℕ) (real : Bool) (start c : ℕ) → is_under cs c l ≡ false → Off cs h (Sent l len real start ∷ h) c
sent_off cs h l len real start c e = record {
  acts = refl;
  arrivals = refl;
  units = ap (λ b. if b then total cs h c + units len else total cs h c) e;
  waiting = ap (λ b. is_waiting (if b then after_sent len real (leaf h c) else leaf h c).waiting) (same_leaf cs l c e);
}

-- what stands under a class is as it was
abbrev pub AllOff : List HfscClass → HfscHistory → HfscHistory → ℕ → Type 0
AllOff cs h g l = (c : ℕ) → is_under cs c l ≡ false → Off cs h g c

below_off : (cs : List HfscClass) (h g : HfscHistory) (l c : ℕ) → IsTree cs → AllOff cs h g l → is_under cs c l ≡ false → (x : ℕ) → is_under cs c x ≡ true → Off cs h g x
below_off cs h g l c t off e x u = go (is_under cs x l) refl
  where
    go : (b : Bool) → is_under cs x l ≡ b → Off cs h g x
    go true f = let over = under_trans cs c x l t u f in absurd cc
    go false f = off x f

off_active : (cs : List HfscClass) (h g : HfscHistory) (c : ℕ) → ((x : ℕ) → is_under cs c x ≡ true → Off cs h g x) → active cs h c ≡ true → active cs g c ≡ true
off_active cs h g c off a =
    let x = active_is cs h c a in
    let w = waits_is cs h c x.one x.waits in
    is_active cs g c x.one (is_waits cs g c x.one w.leaf_is w.under ((off x.one w.under).waiting ∙ w.waiting))

off_within : (cs : List HfscClass) (h g : HfscHistory) (now c : ℕ) → Off cs h g c → is_within cs g now c ≡ is_within cs h now c
off_within cs h g now c o =
    ap (λ (os : List Opening). within (class_of cs c).limit os now (total cs g c)) o.arrivals
    ∙ ap (λ n. within (class_of cs c).limit (arrivals_of cs h c) now n) o.units

off_opens : (cs : List HfscClass) (h g : HfscHistory) (now c : ℕ) → ((x : ℕ) → is_under cs c x ≡ true → Off cs h g x) → opens_under cs h now c ≡ true → opens_under cs g now c ≡ true
off_opens cs h g now c off e =
    let x = opens_is cs h now c e in
    let w = waits_is cs h c x.one x.opens.waits in
    is_opens cs g now c x.one (record {
      waits = is_waits cs g c x.one w.leaf_is w.under ((off x.one w.under).waiting ∙ w.waiting);
      within = λ y u v. off_within cs h g now y (off y v) ∙ x.opens.within y u v;
    })

pub off_active_is : (cs : List HfscClass) (h g : HfscHistory) (c : ℕ) → ((x : ℕ) → is_under cs c x ≡ true → Off cs h g x) → active cs g c ≡ active cs h c
off_active_is cs h g c off =
    same_truth (active cs g c) (active cs h c) (off_active cs g h c (λ x u. off_back cs h g x (off x u))) (off_active cs h g c off)

off_opens_is : (cs : List HfscClass) (h g : HfscHistory) (now c : ℕ) → ((x : ℕ) → is_under cs c x ≡ true → Off cs h g x) → opens_under cs g now c ≡ opens_under cs h now c
off_opens_is cs h g now c off =
    same_truth (opens_under cs g now c) (opens_under cs h now c) (off_opens cs g h now c (λ x u. off_back cs h g x (off x u))) (off_opens cs h g now c off)

pub off_time : (cs : List HfscClass) (h g : HfscHistory) (c : ℕ) → Off cs h g c → virtual_time cs g c ≡ virtual_time cs h c
off_time cs h g c o =
    ap (λ (os : List Opening). virtual_time_of (class_of cs c).share os (total cs g c)) o.acts
    ∙ ap (λ n. virtual_time_of (class_of cs c).share (activations cs h c) n) o.units

-- so its node stands for both histories
pub below_stands : (cs : List HfscClass) (h g : HfscHistory) (last c : ℕ) (x : Node) → ((y : ℕ) → is_under cs c y ≡ true → Off cs h g y)
    → NodeStands cs h last c x → NodeStands cs g last c x
below_stands cs h g last c x off s = record {
  parent = s.parent;
  share = subst (λ (os : List Opening). RunningStands x.share (share_of (class_of cs c)) os) (sym here.acts) s.share;
  limit = subst (λ (os : List Opening). RunningStands x.limit (class_of cs c).limit os) (sym here.arrivals) s.limit;
  total = here.units ∙ s.total;
  active = off_active_is cs h g c off ∙ s.active;
  time = off_time cs h g c here ∙ s.time;
  opens = λ a. let o = s.opens a in record { some = o.some; from = λ now later. off_opens_is cs h g now c off ∙ o.from now later };
}
  where
    here : Off cs h g c
    here = off c (under_self cs c)

pub off_stands : (cs : List HfscClass) (h g : HfscHistory) (last l c : ℕ) (x : Node) → IsTree cs → AllOff cs h g l → is_under cs c l ≡ false
    → NodeStands cs h last c x → NodeStands cs g last c x
off_stands cs h g last l c x t all e s = below_stands cs h g last c x (below_off cs h g l c t all e) s
