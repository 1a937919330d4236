-- Where link sharing alone decides, each class over the leaf that is sent has the least virtual time of its active siblings.
use Rattle.std.proofs.Common.{◌≡◌, ◌≤◌, ◌<◌, ◌⊎◌, inl, inr, ℕ, zero, suc, Bool, true, false, List, [], ◌∷◌, None, Some, length, refl, ap, sym, subst, arith, ◌∙◌}
use Rattle.std.specs.Prelude.{Option, ◌&&◌, MatchOption, if◌then◌else◌}
use Rattle.std.specs.List.{list_all}
use Rattle.service_curve.specs.declared.Curve.{Curve}
use Rattle.altq_model.specs.History.{Event, Offered, Sent as HfscSent, is_kept}
use Rattle.altq_model.specs.Play.{Choice as Named}
use Rattle.altq_model.specs.Policies.{Answering}
use Rattle.discipline.specs.Moments.{IsOrderly}
use Rattle.hfsc_model.specs.declared.HfscClass.{HfscClass}
use Rattle.hfsc_model.specs.Event.{HfscHistory, Enqueued}
use Rattle.hfsc_model.specs.Choice.{Choice, choice, first_choice}
use Rattle.hfsc_model.specs.Leaf.{is_waiting, leaf}
use Rattle.hfsc_model.specs.Limit.{arrivals_of, is_open, is_within, may_share, share_pick, shares_under, within}
use Rattle.hfsc_model.specs.RealTime.{IsRealPick, NoneIsEligible, is_eligible, real_pick}
use Rattle.hfsc_model.specs.Share.{active, total, virtual_time}
use Rattle.hfsc_model.specs.Tree.{class_of, is_child, is_leaf, is_under, path, path_up, reals, IsTree}
use Rattle.hfsc_laws.proofs.Picking.{computed}
use Rattle.hfsc_laws.proofs.Tree.{is_any, parent_of, true_and}
use Rattle.hfsc_order.specs.Order.{AreLeastChildren, IsLeastChild, IsSharePick, NoneMayShare}
use Rattle.hfsc_order.proofs.Picks.{picks}
use Rattle.hfsc_policy.specs.Classes.{HaveNoLimits, IsClassTree}
use Rattle.hfsc_policy.specs.Events.{hfsc_history, is_real, rule_of}
use Rattle.hfsc_policy.specs.Policy.{choice_of, hfsc_policy}
use Rattle.hfsc_policy.proofs.Orderly.{orderly_heads}
use Rattle.hfsc_policy.proofs.Paths.{chosen_may}
use Rattle.hfsc_policy.proofs.Timely.{Follow, orderly_follows}
use Rattle.hfsc_groups.proofs.Opening.{active_is, waits_is}
use Rattle.hfsc_groups.proofs.Under.{same_or_up, IsUp}
use Rattle.fair_shares.specs.Sharing.{AreChoices, HaveNoRealTime, ShareAlone}
use Rattle.fair_shares.specs.Fairness.{IsActiveChild}

-- without limits a class shares wherever it is active
all_within : (cs : List HfscClass) (h : HfscHistory) (now : ℕ) (xs : List ℕ) → HaveNoLimits cs → list_all (is_within cs h now) xs ≡ true
all_within cs h now [] none = refl
all_within cs h now (x ∷ xs) none =
    true_and (is_within cs h now x) (list_all (is_within cs h now) xs)
    (ap (λ (o : Option Curve). within o (arrivals_of cs h x) now (total cs h x)) (none x)) (all_within cs h now xs none)

active_shares : (cs : List HfscClass) (h : HfscHistory) (now c : ℕ) → HaveNoLimits cs → active cs h c ≡ true → shares_under cs h now c ≡ true
active_shares cs h now c none e =
    let x = active_is cs h c e in
    let w = waits_is cs h c x.one x.waits in
    is_any (λ d. is_under cs c d && may_share cs h now d) 0 (length cs) x.one (omega arith) (let low = w.low in omega (arith, low))
    (true_and (is_under cs c x.one) (may_share cs h now x.one) w.under
    (true_and (is_leaf cs x.one) (is_waiting (leaf h x.one).waiting && is_open cs h now x.one) w.leaf_is
    (true_and (is_waiting (leaf h x.one).waiting) (is_open cs h now x.one) w.waiting (all_within cs h now (path cs x.one) none))))

-- each class of the path but the root is a least child of the next
next_path : (cs : List HfscClass) (d p : ℕ) → IsTree cs → (class_of cs d).parent ≡ Some p → path cs d ≡ d ∷ path cs p
next_path cs d p t e = sym (t.levels d) ∙ ap (λ (o : Option ℕ). d ∷ path_up 8 cs o) e

number : (a b : ℕ) → Some a ≡ Some b → a ≡ b
number a b e = cc

least_in : (n : ℕ) (cs : List HfscClass) (h : HfscHistory) (now l p d : ℕ) → IsTree cs → l < n → is_child cs p d ≡ true → is_under cs d l ≡ true
    → AreLeastChildren cs h now (path cs l) → IsLeastChild cs h now p d
least_in zero cs h now l p d t low k u least = absurd (omega (arith, low))
least_in (suc n) cs h now l p d t low k u least = go (class_of cs l).parent refl (λ q m v w. least_in n cs h now q p d t m k v w)
  where
    up : (q : ℕ) → (class_of cs l).parent ≡ Some q → IsLeastChild cs h now q l × AreLeastChildren cs h now (path cs q)
        → (q < n → is_under cs d q ≡ true → AreLeastChildren cs h now (path cs q) → IsLeastChild cs h now p d) → (l ≡ d) ⊎ IsUp cs d l → IsLeastChild cs h now p d
    up q e both rest (inl s) =
        let same : q ≡ p = number q p (sym e ∙ ap (λ m. (class_of cs m).parent) s ∙ parent_of cs p d k) in
        subst (λ m. IsLeastChild cs h now p m) s (subst (λ m. IsLeastChild cs h now m l) same both.0)
    up q e both rest (inr x) =
        let same : x.parent ≡ q = number x.parent q (sym x.of ∙ e) in
        let earlier = t.earlier l q e in
        rest (omega (arith, earlier, low)) (subst (λ m. is_under cs d m ≡ true) same x.under) both.1

    go : (o : Option ℕ) → (class_of cs l).parent ≡ o
        → ((q : ℕ) → q < n → is_under cs d q ≡ true → AreLeastChildren cs h now (path cs q) → IsLeastChild cs h now p d) → IsLeastChild cs h now p d
    go None e rest = absurd (lonely (same_or_up cs d l t u))
      where
        lonely : (l ≡ d) ⊎ IsUp cs d l → ⊥
        lonely (inl s) = let has = parent_of cs p d k in let at = ap (λ m. (class_of cs m).parent) s in absurd cc
        lonely (inr x) = let has = x.of in absurd cc
    go (Some q) e rest = up q e (subst (λ (xs : List ℕ). AreLeastChildren cs h now xs) (next_path cs l q t e) least) (rest q) (same_or_up cs d l t u)

-- without real-time service the choice is by share
no_real_pick : (cs : List HfscClass) (h : HfscHistory) (now : ℕ) → HaveNoRealTime cs → real_pick (reals cs) h now ≡ None
no_real_pick cs h now none = go (real_pick (reals cs) h now) (computed (reals cs) h now)
  where
    go : (o : Option ℕ) → MatchOption o (NoneIsEligible (reals cs) h now) (IsRealPick (reals cs) h now) → o ≡ None
    go None x = refl
    go (Some c) x =
        let no : is_eligible None (leaf h c) now ≡ true = ap (λ (o : Option Curve). is_eligible o (leaf h c) now) (sym (none c)) ∙ x.eligible in
        absurd cc

share_chosen : (cs : List HfscClass) (h : HfscHistory) (now c : ℕ) (real : Bool) → HaveNoRealTime cs → choice cs h now ≡ Some (record { class = c; real = real })
    → share_pick cs h now ≡ Some c
share_chosen cs h now c real none e =
    go (share_pick cs h now) (sym (ap (λ (o : Option ℕ). first_choice o (share_pick cs h now)) (no_real_pick cs h now none)) ∙ e)
  where
    go : (o : Option ℕ) → first_choice None o ≡ Some (record { class = c; real = real }) → o ≡ Some c
    go None f = absurd cc
    go (Some d) f = ap (λ (x : Option Choice). elim x [ None ↦ None | Some y ↦ Some y.class ]) f

pub sent_is_least : (cs : List HfscClass) (h : HfscHistory) (now l : ℕ) (real : Bool) (p d c : ℕ) → ShareAlone cs → choice cs h now ≡ Some (record { class = l; real = real })
    → is_child cs p d ≡ true → is_under cs d l ≡ true → IsActiveChild cs h p c → virtual_time cs h d ≤ virtual_time cs h c
sent_is_least cs h now l real p d c alone e k u x =
    (least_in (suc l) cs h now l p d alone.tree.tree (omega arith) k u pick.levels).least c
    (record { child = x.child; shares = active_shares cs h now c alone.no_limits x.is_active })
  where
    pick : IsSharePick cs h now l
    pick = subst (λ (o : Option ℕ). MatchOption o (NoneMayShare cs h now) (IsSharePick cs h now)) (share_chosen cs h now l real alone.no_real_time e) (picks cs h now alone.tree)

-- the sendings of a policy's history are HFSC's choices
real_rule : (b : Bool) → is_real (rule_of b) ≡ b
real_rule true = refl
real_rule false = refl

abbrev chosen : ℕ → Bool → Choice
chosen c real = record { class = c; real = real }

choice_is : (x : Choice) (c : ℕ) (real : Bool) → x.class ≡ c → x.real ≡ real → Some x ≡ Some (record { class = c; real = real })
choice_is x c real e f = ap (λ (n : ℕ). Some (chosen n x.real)) e ∙ ap (λ (b : Bool). Some (chosen c b)) f

follow_choices : (cs : List HfscClass) (h : List Event) → IsClassTree cs → Follow cs h → AreChoices cs (hfsc_history h)
follow_choices cs [] k f = tt
follow_choices cs (Offered a w v ∷ h) k f = go (is_kept v.verdict) (follow_choices cs h k f.2)
  where
    go : (b : Bool) → AreChoices cs (hfsc_history h) → AreChoices cs (if b then Enqueued a.class a.at a.len ∷ hfsc_history h else hfsc_history h)
    go true x = x
    go false x = x
follow_choices cs (HfscSent s ∷ h) k f =
    let x = f.0 in
    let y = chosen_may cs (hfsc_history h) s.start x.sender k x.may in
    let same : choice_of (Some y.chosen) ≡ record { class = s.class; rule = s.rule } = ap choice_of (sym y.is) ∙ x.pick in
    let class : y.chosen.class ≡ s.class = ap (λ (z : Named). z.class) same in
    let rule : rule_of y.chosen.real ≡ s.rule = ap (λ (z : Named). z.rule) same in
    let real : y.chosen.real ≡ is_real s.rule = sym (real_rule y.chosen.real) ∙ ap is_real rule in
    (y.is ∙ choice_is y.chosen s.class (is_real s.rule) class real, follow_choices cs h k f.1)

pub orderly_choices : (cs : List HfscClass) (answer : Answering) (h : List Event) → IsClassTree cs → IsOrderly (hfsc_policy cs answer) h → AreChoices cs (hfsc_history h)
orderly_choices cs answer h k o = follow_choices cs h k (orderly_follows cs answer h k o (orderly_heads cs answer h o))
