-- HFSC of one leaf: its choices, and the policy that they make.
use Rattle.std.proofs.Common.{◌≡◌, ◌∙◌, inl, inr, ℕ, Bool, true, false, List, [], ◌∷◌, None, Some, refl, ap, sym, subst, arith}
use Rattle.std.specs.Prelude.{Option, MatchOption, ◌&&◌, if◌then◌else◌}
use Rattle.std.specs.List.{filter, list_all}
use mathlib.Core.Path.{fun_ext}
use Rattle.service_curve.specs.declared.Curve.{Curve}
use Rattle.altq_model.specs.declared.Rule.TheVariants.{Share}
use Rattle.altq_model.specs.History.{Arrival, Event, waiting}
use Rattle.altq_model.specs.Lawful.{IsOneOf}
use Rattle.altq_model.specs.Play.{Choice, Policy}
use Rattle.altq_model.specs.Policies.{Answering, first_waiting}
use Rattle.hfsc_model.specs.declared.HfscClass.{HfscClass}
use Rattle.hfsc_model.specs.Choice.{by_share, choice, first_choice}
use Rattle.hfsc_model.specs.Event.{HfscHistory}
use Rattle.hfsc_model.specs.Leaf.{is_waiting, leaf}
use Rattle.hfsc_model.specs.Limit.{arrivals_of, is_open, is_within, may_share, share_pick, within}
use Rattle.hfsc_model.specs.RealTime.{NoneIsEligible, before, curve_of, first_by, is_eligible, real_pick}
use Rattle.hfsc_model.specs.Share.{total}
use Rattle.hfsc_model.specs.Tree.{is_leaf, path, reals}
use Rattle.hfsc_laws.proofs.Tree.{and_true}
use Rattle.hfsc_policy.specs.Classes.{IsClassTree, leaves}
use Rattle.hfsc_policy.specs.Events.{hfsc_history, waits}
use Rattle.hfsc_policy.specs.Policy.{choice_of, earlier_of, eligible_from, hfsc_policy, not_before, open_from, send_from, within_from}
use Rattle.hfsc_policy.proofs.Histories.{leaf_waits}
use Rattle.hfsc_policy.proofs.Lawful.{leaf_one, one_leaf}
use Rattle.runtime_curve.specs.Deadline.{later_of}
use Rattle.hfsc_order.specs.Order.{IsSharePick, NoneMayShare}
use Rattle.hfsc_order.proofs.Picks.{picks}
use Rattle.hfsc_order.specs.Queue.{IsOneQueue, queue_of}

-- no head is eligible
not_eligible : (cs : List HfscClass) (l : ℕ) (h : HfscHistory) (now c : ℕ) → IsOneQueue cs l → is_eligible (curve_of (reals cs) c) (leaf h c) now ≡ false
not_eligible cs l h now c q = ap (λ (o : Option Curve). is_eligible o (leaf h c) now) (q.no_real_time c)

pub none_eligible : (cs : List HfscClass) (l : ℕ) (h : HfscHistory) (now : ℕ) → IsOneQueue cs l → NoneIsEligible (reals cs) h now
none_eligible cs l h now q c e = let none = not_eligible cs l h now c q in cc

none_kept : (p : ℕ → Bool) (xs : List ℕ) → ((c : ℕ) → p c ≡ false) → filter p xs ≡ []
none_kept p [] f = refl
none_kept p (x ∷ xs) f = rw (f x) (none_kept p xs f)

none_by_real_time : (cs : List HfscClass) (l : ℕ) (h : HfscHistory) (now : ℕ) → IsOneQueue cs l → real_pick (reals cs) h now ≡ None
none_by_real_time cs l h now q = ap (first_by (before (reals cs) h)) (none_kept _ _ (λ c. not_eligible cs l h now c q))

-- every path is open
all_pass : (p : ℕ → Bool) (xs : List ℕ) → ((c : ℕ) → p c ≡ true) → list_all p xs ≡ true
all_pass p [] f = refl
all_pass p (x ∷ xs) f = rw (f x) (all_pass p xs f)

always_open : (cs : List HfscClass) (l : ℕ) (h : HfscHistory) (now d : ℕ) → IsOneQueue cs l → is_open cs h now d ≡ true
always_open cs l h now d q = all_pass (is_within cs h now) (path cs d)
    (λ c. ap (λ (o : Option Curve). within o (arrivals_of cs h c) now (total cs h c)) (q.no_limits c))

-- the leaf, and no other class
of_one : (c l : ℕ) → IsOneOf c (l ∷ []) → c ≡ l
of_one c l (inl e) = sym e
of_one c l (inr n) = absurd n

leaf_is : (cs : List HfscClass) (l c : ℕ) → IsOneQueue cs l → is_leaf cs c ≡ true → c ≡ l
leaf_is cs l c q e = of_one c l (subst (λ (xs : List ℕ). IsOneOf c xs) q.leaf (leaf_one cs c e))

is_its_leaf : (cs : List HfscClass) (l : ℕ) → IsOneQueue cs l → is_leaf cs l ≡ true
is_its_leaf cs l q = one_leaf cs l (subst (λ (xs : List ℕ). IsOneOf l xs) (sym q.leaf) (inl refl))

-- it may be sent by share exactly where a packet waits in it
may_is : (cs : List HfscClass) (l : ℕ) (h : HfscHistory) (now : ℕ) → IsOneQueue cs l → may_share cs h now l ≡ is_waiting (leaf h l).waiting
may_is cs l h now q = rw (is_its_leaf cs l q, always_open cs l h now l q) (go (is_waiting (leaf h l).waiting))
  where
    go : (b : Bool) → (b && true) ≡ b
    go true = refl
    go false = refl

share_is : (cs : List HfscClass) (l : ℕ) (h : HfscHistory) (now : ℕ) → IsClassTree cs → IsOneQueue cs l
    → share_pick cs h now ≡ (if is_waiting (leaf h l).waiting then Some l else None)
share_is cs l h now k q = go (share_pick cs h now) (picks cs h now k) (is_waiting (leaf h l).waiting) refl
  where
    may : (b : Bool) → is_waiting (leaf h l).waiting ≡ b → may_share cs h now l ≡ b
    may b e = may_is cs l h now q ∙ e

    go : (o : Option ℕ) → MatchOption o (NoneMayShare cs h now) (IsSharePick cs h now) → (b : Bool) → is_waiting (leaf h l).waiting ≡ b
        → o ≡ (if b then Some l else None)
    go None m true e = let here = may true e in let none = m l in absurd cc
    go None m false e = refl
    go (Some x) m true e = ap Some (leaf_is cs l x q (and_true (is_leaf cs x) (is_waiting (leaf h x).waiting && is_open cs h now x) m.opened).0)
    go (Some x) m false e =
        let same = leaf_is cs l x q (and_true (is_leaf cs x) (is_waiting (leaf h x).waiting && is_open cs h now x) m.opened).0 in
        let opened : may_share cs h now l ≡ true = subst (λ (c : ℕ). may_share cs h now c ≡ true) same m.opened in
        let not_here = may false e in
        absurd cc

-- the choice, by whether a packet waits
choice_is : (cs : List HfscClass) (l : ℕ) (h : HfscHistory) (now : ℕ) (b : Bool) → IsClassTree cs → IsOneQueue cs l → is_waiting (leaf h l).waiting ≡ b
    → choice cs h now ≡ (if b then Some (by_share l) else None)
choice_is cs l h now b k q e =
    ap (λ (o : Option ℕ). first_choice o (share_pick cs h now)) (none_by_real_time cs l h now q)
    ∙ ap (first_choice None) (share_is cs l h now k q ∙ ap (λ (d : Bool). if d then Some l else None) e)
    ∙ go b
  where
    go : (d : Bool) → first_choice None (if d then Some l else None) ≡ (if d then Some (by_share l) else None)
    go true = refl
    go false = refl

pub waits_by_share : (cs : List HfscClass) (l : ℕ) (h : HfscHistory) (now : ℕ) → IsClassTree cs → IsOneQueue cs l → is_waiting (leaf h l).waiting ≡ true
    → choice cs h now ≡ Some (by_share l)
waits_by_share cs l h now k q w = choice_is cs l h now true k q w

pub waits_for_none : (cs : List HfscClass) (l : ℕ) (h : HfscHistory) (now : ℕ) → IsClassTree cs → IsOneQueue cs l → is_waiting (leaf h l).waiting ≡ false
    → choice cs h now ≡ None
waits_for_none cs l h now k q w = choice_is cs l h now false k q w

-- every class may send at any moment
opens_at_once : (cs : List HfscClass) (l : ℕ) (h : HfscHistory) (up : List ℕ) → IsOneQueue cs l → open_from cs h up ≡ Some 0
opens_at_once cs l h [] q = refl
opens_at_once cs l h (c ∷ up) q =
    ap (λ (o : Option Curve). later_of (within_from o (arrivals_of cs h c) (total cs h c)) (open_from cs h up)) (q.no_limits c)
    ∙ ap (later_of (Some 0)) (opens_at_once cs l h up q)

at_once : (cs : List HfscClass) (l : ℕ) (h : HfscHistory) (c t : ℕ) → IsOneQueue cs l → not_before t (send_from cs h c) ≡ t
at_once cs l h c t q =
    ap (λ (o : Option ℕ). not_before t (earlier_of (eligible_from (curve_of (reals cs) c) (leaf h c)) o)) (opens_at_once cs l h (path cs c) q)
    ∙ ap (λ (o : Option Curve). not_before t (earlier_of (eligible_from o (leaf h c)) (Some 0))) (q.no_real_time c)
    ∙ (let same : not_before t (Some 0) ≡ t = omega arith in same)

-- what is picked: that class by share, and where nothing waits the same as strict order picks
first_is : (l : ℕ) (h : List Event) → (b : Bool) → is_waiting (waits (waiting l h)) ≡ b → first_waiting (l ∷ []) h ≡ (if b then l else 0)
first_is l h b e = go (waiting l h) b e
  where
    first : List Arrival → ℕ
    first ws = elim ws [ [] ↦ 0 | a ∷ rest ↦ l ]

    go : (ws : List Arrival) (d : Bool) → is_waiting (waits ws) ≡ d → first ws ≡ (if d then l else 0)
    go [] true f = absurd cc
    go [] false f = refl
    go (a ∷ ws) true f = refl
    go (a ∷ ws) false f = absurd cc

pick_is : (cs : List HfscClass) (l : ℕ) (h : List Event) (now : ℕ) → IsClassTree cs → IsOneQueue cs l
    → choice_of (choice cs (hfsc_history h) now) ≡ record { class = first_waiting (l ∷ []) h; rule = Share }
pick_is cs l h now k q = go (is_waiting (leaf (hfsc_history h) l).waiting) refl
  where
    both : (b : Bool) → choice_of (if b then Some (by_share l) else None) ≡ record { class = if b then l else 0; rule = Share }
    both true = refl
    both false = refl

    go : (b : Bool) → is_waiting (leaf (hfsc_history h) l).waiting ≡ b
        → choice_of (choice cs (hfsc_history h) now) ≡ record { class = first_waiting (l ∷ []) h; rule = Share }
    go b e =
        let first = first_is l h b (ap is_waiting (sym (leaf_waits l h)) ∙ e) in
        let same : record { class = if b then l else 0; rule = Share } ≡ record { class = first_waiting (l ∷ []) h; rule = Share } =
        ap (λ (c : ℕ). record { class = c; rule = Share }) (sym first) in
        ap choice_of (choice_is cs l (hfsc_history h) now b k q e) ∙ both b ∙ same

-- a policy that starts and picks so
abbrev policy_with : List ℕ → Answering → (List Event → (c t : ℕ) → ℕ) → (List Event → (t : ℕ) → Choice) → Policy
policy_with classes answer start pick = record { classes = classes; answer = answer; start_from = start; pick = pick }

pub one_queue : (cs : List HfscClass) (l : ℕ) (answer : Answering) → IsClassTree cs → IsOneQueue cs l → hfsc_policy cs answer ≡ queue_of l answer
one_queue cs l answer k q = classes ∙ starts ∙ chosen
  where
    start : List Event → (c t : ℕ) → ℕ
    start h c t = not_before t (send_from cs (hfsc_history h) c)

    pick : List Event → (t : ℕ) → Choice
    pick h t = choice_of (choice cs (hfsc_history h) t)

    classes : policy_with (leaves cs) answer start pick ≡ policy_with (l ∷ []) answer start pick
    classes = ap (λ (xs : List ℕ). policy_with xs answer start pick) q.leaf

    starts : policy_with (l ∷ []) answer start pick ≡ policy_with (l ∷ []) answer (λ h c t. t) pick
    starts = ap (λ (f : List Event → (c t : ℕ) → ℕ). policy_with (l ∷ []) answer f pick)
        (fun_ext (λ h. fun_ext (λ c. fun_ext (λ t. at_once cs l (hfsc_history h) c t q))))

    chosen : policy_with (l ∷ []) answer (λ h c t. t) pick ≡ queue_of l answer
    chosen = ap (λ (f : List Event → (t : ℕ) → Choice). policy_with (l ∷ []) answer (λ h c t. t) f)
        (fun_ext (λ h. fun_ext (λ t. pick_is cs l h t k q)))
