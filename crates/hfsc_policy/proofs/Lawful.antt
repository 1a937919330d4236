-- The policy is lawful.
use Rattle.std.proofs.Common.{◌≡◌, ◌≤◌, ℕ, true, List, [], ◌∷◌, None, Some, length, refl, ap, sym, subst, arith, ◌∙◌}
use Rattle.std.specs.Prelude.{IsTrue, Option}
use Rattle.altq_model.specs.History.{Arrival, Answer, DrawnWords, Event, Offered}
use Rattle.altq_model.specs.Play.{IsOneOf}
use Rattle.altq_model.specs.Policies.{Answering}
use Rattle.altq_model.specs.Lawful.{IsLawful, IsSteady, IsHead, IsCandidate, SendsWhen, NeverWaits}
use Rattle.hfsc_model.specs.declared.HfscClass.{HfscClass}
use Rattle.hfsc_model.specs.Leaf.{leaf}
use Rattle.hfsc_model.specs.Tree.{numbers, is_leaf, path, reals}
use Rattle.hfsc_model.specs.Event.{HfscHistory}
use Rattle.hfsc_model.specs.Share.{total}
use Rattle.hfsc_model.specs.Limit.{arrivals_of}
use Rattle.service_curve.specs.declared.Curve.{Curve}
use Rattle.runtime_curve.specs.Deadline.{later_of}
use Rattle.discipline.specs.Laws.{AreDistinct}
use Rattle.hfsc_model.specs.RealTime.{curve_of, has_come}
use Rattle.hfsc_model.specs.Choice.{may_send, choice, Choice as Chosen}
use Rattle.play_laws.proofs.LawfulLemmas.{when_lawful, when_steady}
use Rattle.play_laws.proofs.TimeLemmas.{head_stays}
use Rattle.hfsc_policy.specs.Events.{hfsc_history}
use Rattle.hfsc_policy.specs.Classes.{IsClassTree, HaveNoLimits, leaves}
use Rattle.hfsc_policy.specs.Policy.{eligible_from, within_from, open_from, earlier_of, send_from, not_before, choice_of, hfsc_policy}
use Rattle.hfsc_policy.proofs.Lists.{once, kept_is, is_kept, in_range}
use Rattle.hfsc_policy.proofs.Moments.{send_is, send_there, from_come, from_least, from_later}
use Rattle.hfsc_policy.proofs.Histories.{head_waits, waits_head}
use Rattle.hfsc_policy.proofs.Offers.{leaf_below, offer_same}
use Rattle.hfsc_policy.proofs.Paths.{IsSender, chosen_may}

pub one_leaf : (cs : List HfscClass) (c : ℕ) → IsOneOf c (leaves cs) → is_leaf cs c ≡ true
one_leaf cs c i = (kept_is (is_leaf cs) (numbers cs) c i).0

pub leaf_one : (cs : List HfscClass) (c : ℕ) → is_leaf cs c ≡ true → IsOneOf c (leaves cs)
leaf_one cs c l = let low = leaf_below cs c l in is_kept (is_leaf cs) (numbers cs) c l (in_range 0 (length cs) c (omega arith) (omega arith))

module _ (cs : List HfscClass) (answer : Answering) (k : IsClassTree cs) where
  -- the test by the moment
  may_is : (h : List Event) (c t : ℕ) (b : Arrival) → IsHead (hfsc_policy cs answer) h c b → may_send cs (hfsc_history h) t c ≡ has_come (send_from cs (hfsc_history h) c) t
  may_is h c t b e = send_is cs (hfsc_history h) t c (one_leaf cs c e.held) (head_waits c h b e.front)

  may_from : (h : List Event) (c t : ℕ) (b : Arrival) → IsHead (hfsc_policy cs answer) h c b
      → may_send cs (hfsc_history h) (not_before t (send_from cs (hfsc_history h) c)) c ≡ true
  may_from h c t b e = may_is h c (not_before t (send_from cs (hfsc_history h) c)) b e ∙ from_come (send_from cs (hfsc_history h) c) t (send_there cs (hfsc_history h) c k)

  least_from : (h : List Event) (c t u : ℕ) (b : Arrival) → IsHead (hfsc_policy cs answer) h c b → t ≤ u → may_send cs (hfsc_history h) u c ≡ true
      → not_before t (send_from cs (hfsc_history h) c) ≤ u
  least_from h c t u b e l m = from_least (send_from cs (hfsc_history h) c) t u l (sym (may_is h c u b e) ∙ m)

  keeps_it : (h : List Event) (a : Arrival) (w : DrawnWords) (v : Answer) (c t : ℕ) (b : Arrival) → IsHead (hfsc_policy cs answer) h c b
      → may_send cs (hfsc_history (Offered a w v ∷ h)) t c ≡ may_send cs (hfsc_history h) t c
  keeps_it h a w v c t b e =
      let l = one_leaf cs c e.held in
      let k2 : List Event = Offered a w v ∷ h in
      send_is cs (hfsc_history k2) t c l (head_waits c k2 b (head_stays c h a w v b e.front))
      ∙ ap (λ (o : Option ℕ). has_come o t) (offer_same cs (hfsc_history h) v.verdict a c l (head_waits c h b e.front))
      ∙ sym (may_is h c t b e)

  sender_of : (h : List Event) (s c : ℕ) → IsCandidate (λ g d t. IsTrue (may_send cs (hfsc_history g) t d)) (hfsc_policy cs answer) h s c → IsSender cs (hfsc_history h) s c
  sender_of h s c x = record { is_leaf = one_leaf cs c x.head.held; waits = head_waits c h x.packet x.head.front; may = x.may }

  picked : (h : List Event) (s c : ℕ) → IsSender cs (hfsc_history h) s c
      → IsCandidate (λ g d t. IsTrue (may_send cs (hfsc_history g) t d)) (hfsc_policy cs answer) h s c
  picked h s c x =
      let y = waits_head c h x.waits in
      record { packet = y.packet; head = record { held = leaf_one cs c x.is_leaf; front = y.front }; may = x.may }

  picks_one : (h : List Event) (s c : ℕ) → IsCandidate (λ g d t. IsTrue (may_send cs (hfsc_history g) t d)) (hfsc_policy cs answer) h s c
      → IsCandidate (λ g d t. IsTrue (may_send cs (hfsc_history g) t d)) (hfsc_policy cs answer) h s (choice_of (choice cs (hfsc_history h) s)).class
  picks_one h s c x =
      let y = chosen_may cs (hfsc_history h) s c k (sender_of h s c x) in
      let P : Option Chosen → Type 0 = λ o. IsCandidate (λ g d t. IsTrue (may_send cs (hfsc_history g) t d)) (hfsc_policy cs answer) h s (choice_of o).class in
      subst P (sym y.is) (picked h s y.chosen.class y.sender)

  pub sends_when : SendsWhen (λ h c t. IsTrue (may_send cs (hfsc_history h) t c)) (hfsc_policy cs answer)
  sends_when = record {
    later = λ h c t b e. from_later (send_from cs (hfsc_history h) c) t;
    may = λ h c t b e. may_from h c t b e;
    least = λ h c t u b e l m. least_from h c t u b e l m;
    keeps = λ h a w v c t b e. (λ m. sym (keeps_it h a w v c t b e) ∙ m, λ m. keeps_it h a w v c t b e ∙ m);
    picks = λ h s c x. picks_one h s c x;
  }

  pub lawful : IsLawful (hfsc_policy cs answer)
  lawful = when_lawful (λ h c t. IsTrue (may_send cs (hfsc_history h) t c)) (hfsc_policy cs answer) sends_when

  pub steady : IsSteady (hfsc_policy cs answer)
  steady = when_steady (λ h c t. IsTrue (may_send cs (hfsc_history h) t c)) (hfsc_policy cs answer) sends_when

-- where no class has a limit any leaf may send at any moment
no_limits : (cs : List HfscClass) (h : HfscHistory) (up : List ℕ) → HaveNoLimits cs → open_from cs h up ≡ Some 0
no_limits cs h [] n = refl
no_limits cs h (c ∷ up) n =
    ap (λ (o : Option Curve). later_of (within_from o (arrivals_of cs h c) (total cs h c)) (open_from cs h up)) (n c) ∙ ap (λ (o : Option ℕ). later_of (Some 0) o) (no_limits cs h up n)

at_once : (o : Option ℕ) (t : ℕ) → not_before t (earlier_of o (Some 0)) ≡ t
at_once None t = omega arith
at_once (Some u) t = omega arith

pub never_waits : (cs : List HfscClass) (answer : Answering) → HaveNoLimits cs → NeverWaits (hfsc_policy cs answer)
never_waits cs answer n h c t b e =
    ap (λ (o : Option ℕ). not_before t (earlier_of (eligible_from (curve_of (reals cs) c) (leaf (hfsc_history h) c)) o)) (no_limits cs (hfsc_history h) (path cs c) n)
    ∙ at_once (eligible_from (curve_of (reals cs) c) (leaf (hfsc_history h) c)) t

pub distinct : (cs : List HfscClass) (answer : Answering) → AreDistinct (hfsc_policy cs answer).classes
distinct cs answer c = once (is_leaf cs) 0 (length cs) c
