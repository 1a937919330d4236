-- The sending that is due is of a leaf that may send, of its head, and by its rule.
use Rattle.std.proofs.Common.{◌≡◌, ◌<◌, ◌≤◌, ℕ, List, [], ◌∷◌, Some, refl, ap, sym, subst, arith, ◌∙◌, drop, length}
use Rattle.std.specs.Prelude.{Option, slice_get}
use Rattle.std.specs.Option.{option_map}
use Rattle.ranking.proofs.Ranks.{same_test}
use Rattle.altq_model.specs.declared.Rule.{Rule}
use Rattle.altq_model.specs.declared.Rule.TheVariants.{RealTime, Share}
use Rattle.altq_model.specs.History.{LabelledEvent, unlabelled}
use Rattle.altq_model.specs.Play.{Choice, Policy}
use Rattle.play_base.specs.declared.packet.Ticket.{Ticket}
use Rattle.link_clock.specs.Clock.{Clock}
use Rattle.leaf_queue.specs.declared.node.Entry.{Entry}
use Rattle.leaf_queue.specs.Queue.{QueueEvent, Saying}
use Rattle.discipline.specs.declared.pick.Pick.TheVariants.{Send}
use Rattle.discipline.specs.declared.pick.Sending.{Sending}
use Rattle.discipline.specs.Laws.{after_sent, sent_of}
use Rattle.discipline.specs.Moments.{IsChoice, IsOrderly, WasDue}
use Rattle.class_rows.specs.Rows.{ClassQueuesView, SameRow, RowRepresents, answering, list_in}
use Rattle.hfsc_model.specs.declared.HfscClass.{HfscClass}
use Rattle.hfsc_model.specs.Event.{HfscHistory}
use Rattle.hfsc_model.specs.Event.{Sent as HfscSent}
use Rattle.hfsc_model.specs.Leaf.{Waiting, leaf, head_len}
use Rattle.hfsc_model.specs.Timely.{IsHead}
use Rattle.hfsc_model.specs.Choice.{choice}
use Rattle.hfsc_policy.specs.Events.{hfsc_history, is_real}
use Rattle.hfsc_policy.specs.Policy.{choice_of}
use Rattle.hfsc_policy.proofs.Paths.{IsSender}
use Rattle.hfsc_core.specs.declared.chooser.Chooser.{Chooser}
use Rattle.hfsc_core.specs.declared.chooser.Chosen.{Chosen}
use Rattle.hfsc_core.specs.declared.chooser.Chosen.TheVariants.{Real, Shared, Later, Nothing}
use Rattle.hfsc_core.specs.Chooser.{MayLeave, Represents, chosen_now, classes_of, woken_at}
use Rattle.hfsc_core.specs.Hfsc.{HfscView, HfscStands, Known, due_of, lens, lens_of, pick_of, policy_of, send_head}
use Rattle.class_rows.proofs.FrontLemmas.{front_shown}
use Rattle.hfsc_core.proofs.Choosing.{ChosenIs, chosen_is}
use Rattle.hfsc_core.proofs.Policy.{now_first}
use Rattle.hfsc_core.proofs.Standing.{same_policy}

pub record IsSent (cs : List HfscClass) (h : HfscHistory) (list : List Entry) (now c len : ℕ) (r : Rule) : Type 0 where
  pub sender : IsSender cs h now c
  pub front : Entry
  pub here : slice_get list 0 ≡ Some front
  pub long : front.len ≡ len
  pub pick : choice_of (choice cs h now) ≡ record { class = c; rule = r }

-- a list with a front holds something
pub has_front : (xs : List Entry) (x : Entry) → slice_get xs 0 ≡ Some x → 0 < length xs
has_front [] x e = absurd cc
has_front (y ∷ ys) x e = omega arith

from_head : (cs : List HfscClass) (h : HfscHistory) (lists : ℕ → List Entry) (now : ℕ) (p : Choice) (c len : ℕ) (r : Rule) (t : Ticket) (xs : List Entry) → lists p.class ≡ xs
    → send_head p.class p.rule xs ≡ Send t c len r → choice_of (choice cs h now) ≡ p → IsSender cs h now p.class → IsSent cs h (lists c) now c len r
from_head cs h lists now p c len r t [] e f k s = absurd cc
from_head cs h lists now p c len r t (x ∷ xs) e f k s =
    let class : p.class ≡ c = cc in
    let long : x.len ≡ len = cc in
    let rule : p.rule ≡ r = cc in
    subst (λ n. IsSent cs h (lists n) now n len r) class (record {
      sender = s;
      front = x;
      here = ap (λ (ys : List Entry). slice_get ys 0) e;
      long = long;
      pick = k ∙ ap {B = Choice} (λ (z : Rule). record { class = p.class; rule = z }) rule;
    })

pub sent_is : (cs : List HfscClass) (h : HfscHistory) (lists : ℕ → List Entry) (now c len : ℕ) (r : Rule) (t : Ticket) (q : Chosen) → ChosenIs cs h now q
    → pick_of lists q ≡ Send t c len r → IsSent cs h (lists c) now c len r
sent_is cs h lists now c len r t (Real d) i e = from_head cs h lists now (record { class = d; rule = RealTime }) c len r t (lists d) refl e (ap choice_of i.0) i.1
sent_is cs h lists now c len r t (Shared d) i e = from_head cs h lists now (record { class = d; rule = Share }) c len r t (lists d) refl e (ap choice_of i.0) i.1
sent_is cs h lists now c len r t (Later u) i e = absurd cc
sent_is cs h lists now c len r t Nothing i e = absurd cc

-- the head, and the next
head_is : (xs : List Entry) (ws : List Waiting) (x : Entry) (len : ℕ) → lens xs ≡ lens_of ws → slice_get xs 0 ≡ Some x → x.len ≡ len → IsHead ws len
head_is [] ws x len e f g = absurd cc
head_is (y ∷ xs) [] x len e f g = absurd cc
head_is (y ∷ xs) (w ∷ ws) x len e f g = let one : y ≡ x = cc in let two : y.len ≡ w.len = cc in sym two ∙ ap (λ (z : Entry). z.len) one ∙ g

next_is : (xs : List Entry) (ws : List Waiting) → lens xs ≡ lens_of ws → option_map (λ (x : Entry). x.len) (slice_get (drop 1 xs) 0) ≡ head_len (drop 1 ws)
next_is [] [] e = refl
next_is [] (w ∷ ws) e = absurd cc
next_is (x ∷ xs) [] e = absurd cc
next_is (x ∷ []) (w ∷ []) e = refl
next_is (x ∷ []) (w ∷ v ∷ ws) e = absurd cc
next_is (x ∷ y ∷ xs) (w ∷ []) e = absurd cc
next_is (x ∷ y ∷ xs) (w ∷ v ∷ ws) e = let one : y.len ≡ v.len = cc in ap Some one

here_after : (lists : ℕ → List Entry) (class : ℕ) → after_sent class lists class ≡ drop 1 (lists class)
here_after lists class = rw (same_test class) refl

pub may_leave : (x : Chooser) (lists new : ℕ → List Entry) (kept now class len : ℕ) (r : Rule) (head : Option ℕ) (h : HfscHistory) → Known x lists kept h
    → IsSent (classes_of x) h (lists class) now class len r → new class ≡ after_sent class lists class
    → head ≡ option_map (λ (e : Entry). e.len) (slice_get (new class) 0) → MayLeave x h class len head
may_leave x lists new kept now class len r head h k s e f = record {
  stands = k.stands;
  front = head_is (lists class) (leaf h class).waiting s.front len (k.shown class) s.here s.long;
  next = f ∙ ap (λ (xs : List Entry). option_map (λ (z : Entry). z.len) (slice_get xs 0)) (e ∙ here_after lists class)
      ∙ next_is (lists class) (leaf h class).waiting (k.shown class);
}

module _ {Q : Type 0} (stands : Q → List QueueEvent → Type 0) (says : Q → Saying) (most : Q → ℕ) where
  pub sent_of_due : (d : HfscView Q) (h : List LabelledEvent) (s : Sending) → HfscStands stands says d h → woken_at d.chooser ≤ s.start
      → due_of d s.start ≡ Send s.ticket s.class s.len s.rule → IsSent (classes_of d.chooser) (hfsc_history (unlabelled h)) (list_in d.rows s.class) s.start s.class s.len s.rule
  sent_of_due d h s k later due =
      sent_is (classes_of d.chooser) (hfsc_history (unlabelled h)) (list_in d.rows) s.start s.class s.len s.rule s.ticket (chosen_now d.chooser s.start)
      (chosen_is d.chooser (hfsc_history (unlabelled h)) k.chooser s.start later) due

  pub sent_stands : (d : HfscView Q) (y : Chooser) (rows : ClassQueuesView Q) (h : List LabelledEvent) (clock : Clock) (s : Sending) → SameRow most says d.rows rows → HfscStands stands says d h
      → RowRepresents stands rows (sent_of s ∷ h) → IsChoice s.start clock (unlabelled h)
      → IsSent (classes_of d.chooser) (hfsc_history (unlabelled h)) (list_in d.rows s.class) s.start s.class s.len s.rule
      → classes_of y ≡ classes_of d.chooser → woken_at y ≡ woken_at d.chooser → Represents y (HfscSent s.class s.len (is_real s.rule) s.start ∷ hfsc_history (unlabelled h))
      → HfscStands stands says (record { chooser = y; rows = rows; kept = d.kept }) (sent_of s ∷ h)
  sent_stands d y rows h clock s same k recorded o x classes woken t =
      let n : HfscView Q = record { chooser = y; rows = rows; kept = d.kept } in
      let f = front_shown s.class (list_in d.rows s.class) h x.front (k.recorded.shown s.class) x.here in
      let was : WasDue (policy_of says d) (unlabelled h) (record { class = s.class; len = s.len; rule = s.rule; start = s.start; end = s.end }) = record {
        packet = f.packet;
        front = f.front;
        len = sym x.long ∙ f.len;
        arrived = o.arrived;
        started = o.started;
        first = now_first (classes_of d.chooser) (answering says d.rows) (unlabelled h) k.chooser.tree s.start s.class x.sender;
        pick = x.pick;
      } in
      record {
        recorded = recorded;
        chooser = t;
        kept = k.kept;
        counted = k.counted;
        woken = λ u l. let by = k.woken u l in omega (arith, by, woken);
        orderly = subst (λ (p : Policy). IsOrderly p (unlabelled (sent_of s ∷ h))) (sym (same_policy most says d n same classes)) (was, k.orderly);
      }
