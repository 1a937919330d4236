-- What is due is the head of a list that HFSC chooses, or a wait till the least moment at which one may be sent.
use Rattle.std.proofs.Common.{◌≡◌, ◌≤◌, ℕ, Bool, true, false, List, [], ◌∷◌, Some, refl, ap, sym, arith, ◌∙◌}
use Rattle.std.specs.Prelude.{◌↔◌, slice_get}
use Rattle.altq_model.specs.declared.Rule.{Rule}
use Rattle.altq_model.specs.declared.Rule.TheVariants.{RealTime, Share}
use Rattle.leaf_queue.specs.declared.node.Entry.{Entry}
use Rattle.discipline.specs.declared.pick.Pick.TheVariants.{Empty}
use Rattle.altq_model.specs.History.{Arrival, LabelledEvent, unlabelled, waiting}
use Rattle.discipline.specs.Laws.{IsLeast, NamesHead, Sends, Shows, Waits, seen, seen_of}
use Rattle.hfsc_policy.specs.Events.{hfsc_history}
use Rattle.hfsc_policy.proofs.Histories.{waits_head}
use Rattle.hfsc_model.specs.declared.HfscClass.{HfscClass}
use Rattle.hfsc_model.specs.Event.{HfscHistory}
use Rattle.hfsc_model.specs.Leaf.{Waiting, leaf, is_waiting}
use Rattle.hfsc_model.specs.Tree.{is_leaf}
use Rattle.hfsc_policy.proofs.Paths.{IsSender}
use Rattle.hfsc_core.specs.declared.chooser.Chooser.{Chooser}
use Rattle.hfsc_core.specs.declared.chooser.Chosen.{Chosen}
use Rattle.hfsc_core.specs.declared.chooser.Chosen.TheVariants.{Real, Shared, Later, Nothing}
use Rattle.hfsc_core.specs.Chooser.{chosen_now, classes_of, woken_at}
use Rattle.hfsc_core.specs.Hfsc.{Known, lens, lens_of, pick_of, send_head}
use Rattle.hfsc_core.proofs.Choosing.{ChosenIs, IsIdle, IsLater, chosen_is}

-- a list is empty where nothing waits
lens_some : (xs : List Entry) (ws : List Waiting) → lens xs ≡ lens_of ws → is_waiting ws ≡ true → (x : Entry) × (slice_get xs 0 ≡ Some x)
lens_some [] [] e w = absurd cc
lens_some [] (v ∷ ws) e w = absurd cc
lens_some (x ∷ xs) ws e w = (x, refl)

lens_none : (xs : List Entry) (ws : List Waiting) → lens xs ≡ lens_of ws → is_waiting ws ≡ false → xs ≡ []
lens_none [] ws e w = refl
lens_none (x ∷ xs) [] e w = absurd cc
lens_none (x ∷ xs) (v ∷ ws) e w = absurd cc

sent_names : (lists : ℕ → List Entry) (c : ℕ) (r : Rule) (x : Entry) (xs : List Entry) → lists c ≡ xs → slice_get xs 0 ≡ Some x → NamesHead lists (send_head c r xs)
sent_names lists c r x [] e f = absurd cc
sent_names lists c r x (y ∷ xs) e f = (y.prec, ap (λ (zs : List Entry). slice_get zs 0) e)

sent_sends : (c : ℕ) (r : Rule) (x : Entry) (xs : List Entry) → slice_get xs 0 ≡ Some x → Sends (send_head c r xs)
sent_sends c r x [] e = absurd cc
sent_sends c r x (y ∷ xs) e = tt

-- where it is no sending no leaf may send
abbrev IsSending : Chosen → Type 0
IsSending (Real c) = Unit {0}
IsSending (Shared c) = Unit {0}
IsSending (Later t) = ⊥
IsSending Nothing = ⊥

chosen_sends : (lists : ℕ → List Entry) (k : Chosen) → Sends (pick_of lists k) → IsSending k
chosen_sends lists (Real c) s = tt
chosen_sends lists (Shared c) s = tt
chosen_sends lists (Later t) s = s
chosen_sends lists Nothing s = s

sending_one : (cs : List HfscClass) (h : HfscHistory) (now : ℕ) (k : Chosen) → ChosenIs cs h now k → IsSending k → (c : ℕ) × IsSender cs h now c
sending_one cs h now (Real c) i s = (c, i.1)
sending_one cs h now (Shared c) i s = (c, i.1)
sending_one cs h now (Later t) i s = absurd s
sending_one cs h now Nothing i s = absurd s

no_wait_where : (cs : List HfscClass) (h : HfscHistory) (now c : ℕ) (k : Chosen) → ChosenIs cs h now k → IsSender cs h now c → IsSending k
no_wait_where cs h now c (Real d) i s = tt
no_wait_where cs h now c (Shared d) i s = tt
no_wait_where cs h now c (Later t) i s = let later = i.later in i.none now (omega arith) later c s
no_wait_where cs h now c Nothing i s = i c s.is_leaf s.waits

module _ (x : Chooser) (lists : ℕ → List Entry) (kept : ℕ) (h : HfscHistory) (k : Known x lists kept h) where
  head_of : (now c : ℕ) → IsSender (classes_of x) h now c → (e : Entry) × (slice_get (lists c) 0 ≡ Some e)
  head_of now c s = lens_some (lists c) (leaf h c).waiting (k.shown c) s.waits

  names_at : (now : ℕ) (p : Chosen) → ChosenIs (classes_of x) h now p → NamesHead lists (pick_of lists p)
  names_at now (Real c) i = let e = head_of now c i.1 in sent_names lists c RealTime e.0 (lists c) refl e.1
  names_at now (Shared c) i = let e = head_of now c i.1 in sent_names lists c Share e.0 (lists c) refl e.1
  names_at now (Later t) i = tt
  names_at now Nothing i = tt

  sends_at : (now : ℕ) (p : Chosen) → ChosenIs (classes_of x) h now p → IsSending p → Sends (pick_of lists p)
  sends_at now (Real c) i s = let e = head_of now c i.1 in sent_sends c RealTime e.0 (lists c) e.1
  sends_at now (Shared c) i s = let e = head_of now c i.1 in sent_sends c Share e.0 (lists c) e.1
  sends_at now (Later t) i s = absurd s
  sends_at now Nothing i s = absurd s

  pub names_head : (now : ℕ) → woken_at x ≤ now → NamesHead lists (pick_of lists (chosen_now x now))
  names_head now l = names_at now (chosen_now x now) (chosen_is x h k.stands now l)

  least_at : (now t : ℕ) → woken_at x ≤ now → IsLater (classes_of x) h now t → IsLeast (λ u. pick_of lists (chosen_now x u)) now t
  least_at now t l i =
      let later = i.later in
      let at = chosen_is x h k.stands t (omega (arith, l, later)) in
      record {
        later = later;
        sends = sends_at t (chosen_now x t) at (no_wait_where (classes_of x) h t i.sender (chosen_now x t) at i.may);
        least = λ u a b s.
            let is = chosen_is x h k.stands u (omega (arith, l, a)) in
            let one = sending_one (classes_of x) h u (chosen_now x u) is (chosen_sends lists (chosen_now x u) s) in
            i.none u a b one.0 one.1;
      }

  waits_at : (now : ℕ) (p : Chosen) → woken_at x ≤ now → ChosenIs (classes_of x) h now p → Waits (λ u. pick_of lists (chosen_now x u)) now (pick_of lists p)
  waits_at now (Real c) l i = sent_waits (lists c)
    where
      sent_waits : (xs : List Entry) → Waits (λ u. pick_of lists (chosen_now x u)) now (send_head c RealTime xs)
      sent_waits [] = tt
      sent_waits (y ∷ ys) = tt
  waits_at now (Shared c) l i = sent_waits (lists c)
    where
      sent_waits : (xs : List Entry) → Waits (λ u. pick_of lists (chosen_now x u)) now (send_head c Share xs)
      sent_waits [] = tt
      sent_waits (y ∷ ys) = tt
  waits_at now (Later t) l i = least_at now t l i
  waits_at now Nothing l i = tt

  pub waits_least : (now : ℕ) → woken_at x ≤ now → Waits (λ u. pick_of lists (chosen_now x u)) now (pick_of lists (chosen_now x now))
  waits_least now l = waits_at now (chosen_now x now) l (chosen_is x h k.stands now l)

  -- nothing is due exactly where every list is empty
  all_empty : IsIdle (classes_of x) h → (c : ℕ) → lists c ≡ []
  all_empty i c = lens_none (lists c) (leaf h c).waiting (k.shown c) (go (is_leaf (classes_of x) c) refl (is_waiting (leaf h c).waiting) refl)
    where
      go : (b : Bool) → is_leaf (classes_of x) c ≡ b → (w : Bool) → is_waiting (leaf h c).waiting ≡ w → is_waiting (leaf h c).waiting ≡ false
      go b e false f = f
      go true e true f = absurd (i c e f)
      go false e true f = ap is_waiting (k.stands.inside c e)

  sent_some : (c : ℕ) (r : Rule) (e : Entry) → slice_get (lists c) 0 ≡ Some e → ((d : ℕ) → lists d ≡ []) → ⊥
  sent_some c r e f g = let none = ap (λ (zs : List Entry). slice_get zs 0) (sym (g c)) ∙ f in cc

  not_empty : (c : ℕ) (r : Rule) (e : Entry) (xs : List Entry) → slice_get xs 0 ≡ Some e → send_head c r xs ≡ Empty → ⊥
  not_empty c r e [] f g = cc
  not_empty c r e (y ∷ ys) f g = cc

  empty_at : (now : ℕ) (p : Chosen) → ChosenIs (classes_of x) h now p → (pick_of lists p ≡ Empty) ↔ ((c : ℕ) → lists c ≡ [])
  empty_at now (Real c) i = let e = head_of now c i.1 in (λ f. absurd (not_empty c RealTime e.0 (lists c) e.1 f), λ f. absurd (sent_some c RealTime e.0 e.1 f))
  empty_at now (Shared c) i = let e = head_of now c i.1 in (λ f. absurd (not_empty c Share e.0 (lists c) e.1 f), λ f. absurd (sent_some c Share e.0 e.1 f))
  empty_at now (Later t) i = let e = head_of t i.sender i.may in (λ f. absurd cc, λ f. absurd (sent_some i.sender Share e.0 e.1 f))
  empty_at now Nothing i = (λ f. all_empty i, λ f. refl)

  pub empty_is : (now : ℕ) → woken_at x ≤ now → (pick_of lists (chosen_now x now) ≡ Empty) ↔ ((c : ℕ) → lists c ≡ [])
  empty_is now l = empty_at now (chosen_now x now) (chosen_is x h k.stands now l)

-- a list shows what waits
seen_some : (xs : List Entry) (ws : List Arrival) (b : Arrival) → seen xs ≡ seen_of ws → slice_get ws 0 ≡ Some b → (x : Entry) × (slice_get xs 0 ≡ Some x)
seen_some [] [] b e f = absurd cc
seen_some [] (w ∷ ws) b e f = absurd cc
seen_some (x ∷ xs) ws b e f = (x, refl)

pub shown_head : (c : ℕ) (xs : List Entry) (h : List LabelledEvent) → Shows c xs h → is_waiting (leaf (hfsc_history (unlabelled h)) c).waiting ≡ true → (x : Entry) × (slice_get xs 0 ≡ Some x)
shown_head c xs h s w = let y = waits_head c (unlabelled h) w in seen_some xs (waiting c (unlabelled h)) y.packet s.packets y.front
