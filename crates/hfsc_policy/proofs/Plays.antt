-- The events of a play follow in order, so its packets are timely.
use Rattle.std.proofs.Common.{◌≡◌, ◌≤◌, ◌<◌, ◌⊎◌, inl, inr, ℕ, max, zero, suc, Bool, true, false, List, [], ◌∷◌, Some, ap, sym, subst, arith, ◌∙◌}
use Rattle.std.specs.Prelude.{slice_get, if◌then◌else◌}
use Rattle.altq_model.specs.declared.Verdict.{Verdict}
use Rattle.altq_model.specs.History.{Arrival, Answer, DrawnWords, Event, Offered, Sent, Sending, LabelledEvent, unlabelled, offered, drawn, is_kept, waiting}
use Rattle.altq_model.specs.Laws.{IsPrompt}
use Rattle.altq_model.specs.Lawful.{AreRising}
use Rattle.altq_model.specs.Link.{link, HasLinkEnds}
use Rattle.altq_model.specs.Play.{Policy, Choice, AreDue}
use Rattle.altq_model.specs.Policies.{Answering}
use Rattle.discipline.specs.Moments.{StartsBy}
use Rattle.play_laws.specs.Events.{IsOffer, IsSending}
use Rattle.play_laws.proofs.AllLaws.{due_laws}
use Rattle.play_laws.proofs.BusyLemmas.{is_busy}
use Rattle.play_laws.proofs.DueLemmas.{offer_event}
use Rattle.play_laws.proofs.LinkLemmas.{end_later}
use Rattle.play_laws.proofs.Starts.{head_of}
use Rattle.play_laws.proofs.TimeLemmas.{IsOnTime, follows, on_time}
use Rattle.hfsc_model.specs.declared.HfscClass.{HfscClass}
use Rattle.hfsc_model.specs.Event.{HfscHistory, Enqueued}
use Rattle.hfsc_model.specs.Leaf.{Waiting, leaf}
use Rattle.hfsc_model.specs.Tree.{reals}
use Rattle.hfsc_model.specs.RealTime.{has_come}
use Rattle.hfsc_model.specs.Timely.{FitLink, IsHead, IsTimely}
use Rattle.hfsc_policy.specs.Events.{hfsc_history, waits, with_offer}
use Rattle.hfsc_policy.specs.Classes.{IsClassTree}
use Rattle.hfsc_policy.specs.Policy.{send_from, hfsc_policy}
use Rattle.hfsc_policy.specs.Heads.{IsSized, AreSized, AreHeads}
use Rattle.hfsc_policy.proofs.Moments.{send_is, send_there, from_come, from_later}
use Rattle.hfsc_policy.proofs.Histories.{leaf_waits, head_waits}
use Rattle.hfsc_policy.proofs.Lawful.{one_leaf, lawful, steady}
use Rattle.hfsc_policy.proofs.Timely.{Follow, are_timely}

starts_later : (t u : ℕ) (h : List Event) → t ≤ u → StartsBy t h → StartsBy u h
starts_later t u [] l s = tt
starts_later t u (Offered a w v ∷ h) l s = starts_later t u h l s
starts_later t u (Sent x ∷ h) l s = (omega (arith, s.0, l), starts_later t u h l s.1)

starts_free : (rate : ℕ) (h : List Event) → 0 < rate → HasLinkEnds rate h → StartsBy (link rate h).free h
starts_free rate [] pos e = tt
starts_free rate (Offered a w v ∷ h) pos e = starts_free rate h pos e
starts_free rate (Sent s ∷ h) pos e =
    let l = end_later rate h s.start s.len pos in
    let k = e.0 in
    (l, starts_later (link rate h).free (link rate (Sent s ∷ h)).free h (omega (arith, l, k)) (starts_free rate h pos e.2))

sized_at : (arrived : List Arrival) (i : ℕ) (a : Arrival) → AreSized arrived → slice_get arrived i ≡ Some a → IsSized a.len
sized_at [] i a x e = absurd cc
sized_at (b ∷ rest) zero a x e = let same : b ≡ a = cc in subst (λ (z : Arrival). IsSized z.len) same x.0
sized_at (b ∷ rest) (suc i) a x e = sized_at rest i a x.1 e

-- the choice by its parts
parts : (x y : Choice) → y.class ≡ x.class → y.rule ≡ x.rule → x ≡ y
parts x y c r = ap (λ n. record { class = n; rule = x.rule }) (sym c) ∙ ap (λ z. record { class = y.class; rule = z }) (sym r)

pub heads_after : (v : Verdict) (a : Arrival) (h : HfscHistory) → IsSized a.len → AreHeads h → AreHeads (with_offer v a h)
heads_after v a h z x = go (is_kept v)
  where
    go : (b : Bool) → AreHeads (if b then Enqueued a.class a.at a.len ∷ h else h)
    go true = (z, x)
    go false = x

-- what is sent is the head
pub front_head : (ws : List Arrival) (b : Arrival) (len : ℕ) → slice_get ws 0 ≡ Some b → len ≡ b.len → IsHead (waits ws) len
front_head [] b len e f = absurd cc
front_head (w ∷ ws) b len e f = let same : w ≡ b = cc in ap (λ (z : Arrival). z.len) same ∙ sym f

module _ (cs : List HfscClass) (answer : Answering) (rate seed : ℕ) (arrived : List Arrival) (pos : 0 < rate) (k : IsClassTree cs) (sized : AreSized arrived) where
  sent_head : (g : List LabelledEvent) (e : LabelledEvent) (y : IsSending (hfsc_policy cs answer) rate arrived g e) → IsHead (leaf (hfsc_history (unlabelled g)) y.sending.class).waiting y.sending.len
  sent_head g e y =
      subst (λ (ws : List Waiting). IsHead ws y.sending.len) (sym (leaf_waits y.sending.class (unlabelled g)))
      (front_head (waiting y.sending.class (unlabelled g)) y.packet y.sending.len y.front y.len)

  sending_follows : (g : List LabelledEvent) (e : LabelledEvent) (y : IsSending (hfsc_policy cs answer) rate arrived g e) → IsOnTime (hfsc_policy cs answer) rate arrived (unlabelled g)
      → HasLinkEnds rate (unlabelled g) → Follow cs (unlabelled g) → Follow cs (Sent y.sending ∷ unlabelled g)
  sending_follows g e y t ends f =
      let s : Sending = y.sending in
      let p : Policy = hfsc_policy cs answer in
      let x = head_of p (link rate (unlabelled g)).free (unlabelled g) s.class s.start y.may.start in
      let l = one_leaf cs s.class y.may.held in
      let w = head_waits s.class (unlabelled g) x.packet x.front in
      let late = t.starts s.class s.start y.may.held y.may.start in
      let there = send_there cs (hfsc_history (unlabelled g)) s.class k in
      let from = x.start in
      let come : has_come (send_from cs (hfsc_history (unlabelled g)) s.class) s.start ≡ true
      = subst (λ (n : ℕ). has_come (send_from cs (hfsc_history (unlabelled g)) s.class) n ≡ true) from
      (from_come (send_from cs (hfsc_history (unlabelled g)) s.class) (max (link rate (unlabelled g)).free x.packet.at) there) in
      let free : (link rate (unlabelled g)).free ≤ s.start
      = let low = from_later (send_from cs (hfsc_history (unlabelled g)) s.class) (max (link rate (unlabelled g)).free x.packet.at) in omega (arith, low, from) in (
        record {
          arrived = late;
          started = starts_later (link rate (unlabelled g)).free s.start (unlabelled g) free (starts_free rate (unlabelled g) pos ends);
          sender = s.class;
          may = record { is_leaf = l; waits = w; may = send_is cs (hfsc_history (unlabelled g)) s.start s.class l w ∙ come };
          pick = parts (p.pick (unlabelled g) s.start) (record { class = s.class; rule = s.rule }) y.class y.rule;
          front = sent_head g e y;
        },
        f,
      )

  event_follows : (g : List LabelledEvent) (e : LabelledEvent) → IsOffer (hfsc_policy cs answer) rate seed arrived g e ⊎ IsSending (hfsc_policy cs answer) rate arrived g e
      → IsOnTime (hfsc_policy cs answer) rate arrived (unlabelled g) → HasLinkEnds rate (unlabelled g) → IsPrompt (unlabelled (e ∷ g)) → Follow cs (unlabelled g) → Follow cs (unlabelled (e ∷ g))
  event_follows g e (inl x) t ends prompt f =
      let p : Policy = hfsc_policy cs answer in
      let w : DrawnWords = record { seed = seed; drawn = drawn (unlabelled g) } in
      let v : Answer = p.answer (unlabelled g) w x.packet in
      let same = offer_event p rate seed arrived g e x in
      let before : IsPrompt (Offered x.packet w v ∷ unlabelled g) = subst (λ (z : Event). IsPrompt (z ∷ unlabelled g)) same prompt in
      subst (λ (z : Event). Follow cs (z ∷ unlabelled g)) (sym same)
      (t.comes (offered (unlabelled g)) x.packet (omega arith) x.next, before.0, f)
  event_follows g e (inr y) t ends prompt f = subst (λ (z : Event). Follow cs (z ∷ unlabelled g)) (sym y.event) (sending_follows g e y t ends f)

  play_follows : (g : List LabelledEvent) → AreRising arrived → AreDue (hfsc_policy cs answer) rate seed arrived g → Follow cs (unlabelled g)
  play_follows [] rise d = tt
  play_follows (e ∷ g) rise d =
      let p : Policy = hfsc_policy cs answer in
      let law = lawful cs answer k in
      let t = on_time p rate seed arrived g pos law rise d.1 in
      event_follows g e (follows p rate seed arrived g e law t d.0) t (due_laws p rate seed arrived g pos law rise d.1).ends
      (due_laws p rate seed arrived (e ∷ g) pos law rise d).prompt (play_follows g rise d.1)

  event_heads : (g : List LabelledEvent) (e : LabelledEvent) → IsOffer (hfsc_policy cs answer) rate seed arrived g e ⊎ IsSending (hfsc_policy cs answer) rate arrived g e
      → AreHeads (hfsc_history (unlabelled g)) → AreHeads (hfsc_history (unlabelled (e ∷ g)))
  event_heads g e (inl x) a =
      let p : Policy = hfsc_policy cs answer in
      let w : DrawnWords = record { seed = seed; drawn = drawn (unlabelled g) } in
      let v : Answer = p.answer (unlabelled g) w x.packet in
      subst (λ (z : Event). AreHeads (hfsc_history (z ∷ unlabelled g))) (sym (offer_event p rate seed arrived g e x))
      (heads_after v.verdict x.packet (hfsc_history (unlabelled g)) (sized_at arrived (offered (unlabelled g)) x.packet sized x.next) a)
  event_heads g e (inr y) a = subst (λ (z : Event). AreHeads (hfsc_history (z ∷ unlabelled g))) (sym y.event) (sent_head g e y, a)

  play_heads : (g : List LabelledEvent) → AreRising arrived → AreDue (hfsc_policy cs answer) rate seed arrived g → AreHeads (hfsc_history (unlabelled g))
  play_heads [] rise d = tt
  play_heads (e ∷ g) rise d =
      let p : Policy = hfsc_policy cs answer in
      let law = lawful cs answer k in
      let t = on_time p rate seed arrived g pos law rise d.1 in
      event_heads g e (follows p rate seed arrived g e law t d.0) (play_heads g rise d.1)

  pub play_timely : (g : List LabelledEvent) → AreRising arrived → AreDue (hfsc_policy cs answer) rate seed arrived g → FitLink rate (reals cs)
      → IsTimely rate (reals cs) (hfsc_history (unlabelled g))
  play_timely g rise d fit =
      let p : Policy = hfsc_policy cs answer in
      let law = lawful cs answer k in
      are_timely cs answer rate (unlabelled g) pos k (play_follows g rise d) (play_heads g rise d) (due_laws p rate seed arrived g pos law rise d).ends
      (is_busy p rate seed arrived g pos law (steady cs answer k) rise d) fit
