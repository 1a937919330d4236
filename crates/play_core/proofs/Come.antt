-- One more event of a play.
use Rattle.std.proofs.Common.{◌≡◌, ◌≤◌, ◌<◌, ◌∙◌, ◌⊎◌, inl, inr, ℕ, max, true, false, cond, List, [], ◌∷◌, None, Some, refl, ap, sym, subst, arith}
use Rattle.std.specs.Prelude.{slice_get, nat_le, option_map}
use Rattle.std.specs.declared.option.Option.{Option}
use Rattle.altq_model.specs.History.{Arrival, Event, Offered, Sent, Sending, LabelledEvent, unlabelled, offered, head, labels}
use Rattle.altq_model.specs.Laws.{IsLate}
use Rattle.altq_model.specs.Link.{link, end_of, HasLinkEnds}
use Rattle.altq_model.specs.Play.{Policy, Choice, due, due_from, first_start, offer_of, sent_at, head_sent}
use Rattle.altq_model.specs.Lawful.{IsLawful, IsSteady, AreRising, first_at, latest}
use Rattle.play_laws.specs.Events.{HasLaws, IsOffer, IsSending}
use Rattle.play_laws.proofs.AllLaws.{due_laws}
use Rattle.play_laws.proofs.EndLemmas.{is_over}
use Rattle.play_laws.proofs.LinkLemmas.{end_later}
use Rattle.play_laws.proofs.TimeLemmas.{one_moment}
use Rattle.link_clock.specs.Clock.{Clock}
use Rattle.discipline.specs.declared.pick.Sending.{Sending as Ticketed}
use Rattle.discipline.specs.Moments.{IsChoice, StartsBy}
use Rattle.play_core.specs.declared.step.Step.{Step}
use Rattle.play_core.specs.declared.step.Step.TheVariants.{End, Offer, Send, Late}
use Rattle.play_core.specs.Ended.{IsBegun, IsCutOff}
use Rattle.play_core.specs.Steps.{IsStep, SendsHead, comes_by}
use Rattle.play_core.proofs.StepLemmas.{starts_later}

-- the first events of a play of arrivals in order, by a policy that may be played from one moment for all classes
pub record HasCome (p : Policy) (rate seed : ℕ) (arrived : List Arrival) (g : List LabelledEvent) : Type 0 where
  pub positive : 0 < rate
  pub lawful : IsLawful p
  pub steady : IsSteady p
  pub rising : AreRising arrived
  pub begun : IsBegun p rate seed arrived g

pub laws_of : {p : Policy} {rate seed : ℕ} {arrived : List Arrival} {g : List LabelledEvent} → HasCome p rate seed arrived g → HasLaws p rate seed arrived g
laws_of x = due_laws _ _ _ _ _ x.positive x.lawful x.rising x.begun.events

-- the clock after a history, the moment from which the next event is sought, and when the next arrival comes
abbrev pub clock_after : (rate : ℕ) → List Event → Clock
clock_after rate h = record { rate = rate; link = link rate h }

abbrev pub moment_after : (rate : ℕ) → List Event → ℕ
moment_after rate h = max (link rate h).free (latest h)

abbrev pub next_at : List Arrival → List LabelledEvent → Option ℕ
next_at arrived g = option_map (λ (a : Arrival). a.at) (slice_get arrived (offered (unlabelled g)))

abbrev pub ComesNow : Policy → (rate : ℕ) → List Arrival → List LabelledEvent → Step → Type 0
ComesNow p rate arrived g step = IsStep p (clock_after rate (unlabelled g)) (moment_after rate (unlabelled g)) (unlabelled g) (next_at arrived g) step

-- each start is before the last end, or at it
starts_free : (rate : ℕ) (h : List Event) → 0 < rate → HasLinkEnds rate h → StartsBy (link rate h).free h
starts_free rate [] pos e = tt
starts_free rate (Offered a w v ∷ h) pos e = starts_free rate h pos e
starts_free rate (Sent s ∷ h) pos e =
    let l = end_later rate h s.start s.len pos in
    (l, starts_later (link rate h).free (link rate (Sent s ∷ h)).free h (omega (arith, l, e.0)) (starts_free rate h pos e.2))

pub choice : (p : Policy) (rate seed : ℕ) (arrived : List Arrival) (g : List LabelledEvent) → HasCome p rate seed arrived g
    → IsChoice (moment_after rate (unlabelled g)) (clock_after rate (unlabelled g)) (unlabelled g)
choice p rate seed arrived g x = record {
  arrived = omega arith;
  started = starts_later (link rate (unlabelled g)).free (moment_after rate (unlabelled g)) (unlabelled g) (omega arith) (starts_free rate (unlabelled g) x.positive (laws_of x).ends);
  link = refl;
}

due_at : (p : Policy) (rate seed : ℕ) (arrived : List Arrival) (g : List LabelledEvent) → HasCome p rate seed arrived g
    → due p rate seed arrived g ≡ due_from p rate seed g (slice_get arrived (offered (unlabelled g))) (first_at p (moment_after rate (unlabelled g)) (unlabelled g) p.classes)
due_at p rate seed arrived g x =
    ap (λ (o : Option ℕ). due_from p rate seed g (slice_get arrived (offered (unlabelled g))) o)
    (one_moment p rate seed arrived g x.positive x.lawful x.steady x.rising x.begun.events)

end_from : (p : Policy) (rate seed : ℕ) (g : List LabelledEvent) (a : Option Arrival) (o : Option ℕ) → o ≡ None → option_map (λ (b : Arrival). b.at) a ≡ None
    → due_from p rate seed g a o ≡ None
end_from p rate seed g None None e n = refl
end_from p rate seed g None (Some s) e n = absurd (cc)
end_from p rate seed g (Some a) o e n = absurd (cc)

pub come_end : (p : Policy) (rate seed : ℕ) (arrived : List Arrival) (g : List LabelledEvent) → HasCome p rate seed arrived g → ComesNow p rate arrived g End
    → due p rate seed arrived g ≡ None
come_end p rate seed arrived g x e = due_at p rate seed arrived g x ∙ end_from p rate seed g _ _ e.0 e.1

offered_first : (p : Policy) (rate seed : ℕ) (g : List LabelledEvent) (a : Arrival) (at : ℕ) (o : Option ℕ) → at ≡ a.at → ((s : ℕ) → o ≡ Some s → at ≤ s)
    → due_from p rate seed g (Some a) o ≡ Some (offer_of p seed g a)
offered_first p rate seed g a at None e h = refl
offered_first p rate seed g a at (Some s) e h =
    let l = h s refl in
    let t : nat_le a.at s ≡ true = grind (arith, l, e) in
    ap (λ b. cond b (Some (offer_of p seed g a)) (sent_at rate g s (p.pick (unlabelled g) s))) t

same_at : (o : Option Arrival) (a : Arrival) (at : ℕ) → o ≡ Some a → option_map (λ (b : Arrival). b.at) o ≡ Some at → at ≡ a.at
same_at o a at e h =
    let x : Some a.at ≡ Some at = ap (λ (q : Option Arrival). option_map (λ (b : Arrival). b.at) q) (sym e) ∙ h in
    let y : a.at ≡ at = cc in sym y

pub due_offer : (p : Policy) (rate seed : ℕ) (arrived : List Arrival) (g : List LabelledEvent) (a : Arrival) → HasCome p rate seed arrived g → ComesNow p rate arrived g Offer
    → slice_get arrived (offered (unlabelled g)) ≡ Some a → due p rate seed arrived g ≡ Some (offer_of p seed g a)
due_offer p rate seed arrived g a x o e =
    due_at p rate seed arrived g x
    ∙ ap (λ (q : Option Arrival). due_from p rate seed g q (first_at p (moment_after rate (unlabelled g)) (unlabelled g) p.classes)) e
    ∙ offered_first p rate seed g a o.at _ (same_at _ a o.at e o.next) o.first

-- a sending, as the play's history has it
abbrev pub bare_sending : Ticketed → Sending
bare_sending s = record { class = s.class; len = s.len; rule = s.rule; start = s.start; end = s.end }

abbrev pub sent_as : (n : ℕ) → Ticketed → LabelledEvent
sent_as n s = record { label = n; what = Sent (bare_sending s) }

not_yet : (p : Policy) (rate seed : ℕ) (g : List LabelledEvent) (o : Option Arrival) (s : ℕ) → comes_by (option_map (λ (a : Arrival). a.at) o) s ≡ false
    → due_from p rate seed g o (Some s) ≡ sent_at rate g s (p.pick (unlabelled g) s)
not_yet p rate seed g None s h = refl
not_yet p rate seed g (Some a) s h = ap (λ b. cond b (Some (offer_of p seed g a)) (sent_at rate g s (p.pick (unlabelled g) s))) h

head_goes : (p : Policy) (rate : ℕ) (g : List LabelledEvent) (n : ℕ) (s : Ticketed) → SendsHead p (unlabelled g) s → slice_get (labels s.class g) 0 ≡ Some n
    → s.end ≡ end_of rate (link rate (unlabelled g)) s.start s.len → sent_at rate g s.start (p.pick (unlabelled g) s.start) ≡ Some (sent_as n s)
head_goes p rate g n s x num e =
    let C : Choice = record { class = s.class; rule = s.rule } in
    let T : ℕ → ℕ → LabelledEvent = λ m t. record { label = n; what = Sent (record { class = s.class; len = m; rule = s.rule; start = s.start; end = t }) } in
    ap (λ (c : Choice). sent_at rate g s.start c) x.pick
    ∙ ap (λ (o : Option ℕ). head_sent rate g s.start C o (head s.class (unlabelled g))) num
    ∙ ap (λ (o : Option Arrival). head_sent rate g s.start C (Some n) o) x.front
    ∙ ap (λ (m : ℕ). Some (T m (end_of rate (link rate (unlabelled g)) s.start m))) x.len
    ∙ ap (λ (t : ℕ). Some (T s.len t)) (sym e)

pub due_sending : (p : Policy) (rate seed : ℕ) (arrived : List Arrival) (g : List LabelledEvent) (n : ℕ) (s : Ticketed) → HasCome p rate seed arrived g
    → ComesNow p rate arrived g (Send s) → slice_get (labels s.class g) 0 ≡ Some n → s.end ≡ end_of rate (link rate (unlabelled g)) s.start s.len
    → due p rate seed arrived g ≡ Some (sent_as n s)
due_sending p rate seed arrived g n s x o num e =
    due_at p rate seed arrived g x
    ∙ ap (λ (q : Option ℕ). due_from p rate seed g (slice_get arrived (offered (unlabelled g))) q) (o.first ∙ ap (λ (k : ℕ). Some k) (sym o.sent.0))
    ∙ not_yet p rate seed g (slice_get arrived (offered (unlabelled g))) s.start (ap (λ (k : ℕ). comes_by (next_at arrived g) k) o.sent.0 ∙ o.later)
    ∙ head_goes p rate g n s o.sent.1 num e

no_start : (o : Option ℕ) (s : ℕ) → o ≡ None → o ≡ Some s → ⊥
no_start o s n e = let k : None ≡ Some s = sym n ∙ e in (cc)

same_start : (s t : ℕ) → Some s ≡ Some t → s ≡ t
same_start s t h = cc

not_passed : (o : Option Arrival) (a : Arrival) (t : ℕ) → o ≡ Some a → a.at ≤ t → comes_by (option_map (λ (b : Arrival). b.at) o) t ≡ false → ⊥
not_passed o a t e l h =
    let k : nat_le a.at t ≡ false = ap (λ (q : Option Arrival). comes_by (option_map (λ (b : Arrival). b.at) q) t) (sym e) ∙ h in
    let m : nat_le a.at t ≡ true = grind (arith, l) in
    let x : true ≡ false = sym m ∙ k in (cc)

-- where the head of the pick would end too late, so does the event that follows
late_case : (p : Policy) (rate seed : ℕ) (arrived : List Arrival) (g : List LabelledEvent) (e : LabelledEvent) → (o : ComesNow p rate arrived g Late)
    → first_start p (link rate (unlabelled g)).free (unlabelled g) p.classes ≡ Some o.start → IsOffer p rate seed arrived g e ⊎ IsSending p rate arrived g e → IsLate e.what
late_case p rate seed arrived g e o first (inl y) =
    absurd (not_passed (slice_get arrived (offered (unlabelled g))) y.packet o.start y.next (y.first o.start first) o.later)
late_case p rate seed arrived g e o first (inr y) =
    let at : y.sending.start ≡ o.start = same_start y.sending.start o.start (sym y.least ∙ first) in
    let class : y.sending.class ≡ (p.pick (unlabelled g) o.start).class = y.class ∙ ap (λ (t : ℕ). (p.pick (unlabelled g) t).class) at in
    let E : y.sending.end ≡ end_of rate (link rate (unlabelled g)) o.start y.packet.len =
    y.end ∙ ap (λ (t : ℕ). end_of rate (link rate (unlabelled g)) t y.sending.len) at ∙ ap (λ (n : ℕ). end_of rate (link rate (unlabelled g)) o.start n) y.len in
    let P : Event → Type 0 = λ w. IsLate w in
    subst P (sym y.event) (omega (arith, E, o.sent y.packet (ap (λ (c : ℕ). head c (unlabelled g)) (sym class) ∙ y.front)))

cut_case : (p : Policy) (rate seed : ℕ) (arrived : List Arrival) (g : List LabelledEvent) (next : Option LabelledEvent) → HasCome p rate seed arrived g → ComesNow p rate arrived g Late
    → due p rate seed arrived g ≡ next → IsCutOff p rate seed arrived g
cut_case p rate seed arrived g None x o q =
    let first = one_moment p rate seed arrived g x.positive x.lawful x.steady x.rising x.begun.events ∙ o.first in
    absurd (no_start _ o.start (is_over p rate seed arrived g x.positive x.lawful x.rising x.begun.events q).none_sends first)
cut_case p rate seed arrived g (Some e) x o q =
    let first = one_moment p rate seed arrived g x.positive x.lawful x.steady x.rising x.begun.events ∙ o.first in
    record {
      begun = x.begun;
      next = e;
      is_due = q;
      late = late_case p rate seed arrived g e o first (due_laws p rate seed arrived (e ∷ g) x.positive x.lawful x.rising (q, x.begun.events)).each.0;
    }

-- a sending that would end too late is due
pub come_cut : (p : Policy) (rate seed : ℕ) (arrived : List Arrival) (g : List LabelledEvent) → HasCome p rate seed arrived g → ComesNow p rate arrived g Late
    → IsCutOff p rate seed arrived g
come_cut p rate seed arrived g x o = cut_case p rate seed arrived g (due p rate seed arrived g) x o refl
