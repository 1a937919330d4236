-- What is due under the clock is what comes next in the play.
use Rattle.std.proofs.Common.{◌≡◌, ◌≤◌, ◌<◌, ◌∙◌, ℕ, min, Bool, true, false, cond, List, [], ◌∷◌, None, Some, refl, ap, sym, subst, inl, inr, arith}
use Rattle.std.specs.Prelude.{slice_get, nat_le, option_map}
use Rattle.std.specs.declared.option.Option.{Option}
use Rattle.altq_model.specs.declared.Rule.{Rule}
use Rattle.altq_model.specs.History.{Arrival, Event, Offered, Sent, LabelledEvent, unlabelled, head, labels, waiting}
use Rattle.altq_model.specs.Laws.{clock_end}
use Rattle.altq_model.specs.Link.{Link, link, end_of}
use Rattle.altq_model.specs.Play.{Policy, Choice, IsOneOf, lesser}
use Rattle.altq_model.specs.Lawful.{IsLawful, first_at, start_at}
use Rattle.play_laws.proofs.LinkLemmas.{end_later}
use Rattle.play_base.specs.declared.packet.Ticket.{Ticket}
use Rattle.leaf_queue.specs.declared.node.Entry.{Entry}
use Rattle.link_clock.specs.Clock.{Clock}
use Rattle.discipline.specs.declared.pick.Sending.{Sending}
use Rattle.discipline.specs.Laws.{Shows, entry, seen, seen_of}
use Rattle.discipline.specs.Moments.{IsChoice, StartsBy}
use Rattle.play_core.specs.declared.step.Step.{Step}
use Rattle.play_core.specs.declared.step.Step.TheVariants.{End, Offer, Send, Late}
use Rattle.play_core.specs.Steps.{IsSentAt, IsStep, OffersFirst, SendsFirst, comes_by, step_at}

-- the head of a list is the head of what waits
pub record HasFront (c : ℕ) (g : List LabelledEvent) (ticket : Ticket) (len : ℕ) : Type 0 where
  pub number : slice_get (labels c g) 0 ≡ Some ticket.0
  pub packet : Arrival
  pub front : head c (unlabelled g) ≡ Some packet
  pub len_is : packet.len ≡ len

front_of : (xs : List Entry) (ws : List Arrival) (x : Entry) → seen (x ∷ xs) ≡ seen_of ws → (packet : Arrival) × (slice_get ws 0 ≡ Some packet) × (packet.len ≡ x.len)
front_of xs [] x h = absurd (cc)
front_of xs (a ∷ ws) x h = (a, refl, let e : (x.len, x.prec) ≡ (a.len, a.prec) = cc in sym (ap (λ (q : ℕ × ℕ). q.0) e))

pub shown_head : (c : ℕ) (xs : List Entry) (g : List LabelledEvent) (ticket : Ticket) (len prec : ℕ) → Shows c xs g → slice_get xs 0 ≡ Some (entry ticket len prec)
    → HasFront c g ticket len
shown_head c [] g ticket len prec s h = absurd (cc)
shown_head c (x ∷ xs) g ticket len prec s h =
    let e : x ≡ entry ticket len prec = cc in
    let f = front_of xs (waiting c (unlabelled g)) x s.packets in
    record {
      number = ap (λ (ns : List ℕ). slice_get ns 0) (sym s.labels) ∙ ap (λ (y : Entry). Some y.ticket.0) e;
      packet = f.0;
      front = f.1;
      len_is = f.2 ∙ ap (λ (y : Entry). y.len) e;
    }

same_packet : (a b : Arrival) → Some a ≡ Some b → a ≡ b
same_packet a b h = cc

-- the head of the class that is due is sent, or would end too late
pub sends_then : (p : Policy) (clock : Clock) (g : List LabelledEvent) (xs : List Entry) (ticket : Ticket) (class len prec : ℕ) (rule : Rule) (start : ℕ)
    → Shows class xs g → slice_get xs 0 ≡ Some (entry ticket len prec) → p.pick (unlabelled g) start ≡ record { class = class; rule = rule }
    → IsSentAt p clock start (unlabelled g) (step_at ticket class len rule start (end_of clock.rate clock.link start len))
sends_then p clock g xs ticket class len prec rule start s h k = go (nat_le clock_end (end_of clock.rate clock.link start len)) refl
  where
    x : HasFront class g ticket len
    x = shown_head class xs g ticket len prec s h

    go : (b : Bool) → nat_le clock_end (end_of clock.rate clock.link start len) ≡ b
        → IsSentAt p clock start (unlabelled g) (cond b Late (Send (record { ticket = ticket; class = class; len = len; rule = rule; start = start; end = end_of clock.rate clock.link start len })))
    go true e = λ packet f.
        let there : head class (unlabelled g) ≡ Some packet = ap (λ (c : Choice). head c.class (unlabelled g)) (sym k) ∙ f in
        let same : packet ≡ x.packet = same_packet packet x.packet (sym there ∙ x.front) in
        let P : ℕ → Type 0 = λ n. clock_end ≤ end_of clock.rate clock.link start n in
        subst P (sym (ap (λ (a : Arrival). a.len) same ∙ x.len_is)) (let l : clock_end ≤ end_of clock.rate clock.link start len = grind (arith, e) in l)
    go false e = (refl, record { pick = k; packet = x.packet; front = x.front; len = x.len_is })

pub step_is : (p : Policy) (clock : Clock) (t : ℕ) (h : List Event) (arrival : Option ℕ) (step : Step) → SendsFirst p clock t h arrival step
    → IsStep p clock t h arrival step
step_is p clock t h arrival End x = absurd x.sent
step_is p clock t h arrival Offer x = absurd x.sent
step_is p clock t h arrival (Send s) x = x
step_is p clock t h arrival Late x = x

-- what starts too late ends too late
pub late_end : (rate : ℕ) (h : List Event) (l : Link) (start len : ℕ) → 0 < rate → link rate h ≡ l → clock_end ≤ start → clock_end ≤ end_of rate l start len
late_end rate h l start len pos e late =
    let P : Link → Type 0 = λ k. clock_end ≤ end_of rate k start len in
    subst P e (omega (arith, late, end_later rate h start len pos))

pub starts_later : (t u : ℕ) (h : List Event) → t ≤ u → StartsBy t h → StartsBy u h
starts_later t u [] l s = tt
starts_later t u (Offered a w v ∷ h) l s = starts_later t u h l s
starts_later t u (Sent x ∷ h) l s = (omega (arith, s.0), starts_later t u h l s.1)

pub choice_later : (t u : ℕ) (clock : Clock) (h : List Event) → t ≤ u → IsChoice t clock h → IsChoice u clock h
choice_later t u clock h l x = record { arrived = omega (arith, x.arrived); started = starts_later t u h l x.started; link = x.link }

-- the ticket of a sending is that of its class's head
same_sending : (s r : Sending) → Send s ≡ Send r → s ≡ r
same_sending s r h = cc

ticket_case : (b : Bool) (s r : Sending) → cond b Late (Send s) ≡ Send r → s ≡ r
ticket_case true s r h = absurd (cc)
ticket_case false s r h = same_sending s r h

pub ticket_then : (g : List LabelledEvent) (xs : List Entry) (ticket : Ticket) (class len prec : ℕ) (rule : Rule) (start end : ℕ) (s : Sending)
    → Shows class xs g → slice_get xs 0 ≡ Some (entry ticket len prec) → step_at ticket class len rule start end ≡ Send s
    → slice_get (labels s.class g) 0 ≡ Some s.ticket.0
ticket_then g xs ticket class len prec rule start end s w h e =
    let x : HasFront class g ticket len = shown_head class xs g ticket len prec w h in
    let r : Sending = record { ticket = ticket; class = class; len = len; rule = rule; start = start; end = end } in
    let P : Sending → Type 0 = λ q. slice_get (labels q.class g) 0 ≡ Some q.ticket.0 in
    subst P (ticket_case (nat_le clock_end end) r s e) x.number

-- no class may send before the moment from which it is asked
start_later : (p : Policy) (t : ℕ) (h : List Event) (c s : ℕ) (o : Option Arrival) → IsLawful p → IsOneOf c p.classes → head c h ≡ o
    → option_map (λ (a : Arrival). p.start_from h c t) o ≡ Some s → t ≤ s
start_later p t h c s None law held e f = absurd (cc)
start_later p t h c s (Some b) law held e f =
    let l = law.later h c t b (record { held = held; front = e }) in
    let same : p.start_from h c t ≡ s = cc in
    omega (arith, l, same)

lesser_later : (t s : ℕ) (a b : Option ℕ) → ((x : ℕ) → a ≡ Some x → t ≤ x) → ((x : ℕ) → b ≡ Some x → t ≤ x) → lesser a b ≡ Some s → t ≤ s
lesser_later t s None b f g e = g s e
lesser_later t s (Some x) None f g e = f s e
lesser_later t s (Some x) (Some y) f g e = let m : min x y ≡ s = cc in omega (arith, f x refl, g y refl)

first_later : (p : Policy) (t : ℕ) (h : List Event) (cs : List ℕ) (s : ℕ) → IsLawful p → ((c : ℕ) → IsOneOf c cs → IsOneOf c p.classes)
    → first_at p t h cs ≡ Some s → t ≤ s
first_later p t h [] s law within e = absurd (cc)
first_later p t h (c ∷ cs) s law within e =
    lesser_later t s (start_at p t h c) (first_at p t h cs)
    (λ x f. start_later p t h c x (head c h) law (within c (inl refl)) refl f)
    (λ x f. first_later p t h cs x law (λ d i. within d (inr i)) f) e

-- so an arrival up to that moment is offered first
pub offers_now : (p : Policy) (t : ℕ) (h : List Event) (arrival : Option ℕ) → IsLawful p → comes_by arrival t ≡ true → OffersFirst p t h arrival
offers_now p t h None law e = absurd (cc)
offers_now p t h (Some at) law e = record {
  at = at;
  next = refl;
  first = λ s f. let l = first_later p t h p.classes s law (λ c i. i) f in let m : at ≤ t = grind (arith, e) in omega (arith, l, m);
}
