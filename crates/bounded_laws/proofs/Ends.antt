-- Where the rows of a class end in time, so do the packets of its sendings.
use Rattle.std.proofs.Common.{◌≡◌, ◌≤◌, ◌<◌, ◌+◌, ◌⊎◌, inl, inr, ℕ, Bool, true, false, List, [], ◌∷◌, Some, refl, sym, subst, arith}
use Rattle.std.specs.Prelude.{◌-◌, ◌==◌, if◌then◌else◌, slice_get}
use Rattle.std.proofs.lemmas.Bool.Decides.{nat_tests}
use Rattle.altq_model.specs.History.{Arrival, DrawnWords, Event, Offered, Sent, Sending, LabelledEvent, drawn, head, is_kept, offered, unlabelled, waiting}
use Rattle.altq_model.specs.Laws.{at_of}
use Rattle.altq_model.specs.Lawful.{AreRising, IsLawful, latest}
use Rattle.altq_model.specs.Play.{AreDue, Policy}
use Rattle.delay_bound.specs.Bound.{EndWithin, OffersRise}
use Rattle.hfsc_model.specs.Event.{Enqueued}
use Rattle.hfsc_model.specs.Leaf.{Waiting, leaf}
use Rattle.hfsc_model.specs.Link.{free, run_after}
use Rattle.hfsc_model.specs.Timely.{Row, longest, rows, with_row}
use Rattle.hfsc_policy.specs.Events.{hfsc_history, waits}
use Rattle.hfsc_policy.proofs.Histories.{leaf_waits}
use Rattle.interface_policy.specs.Promises.{AreTheirEnds}
use Rattle.play_laws.specs.Events.{AreOfArrivals, EachFollows, IsOfArrival, IsOffer, IsSending}
use Rattle.play_laws.proofs.DueLemmas.{offer_event}
use Rattle.play_laws.proofs.OrderLemmas.{at_numbered, head_numbered}
use Rattle.play_laws.proofs.TimeLemmas.{on_time}
use Rattle.bounded_laws.specs.Printed.{AllEndWithin, EndsWithin}

-- the row of a head
with_head : (most start end : ℕ) (ws : List Arrival) (a : Arrival) (rs : List Row) → slice_get ws 0 ≡ Some a
    → EndWithin most (with_row (waits ws) start end rs) → (end ≤ a.at + most) × EndWithin most rs
with_head most start end [] a rs e x = absurd cc
with_head most start end (b ∷ ws) a rs e x = let same : b ≡ a = cc in (subst (λ (z : Arrival). end ≤ z.at + most) same x.0, x.1)

-- what is known of an event and of those before it
abbrev Known : (rate c most : ℕ) → List Arrival → (n : ℕ) → List Event → Event → Type 0
Known rate c most arrived n h z = AreTheirEnds rate (z ∷ h) → EndWithin most (rows rate (hfsc_history (z ∷ h)) c)
    → EndsWithin c most arrived n z × AreTheirEnds rate h × EndWithin most (rows rate (hfsc_history h) c)

sent_ends : (rate c most : ℕ) (arrived : List Arrival) (n : ℕ) (h : List Event) (s : Sending) (a : Arrival) → head s.class h ≡ Some a
    → at_of arrived n ≡ a.at → Known rate c most arrived n h (Sent s)
sent_ends rate c most arrived n h s a front at e r = go (s.class == c) refl r
  where
    end : ℕ
    end = free rate (run_after rate (hfsc_history (Sent s ∷ h)))

    rest : List Row
    rest = rows rate (hfsc_history h) c

    go : (b : Bool) → (s.class == c) ≡ b → EndWithin most (if b then with_row (leaf (hfsc_history h) c).waiting s.start end rest else rest)
        → (s.class ≡ c → s.end ≤ at_of arrived n + most) × AreTheirEnds rate h × EndWithin most rest
    go true t x =
        let same : s.class ≡ c = grind (arith, nat_tests, t) in
        let own = subst (λ (k : ℕ). head k h ≡ Some a) same front in
        let y =
        with_head most s.start end (waiting c h) a rest own
        (subst (λ (ws : List Waiting). EndWithin most (with_row ws s.start end rest)) (leaf_waits c h) x) in
        (λ k. omega (arith, y.0, e.0, at), e.1, y.1)
    go false t x = (λ k. absurd (grind (arith, nat_tests, t, k)), e.1, x)

one_ends : (p : Policy) (rate seed c most : ℕ) (arrived : List Arrival) (g : List LabelledEvent) (e : LabelledEvent) → EachFollows p rate seed arrived g
    → IsOffer p rate seed arrived g e ⊎ IsSending p rate arrived g e → Known rate c most arrived e.label (unlabelled g) e.what
one_ends p rate seed c most arrived g e f (inl x) =
    subst (λ (z : Event). Known rate c most arrived e.label (unlabelled g) z) (sym (offer_event p rate seed arrived g e x))
    (λ ends r. (tt, ends, go (is_kept (p.answer (unlabelled g) w x.packet).verdict) r))
  where
    w : DrawnWords
    w = record { seed = seed; drawn = drawn (unlabelled g) }

    go : (k : Bool)
        → EndWithin most (rows rate (if k then Enqueued x.packet.class x.packet.at x.packet.len ∷ hfsc_history (unlabelled g) else hfsc_history (unlabelled g)) c)
        → EndWithin most (rows rate (hfsc_history (unlabelled g)) c)
    go true r = r
    go false r = r
one_ends p rate seed c most arrived g e f (inr y) =
    let numbered = head_numbered p rate seed arrived g y.sending.class e.label y.packet f y.number y.front in
    subst (λ (z : Event). Known rate c most arrived e.label (unlabelled g) z) (sym y.event)
    (sent_ends rate c most arrived e.label (unlabelled g) y.sending y.packet y.front (at_numbered arrived e.label y.packet numbered.there))

pub all_end : (p : Policy) (rate seed c most : ℕ) (arrived : List Arrival) (g : List LabelledEvent) → EachFollows p rate seed arrived g
    → AreTheirEnds rate (unlabelled g) → EndWithin most (rows rate (hfsc_history (unlabelled g)) c) → AllEndWithin c most arrived g
all_end p rate seed c most arrived [] f ends r = tt
all_end p rate seed c most arrived (e ∷ g) f ends r =
    let x = one_ends p rate seed c most arrived g e f.1 f.0 ends r in
    (x.0, all_end p rate seed c most arrived g f.1 x.1 x.2)

-- what is offered rises
rises_on : (p : Policy) (rate seed : ℕ) (arrived : List Arrival) (g : List LabelledEvent) (e : LabelledEvent)
    → ((k : ℕ) (a : Arrival) → offered (unlabelled g) ≤ k → slice_get arrived k ≡ Some a → latest (unlabelled g) ≤ a.at)
    → IsOffer p rate seed arrived g e ⊎ IsSending p rate arrived g e → OffersRise (unlabelled g) → OffersRise (unlabelled (e ∷ g))
rises_on p rate seed arrived g e comes (inl x) r =
    subst (λ (z : Event). OffersRise (z ∷ unlabelled g)) (sym (offer_event p rate seed arrived g e x))
    (comes (offered (unlabelled g)) x.packet (omega arith) x.next, r)
rises_on p rate seed arrived g e comes (inr y) r = subst (λ (z : Event). OffersRise (z ∷ unlabelled g)) (sym y.event) r

pub all_rise : (p : Policy) (rate seed : ℕ) (arrived : List Arrival) (g : List LabelledEvent) → 0 < rate → IsLawful p → AreRising arrived
    → AreDue p rate seed arrived g → EachFollows p rate seed arrived g → OffersRise (unlabelled g)
all_rise p rate seed arrived [] some law rise d f = tt
all_rise p rate seed arrived (e ∷ g) some law rise d f =
    rises_on p rate seed arrived g e (on_time p rate seed arrived g some law rise d.1).comes f.0 (all_rise p rate seed arrived g some law rise d.1 f.1)

-- no packet sent is longer than all that arrive
short_on : (most : ℕ) (arrived : List Arrival) (n : ℕ) (z : Event) (h : List Event)
    → ((k : ℕ) (a : Arrival) → slice_get arrived k ≡ Some a → a.len ≤ most) → IsOfArrival arrived n z → longest (hfsc_history h) ≤ most
    → longest (hfsc_history (z ∷ h)) ≤ most
short_on most arrived n (Offered a w v) h short x l = go (is_kept v.verdict)
  where
    go : (k : Bool) → longest (if k then Enqueued a.class a.at a.len ∷ hfsc_history h else hfsc_history h) ≤ most
    go true = l
    go false = l
short_on most arrived n (Sent s) h short x l =
    let one = short (n - 1) x.packet x.arrival in
    let len : s.len ≡ x.packet.len = x.len in
    omega (arith, one, len, l)

pub all_short : (most : ℕ) (arrived : List Arrival) (g : List LabelledEvent)
    → ((k : ℕ) (a : Arrival) → slice_get arrived k ≡ Some a → a.len ≤ most) → AreOfArrivals arrived g → longest (hfsc_history (unlabelled g)) ≤ most
all_short most arrived [] short x = omega arith
all_short most arrived (e ∷ g) short x = short_on most arrived e.label e.what (unlabelled g) short x.0 (all_short most arrived g short x.1)
