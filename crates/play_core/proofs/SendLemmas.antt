-- The play goes on after a sending.
use Rattle.std.proofs.Common.{◌≡◌, ◌≢◌, ◌≤◌, ◌<◌, ◌+◌, ◌∙◌, ◌⊎◌, inl, inr, ℕ, max, List, [], ◌∷◌, length, Some, refl, ap, sym, subst, arith}
use Rattle.std.specs.Prelude.{slice_get, ◌==◌}
use Rattle.altq_model.specs.declared.Fate.TheVariants
use Rattle.altq_model.specs.Arrivals.{Captured, arrival, bare_arrivals}
use Rattle.altq_model.specs.History.{Arrival, Event, Sent, Sending, LabelledEvent, unlabelled, offered, labels, was_marked, Decision, journal}
use Rattle.altq_model.specs.Laws.{occurs, numbers, clock_end}
use Rattle.altq_model.specs.Lawful.{IsOneOf}
use Rattle.altq_model.specs.Link.{Link, link, after_sending, end_of}
use Rattle.altq_model.specs.Play.{Policy, due}
use Rattle.play_laws.specs.Events.{IsOffer, IsSending, WaitsOnce}
use Rattle.play_laws.proofs.AllLaws.{due_laws}
use Rattle.play_laws.proofs.ArrivalLemmas.{bare_arrival_of_number}
use Rattle.play_laws.proofs.CountLemmas.{journal_occurs}
use Rattle.play_base.specs.declared.packet.Packet.{Packet}
use Rattle.leaf_queue.specs.declared.node.Entry.{Entry}
use Rattle.leaf_queue.specs.Pool.{packet_of, is_marked, count_of}
use Rattle.discipline.specs.declared.pick.Sending.{Sending as Ticketed}
use Rattle.discipline.specs.Laws.{Shows, after_sent, held_in, room_of, sent_of, tickets}
use Rattle.discipline.specs.Moments.{IsChoice}
use Rattle.discipline.specs.View.{SameKind}
use Rattle.play_core.specs.declared.step.Step.TheVariants.{Send}
use Rattle.play_core.specs.declared.turn.Departure.{Departure}
use Rattle.play_core.specs.Going.{numbered, Holds, HoldEach}
use Rattle.play_core.specs.Totals.{AreTotals}
use Rattle.play_core.specs.Turns.{Departs, departs}
use Rattle.play_core.proofs.Come.{ComesNow, due_sending, sent_as, bare_sending}
use Rattle.play_core.proofs.GoingLemmas.{Going, GoingAs, Goes, State, come_of, front_of, ready, renamed, same_packet, within_old}
use Rattle.play_core.proofs.HeldLemmas.{held_sent}
use Rattle.play_core.proofs.PoolLemmas.{each_moves, each_rest, first_occurs, other_ticket, count_most}
use Rattle.play_core.proofs.StepLemmas.{choice_later}
use Rattle.play_core.proofs.TotalLemmas.{sent_push, dropped_push}

-- what a step tells of a sending
pub record IsSent (s : State) (arrived : List Captured) (g told : List LabelledEvent) (m : Ticketed) : Type 0 where
  pub first : ComesNow s.shown.policy s.progress.clock.rate (bare_arrivals arrived) g (Send m)
  pub ticket : slice_get (labels m.class told) 0 ≡ Some m.ticket.0
  pub late : max s.progress.clock.link.free s.progress.latest ≤ m.start
  pub end : m.end ≡ end_of s.progress.clock.rate s.progress.clock.link m.start m.len
  pub early : m.end < clock_end

-- what a sending leaves
pub record IsMade (s t : State) (m : Ticketed) (d : Departure) : Type 0 where
  pub kind : SameKind s.shown t.shown
  pub words : t.words ≡ s.words
  pub history : (h : List LabelledEvent) → s.shown.represents h → IsChoice m.start s.progress.clock (unlabelled h) → t.shown.represents (sent_of m ∷ h)
  pub lists_are : (c : ℕ) → t.shown.lists c ≡ after_sent m.class s.shown.lists c
  pub within : held_in t.shown.lists t.shown.policy.classes ≤ room_of t.shown.limits t.shown.policy.classes
  pub rate_is : t.progress.clock.rate ≡ s.progress.clock.rate
  pub link_is : t.progress.clock.link ≡ after_sending s.progress.clock.rate s.progress.clock.link m.start m.len
  pub latest_is : t.progress.latest ≡ s.progress.latest
  pub arrived : t.progress.totals.arrived ≡ s.progress.totals.arrived
  pub sent : t.progress.totals.sent ≡ s.progress.totals.sent + 1
  pub dropped : t.progress.totals.dropped ≡ s.progress.totals.dropped
  pub last_end : t.progress.totals.last_end ≡ m.end
  pub taken : packet_of s.progress.pool m.ticket.0 ≡ Some d.packet
  pub marked : d.marked ≡ is_marked s.progress.pool m.ticket.0
  pub others : (k : ℕ) → k ≢ m.ticket.0 → packet_of t.progress.pool k ≡ packet_of s.progress.pool k
  pub marks : (k : ℕ) → k ≢ m.ticket.0 → is_marked t.progress.pool k ≡ is_marked s.progress.pool k
  pub count : count_of s.progress.pool ≡ count_of t.progress.pool + 1
  pub room : t.progress.pool.room ≡ s.progress.pool.room
  pub class : d.class ≡ m.class
  pub rule : d.rule ≡ m.rule
  pub start : d.start ≡ m.start
  pub end : d.end ≡ m.end

is_sending : (p : Policy) (rate seed : ℕ) (arrived : List Arrival) (g : List LabelledEvent) (e : LabelledEvent) (s : Sending) → e.what ≡ Sent s
    → IsOffer p rate seed arrived g e ⊎ IsSending p rate arrived g e → IsOneOf s.class p.classes
is_sending p rate seed arrived g e s q (inl x) = let o = ap (λ (y : LabelledEvent). y.what) x.offer in absurd (cc)
is_sending p rate seed arrived g e s q (inr y) =
    let o : Sent s ≡ Sent y.sending = sym q ∙ y.event in
    let same : s ≡ y.sending = cc in
    let P : Sending → Type 0 = λ t. IsOneOf t.class p.classes in
    subst P (sym same) y.may.held

sent_counts : (n : ℕ) (g : List LabelledEvent) (s : Ticketed) → 0 < occurs n (numbers (journal (sent_as n s ∷ g)))
sent_counts n g s =
    let j = journal_occurs n (journal g) ((n, TheVariants.Sent s.start s.end s.rule) ∷ []) in
    omega (arith, j, first_occurs n [])

some_list : (xs : List Entry) (t : ℕ) → slice_get (tickets xs) 0 ≡ Some t → 0 < length xs
some_list [] t e = absurd (cc)
some_list (x ∷ xs) t e = omega arith

same_departure : (n : ℕ) (m : Ticketed) (d : Departure) → d.packet.number ≡ n → d.packet.len ≡ m.len → d.class ≡ m.class → d.rule ≡ m.rule → d.start ≡ m.start → d.end ≡ m.end
    → sent_as n m ≡ departs d
same_departure n m d a b c e f h = cc

-- the sending that was made was due, under the number of its packet
pub record HasSent (s : State) (arrived : List Captured) (g : List LabelledEvent) (m : Ticketed) (d : Departure) : Type 0 where
  pub number : ℕ
  pub holds : Holds arrived g s.progress.pool m.ticket.0 number
  pub packet : d.packet ≡ numbered number (arrival arrived number)
  pub event : sent_as number m ≡ departs d
  pub is_due : due s.shown.policy s.progress.clock.rate s.words.seed (bare_arrivals arrived) g ≡ Some (sent_as number m)

has_sent : {s t : State} {arrived : List Captured} {g : List LabelledEvent} {m : Ticketed} {d : Departure} → (u : Goes s arrived g) → IsSent s arrived g u.going.recorded m → IsMade s t m d
    → HasSent s arrived g m d
has_sent {s = s} {arrived = arrived} {g = g} {m = m} {d = d} u i z =
    let f = front_of m.class u.going i.ticket in
    let x = come_of u in
    let packet = same_packet d.packet (numbered f.number (arrival arrived f.number)) (sym z.taken ∙ f.holds.packet) in
    let end = i.end ∙ ap (λ (l : Link). end_of s.progress.clock.rate l m.start m.len) u.going.link_is in
    let q = due_sending s.shown.policy s.progress.clock.rate s.words.seed (bare_arrivals arrived) g f.number m x i.first f.first end in
    let one = (due_laws s.shown.policy s.progress.clock.rate s.words.seed (bare_arrivals arrived) (sent_as f.number m ∷ g) x.positive x.lawful x.rising (q, x.begun.events)).of_arrivals.0 in
    let len : (arrival arrived f.number).len ≡ m.len = ap (λ (a : Arrival). a.len) (bare_arrival_of_number arrived f.number one.packet one.arrival) ∙ sym one.len in
    record {
      number = f.number;
      holds = f.holds;
      packet = packet;
      event = same_departure f.number m d (ap (λ (b : Packet). b.number) packet) (ap (λ (b : Packet). b.len) packet ∙ len) z.class z.rule z.start z.end;
      is_due = q;
    }

departs_of : {s : State} {arrived : List Captured} {g : List LabelledEvent} {m : Ticketed} {d : Departure} → HasSent s arrived g m d → d.marked ≡ is_marked s.progress.pool m.ticket.0
    → Departs s.shown.policy s.progress.clock.rate s.words.seed arrived g d
departs_of {arrived = arrived} {g = g} {d = d} n m =
    let label = ap (λ (e : LabelledEvent). e.label) n.event in
    let P : ℕ → Type 0 = λ k. d.packet ≡ numbered k (arrival arrived k) in
    record {
      is_due = n.is_due ∙ ap (λ (e : LabelledEvent). Some e) n.event;
      packet_is = subst P label n.packet;
      mark_is = m ∙ n.holds.mark ∙ ap (λ (k : ℕ). was_marked k g) label;
    }

-- what waits after a sending is held as before
holds_sent : {s t : State} {arrived : List Captured} {g : List LabelledEvent} {m : Ticketed} {d : Departure} → (y : Going s arrived g) → IsMade s t m d → (h : HasSent s arrived g m d)
    → WaitsOnce (sent_as h.number m ∷ g) → (c : ℕ)
    → HoldEach arrived (sent_as h.number m ∷ g) t.progress.pool (labels c (sent_of m ∷ y.recorded)) (labels c (sent_as h.number m ∷ g))
holds_sent {s = s} {t = t} {arrived = arrived} {g = g} {m = m} y z h once c =
    let k : List LabelledEvent = sent_as h.number m ∷ g in
    let W : ℕ → Type 0 = λ i. 0 < occurs i (numbers (journal k)) in
    each_moves arrived arrived g k s.progress.pool t.progress.pool (labels c (sent_of m ∷ y.recorded)) (labels c k)
    (λ i n o w.
    let differ : n ≡ h.number → ⊥ = λ q. (let f = subst W (sym q) (sent_counts h.number g m) in
    absurd (omega (arith, o, f, once n c, count_most n (offered (unlabelled k))))) in
    let apart = other_ticket arrived s.progress.pool i m.ticket.0 n h.number w.packet h.holds.packet differ in
    record { packet = z.others i apart ∙ w.packet; mark = z.marks i apart ∙ w.mark })
    (each_rest arrived g s.progress.pool (m.class == c) (labels c y.recorded) (labels c g) (y.holds c))

-- the play goes on
after_sent_on : {s t : State} {arrived : List Captured} {g : List LabelledEvent} {m : Ticketed} {d : Departure} → (u : Goes s arrived g) → IsSent s arrived g u.going.recorded m
    → Shows m.class (s.shown.lists m.class) u.going.recorded → IsMade s t m d → (h : HasSent s arrived g m d) → GoingAs s t arrived (sent_as h.number m ∷ g)
after_sent_on {s = s} {t = t} {arrived = arrived} {g = g} {m = m} u i shown z h =
    let y = u.going in
    let r : ℕ = s.progress.clock.rate in
    let k : List LabelledEvent = sent_as h.number m ∷ g in
    let x = come_of u in
    let laws = due_laws s.shown.policy r s.words.seed (bare_arrivals arrived) k x.positive x.lawful x.rising (h.is_due, x.begun.events) in
    let T : ℕ → Type 0 = λ q. AreTotals q k t.progress.totals in
    let d : Decision = (h.number, TheVariants.Sent m.start m.end m.rule) in
    let end = i.end ∙ ap (λ (l : Link). end_of r l m.start m.len) y.link_is in
    let some = some_list (s.shown.lists m.class) m.ticket.0 (ap (λ (ns : List ℕ). slice_get ns 0) shown.labels ∙ i.ticket) in
    let one_of = is_sending s.shown.policy r s.words.seed (bare_arrivals arrived) g (sent_as h.number m) (bare_sending m) refl laws.each.0 in
    record {
      begun = rw (z.words, z.rate_is) (record { events = (h.is_due, y.begun.events); in_time = (i.early, y.begun.in_time) });
      rising = y.rising;
      few = y.few;
      words = rw z.words y.words;
      one_each = rw z.words y.one_each;
      link_is = z.link_is ∙ ap (λ (l : Link). after_sending r l m.start m.len) y.link_is ∙ ap (λ (q : ℕ). link q (unlabelled k)) (sym z.rate_is);
      latest_is = z.latest_is ∙ y.latest_is;
      totals = subst T (sym z.rate_is) (record {
        arrived = z.arrived ∙ y.totals.arrived;
        sent = omega (arith, z.sent, y.totals.sent, sent_push (journal g) d);
        dropped = omega (arith, z.dropped, y.totals.dropped, dropped_push (journal g) d);
        last_end = z.last_end ∙ end;
      });
      rate_is = rw z.rate_is y.rate_is;
      recorded = sent_of m ∷ y.recorded;
      represents = z.history y.recorded y.represents (choice_later (max s.progress.clock.link.free s.progress.latest) m.start s.progress.clock (unlabelled y.recorded) i.late (ready s arrived g _ u refl));
      same = ap (λ (b : List Event). Sent (bare_sending m) ∷ b) y.same;
      holds = holds_sent y z h laws.waits_once;
      count = omega (arith, z.count, y.count, held_sent m.class s.shown.lists t.shown.lists s.shown.policy.classes one_of u.promised.distinct some z.lists_are);
      within = within_old s t z.kind z.within;
      room = z.room ∙ y.room;
    }

pub going_sent : {s t : State} {arrived : List Captured} {g : List LabelledEvent} {m : Ticketed} {d : Departure} → (u : Goes s arrived g) → IsSent s arrived g u.going.recorded m
    → Shows m.class (s.shown.lists m.class) u.going.recorded → IsMade s t m d
    → Departs s.shown.policy s.progress.clock.rate s.words.seed arrived g d × Going t arrived (departs d ∷ g)
going_sent {s = s} {t = t} {arrived = arrived} {g = g} u i shown z =
    let h = has_sent u i z in
    let P : LabelledEvent → Type 0 = λ e. GoingAs s t arrived (e ∷ g) in
    (departs_of h z.marked, renamed s t z.kind (subst P h.event (after_sent_on u i shown z h)))
