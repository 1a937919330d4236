-- The play goes on after an offer.
use Rattle.std.proofs.Common.{◌≡◌, ◌≤◌, ◌<◌, ◌+◌, ◌-◌, ◌^◌, ◌∙◌, ℕ, Bool, true, false, cond, List, [], ◌∷◌, length, None, Some, refl, ap, sym, subst, arith}
use Rattle.std.specs.Prelude.{slice_get, ◌==◌, ◌&&◌, unwrap_or, option_map, is_some}
use Rattle.std.specs.declared.option.Option.{Option}
use Rattle.std.proofs.lemmas.Bool.{eq-eqb, ne_eqb}
use Rattle.std.proofs.lemmas.Option.{slice_get_within}
use Rattle.altq_model.specs.declared.Placed.{Placed}
use Rattle.altq_model.specs.declared.Verdict.{Verdict}
use Rattle.altq_model.specs.declared.Verdict.TheVariants.{Keep, Mark, Drop}
use Rattle.altq_model.specs.Arrivals.{Captured, arrival, bare_arrival, bare_arrivals, no_arrival}
use Rattle.altq_model.specs.History.{Arrival, Event, Offered, Sent, DrawnWords, LabelledEvent, unlabelled, offered, drawn, labels, is_kept, is_mark, was_marked, with_offer, journal}
use Rattle.altq_model.specs.Lawful.{IsOneOf, latest}
use Rattle.altq_model.specs.Link.{link}
use Rattle.altq_model.specs.Play.{Policy, AreDue, offer_of}
use Rattle.play_laws.proofs.ArrivalLemmas.{bare_arrivals_at}
use Rattle.play_laws.proofs.BusyLemmas.{started_before}
use Rattle.play_laws.proofs.TimeLemmas.{next_later}
use Rattle.play_base.specs.declared.packet.Packet.{Packet}
use Rattle.play_base.specs.declared.packet.Ticket.{Ticket}
use Rattle.leaf_queue.specs.declared.node.Entry.{Entry}
use Rattle.leaf_queue.specs.Pool.{packet_of, is_marked, count_of}
use Rattle.link_clock.specs.Clock.{Clock}
use Rattle.discipline.specs.Laws.{IsAnswer, after_offer, held_in, room_of}
use Rattle.discipline.specs.Laws as discipline
use Rattle.discipline.specs.Moments.{IsOffer, IsSized, StartsBefore, StartsBy}
use Rattle.discipline.specs.View.{SameKind}
use Rattle.play_core.specs.declared.turn.Dropped.{Dropped}
use Rattle.play_core.specs.declared.turn.LentPacket.{LentPacket}
use Rattle.play_core.specs.Going.{numbered, HoldEach, one_kept}
use Rattle.play_core.specs.Totals.{AreTotals}
use Rattle.play_core.specs.Turns.{Offers, packet_of_lent, drop_of}
use Rattle.play_core.proofs.Come.{laws_of}
use Rattle.play_core.proofs.GoingLemmas.{Going, Goes, State, come_of, renamed, within_old}
use Rattle.play_core.proofs.HeldLemmas.{held_offered}
use Rattle.play_core.proofs.PoolLemmas.{each_moves, each_if, within_count}
use Rattle.play_core.proofs.TotalLemmas.{one_lost, sent_offer, dropped_offer}

-- what a discipline tells of the offer of `b`, with what it then stands for, and the random words then drawn
pub record IsAnswered (s : State) (stood : List LabelledEvent → Type 0) (w : DrawnWords) (b : Arrival) (ticket : Ticket) (v : Verdict) : Type 0 where
  pub history : (h : List LabelledEvent) → s.shown.represents h → IsOffer b (unlabelled h) → s.words.drawn < 2 ^ 64 - 1
      → IsAnswer s.shown.policy (unlabelled h) s.words b v w × stood (discipline.offer_of s.shown.policy h ticket s.words b ∷ h)
  pub sized : IsSized b.len

-- what the offer of `packet` as `b` leaves
pub record IsTaken (s t : State) (b : Arrival) (packet : Packet) (ticket : Ticket) (v : Verdict) : Type 0 where
  pub kind : SameKind s.shown t.shown
  pub entry : Entry
  pub answers : IsAnswered s t.shown.represents t.words b ticket v
  pub one_of : IsOneOf b.class s.shown.policy.classes
  pub lists_are : (c : ℕ) → t.shown.lists c ≡ after_offer v b.class entry s.shown.lists c
  pub within : held_in t.shown.lists t.shown.policy.classes ≤ room_of t.shown.limits t.shown.policy.classes
  pub clock_is : t.progress.clock ≡ s.progress.clock
  pub latest_is : t.progress.latest ≡ b.at
  pub arrived : t.progress.totals.arrived ≡ s.progress.totals.arrived + 1
  pub sent : t.progress.totals.sent ≡ s.progress.totals.sent
  pub dropped : t.progress.totals.dropped ≡ s.progress.totals.dropped + one_lost v
  pub last_end : t.progress.totals.last_end ≡ s.progress.totals.last_end
  pub held : (k : ℕ) (other : Packet) → packet_of s.progress.pool k ≡ Some other → packet_of t.progress.pool k ≡ Some other
  pub marks : (k : ℕ) (other : Packet) → packet_of s.progress.pool k ≡ Some other → is_marked t.progress.pool k ≡ is_marked s.progress.pool k
  pub kept : is_kept v ≡ true → packet_of t.progress.pool ticket.0 ≡ Some packet
  pub mark : is_kept v ≡ true → is_marked t.progress.pool ticket.0 ≡ is_mark v
  pub count : count_of t.progress.pool ≡ count_of s.progress.pool + one_kept v
  pub room : t.progress.pool.room ≡ s.progress.pool.room

-- what is said of the arrival that is offered
pub record IsBareArrival (arrived : List Captured) (g : List LabelledEvent) (a : Captured) : Type 0 where
  pub seen : slice_get (bare_arrivals arrived) (offered (unlabelled g)) ≡ Some (bare_arrival a)
  pub inside : offered (unlabelled g) < length arrived
  pub numbered_is : arrival arrived (offered (unlabelled g) + 1) ≡ a

pub is_bare_arrival : (arrived : List Captured) (g : List LabelledEvent) (a : Captured) → slice_get arrived (offered (unlabelled g)) ≡ Some a → IsBareArrival arrived g a
is_bare_arrival arrived g a e =
    let one : offered (unlabelled g) + 1 - 1 ≡ offered (unlabelled g) = omega arith in
    record {
      seen = bare_arrivals_at arrived (offered (unlabelled g)) ∙ ap (λ (o : Option Captured). option_map bare_arrival o) e;
      inside = slice_get_within arrived (offered (unlabelled g)) a e;
      numbered_is = ap (λ (k : ℕ). unwrap_or (slice_get arrived k) no_arrival) one ∙ ap (λ (o : Option Captured). unwrap_or o no_arrival) e;
    }

before_by : (t : ℕ) (h : List Event) → StartsBefore t h → StartsBy t h
before_by t [] s = tt
before_by t (Offered a w v ∷ h) s = before_by t h s
before_by t (Sent x ∷ h) s = (omega (arith, s.0), before_by t h s.1)

-- no event is later than the next arrival, and each start is before it
pub record IsLater (a : Captured) (h : List Event) : Type 0 where
  pub arrived : latest h ≤ a.at
  pub started : StartsBefore a.at h
  pub by : StartsBy a.at h

pub is_later : {s : State} {arrived : List Captured} {g : List LabelledEvent} {a : Captured} → (u : Goes s arrived g) → slice_get arrived (offered (unlabelled g)) ≡ Some a
    → IsLater a (unlabelled u.going.recorded)
is_later {arrived = arrived} {g = g} {a = a} u e =
    let x = come_of u in
    let c = is_bare_arrival arrived g a e in
    let started = started_before _ _ _ (bare_arrivals arrived) g (offered (unlabelled g)) (bare_arrival a) x.rising (laws_of x).each (omega arith) c.seen in
    let P : List Event → Type 0 = λ h. IsLater a h in
    subst P (sym u.going.same) (record {
      arrived = next_later _ _ _ (bare_arrivals arrived) g x.positive x.lawful x.rising x.begun.events (bare_arrival a) c.seen;
      started = started;
      by = before_by a.at (unlabelled g) started;
    })

answered_by : {s : State} {stood : List LabelledEvent → Type 0} {w : DrawnWords} {arrived : List Captured} {g : List LabelledEvent} {a : Captured} {ticket : Ticket} {v : Verdict} → (u : Goes s arrived g)
    → slice_get arrived (offered (unlabelled g)) ≡ Some a → IsAnswered s stood w (bare_arrival a) ticket v
    → IsAnswer s.shown.policy (unlabelled g) s.words (bare_arrival a) v w × stood (discipline.offer_of s.shown.policy u.going.recorded ticket s.words (bare_arrival a) ∷ u.going.recorded)
answered_by {s = s} {w = w} {arrived = arrived} {g = g} {a = a} {v = v} u e z =
    let y = u.going in
    let l = is_later u e in
    let r = z.history y.recorded y.represents (record { sized = z.sized; arrived = l.arrived; started = l.started })
    (omega (arith, y.one_each, y.few, (is_bare_arrival arrived g a e).inside)) in
    let A : List Event → Type 0 = λ h. IsAnswer s.shown.policy h s.words (bare_arrival a) v w in
    (subst A y.same r.0, r.1)

both_true : (k b : Bool) → (k && b) ≡ true → k ≡ true
both_true true b e = refl
both_true false b e = absurd (cc)

-- what waits after an offer is held
holds_offered : {s t : State} {arrived : List Captured} {g : List LabelledEvent} (a : Captured) (ticket : Ticket) (v : Verdict) → (u : Goes s arrived g)
    → IsTaken s t (bare_arrival a) (numbered (offered (unlabelled g) + 1) (arrival arrived (offered (unlabelled g) + 1))) ticket v
    → (e : LabelledEvent) → ((m : ℕ) → was_marked m (e ∷ g) ≡ cond ((offered (unlabelled g) + 1) == m) (is_mark v) (was_marked m g)) → (c : ℕ)
    → HoldEach arrived (e ∷ g) t.progress.pool (with_offer (a.class == c) v ticket.0 (labels c u.going.recorded)) (with_offer (a.class == c) v (offered (unlabelled g) + 1) (labels c g))
holds_offered {s = s} {t = t} {arrived = arrived} {g = g} a ticket v u z e w c =
    let n : ℕ = offered (unlabelled g) + 1 in
    let old = each_moves arrived arrived g (e ∷ g) s.progress.pool t.progress.pool (labels c u.going.recorded) (labels c g) (λ k m o y.
    let once = (laws_of (come_of u)).waits_once m c in
    let off : (n == m) ≡ false = ne_eqb n m (λ i. absurd (let l = within_count m (offered (unlabelled g)) (omega (arith, o, once)) in omega (arith, l, i))) in
    record {
      packet = z.held k (numbered m (arrival arrived m)) y.packet;
      mark = z.marks k (numbered m (arrival arrived m)) y.packet ∙ y.mark ∙ sym (w m ∙ ap (λ (b : Bool). cond b (is_mark v) (was_marked m g)) off);
    }) (u.going.holds c) in
    let on : (n == n) ≡ true = eq-eqb n n refl in
    each_if arrived (e ∷ g) t.progress.pool (is_kept v && (a.class == c)) (labels c u.going.recorded) (labels c g) ticket.0 n old (λ k.
    let i = both_true (is_kept v) (a.class == c) k in
    record { packet = z.kept i; mark = z.mark i ∙ sym (w n ∙ ap (λ (b : Bool). cond b (is_mark v) (was_marked n g)) on) })

-- the play goes on after an offer
taken_on : {s t : State} {arrived : List Captured} {g : List LabelledEvent} (a : Captured) (ticket : Ticket) (v : Verdict) → (u : Goes s arrived g)
    → slice_get arrived (offered (unlabelled g)) ≡ Some a → AreDue s.shown.policy s.progress.clock.rate s.words.seed (bare_arrivals arrived) (offer_of s.shown.policy s.words.seed g (bare_arrival a) ∷ g)
    → IsTaken s t (bare_arrival a) (numbered (offered (unlabelled g) + 1) (arrival arrived (offered (unlabelled g) + 1))) ticket v → Going t arrived (offer_of s.shown.policy s.words.seed g (bare_arrival a) ∷ g)
taken_on {s = s} {t = t} {arrived = arrived} {g = g} a ticket v u there due z =
    let y = u.going in
    let p : Policy = s.shown.policy in
    let b : Arrival = bare_arrival a in
    let n : ℕ = offered (unlabelled g) + 1 in
    let r = answered_by u there z.answers in
    let first : DrawnWords = record { seed = s.words.seed; drawn = drawn (unlabelled g) } in
    let same_words : s.words ≡ first = ap (λ (k : ℕ). let w : DrawnWords = record { seed = s.words.seed; drawn = k } in w) y.words in
    let e : LabelledEvent = offer_of p s.words.seed g b in
    let V : Verdict = (p.answer (unlabelled g) first b).verdict in
    let U : Verdict = (p.answer (unlabelled y.recorded) s.words b).verdict in
    let rate_is : t.progress.clock.rate ≡ s.progress.clock.rate = ap (λ (k : Clock). k.rate) z.clock_is in
    let told : ◌≡◌ {A = List Event × DrawnWords} (unlabelled y.recorded, s.words) (unlabelled g, first) = cc (y.same, same_words) in
    let verdict : v ≡ V = r.0.verdict ∙ ap (λ (w : DrawnWords). (p.answer (unlabelled g) w b).verdict) same_words in
    let verdicts : ◌≡◌ {A = Verdict × Verdict} (v, v) (U, V) = (let k : U ≡ V = ap (λ (q : List Event × DrawnWords). (p.answer q.0 q.1 b).verdict) told in cc (k, verdict)) in
    let took = ap (λ (w : DrawnWords). (p.answer (unlabelled g) w b).took) same_words in
    let H : (c : ℕ) → Verdict × Verdict → Type 0 = λ c q. HoldEach arrived (e ∷ g) t.progress.pool (with_offer (a.class == c) q.0 ticket.0 (labels c y.recorded))
    (with_offer (a.class == c) q.1 n (labels c g)) in
    let T : ℕ → Type 0 = λ k. AreTotals k (e ∷ g) t.progress.totals in
    renamed s t z.kind (record {
      begun = rw (r.0.words.seed, rate_is) (record { events = due; in_time = (tt, y.begun.in_time) });
      rising = y.rising;
      few = y.few;
      words = omega (arith, r.0.words.drawn, y.words, took);
      one_each = omega (arith, r.0.words.drawn, r.0.words.one, y.one_each);
      link_is = ap (λ (k : Clock). k.link) z.clock_is ∙ y.link_is ∙ ap (λ (k : ℕ). link k (unlabelled g)) (sym rate_is);
      latest_is = omega (arith, z.latest_is, (is_later u there).arrived, ap (λ (h : List Event). latest h) y.same);
      totals = subst T (sym rate_is) (record {
        arrived = omega (arith, z.arrived, y.totals.arrived);
        sent = z.sent ∙ y.totals.sent ∙ sym (sent_offer (journal g) V n);
        dropped = omega (arith, z.dropped, y.totals.dropped, dropped_offer (journal g) V n, ap (λ (k : Verdict). one_lost k) verdict);
        last_end = z.last_end ∙ y.totals.last_end;
      });
      rate_is = rw rate_is y.rate_is;
      recorded = discipline.offer_of p y.recorded ticket s.words b ∷ y.recorded;
      represents = r.1;
      same = ap (λ (q : List Event × DrawnWords). Offered b q.1 (p.answer q.0 q.1 b) ∷ q.0) told;
      holds = λ c. subst (H c) verdicts (holds_offered a ticket v u z e (λ m. ap (λ (k : Verdict). cond (n == m) (is_mark k) (was_marked m g)) (sym verdict)) c);
      count = omega (arith, z.count, y.count, held_offered a.class v z.entry s.shown.lists t.shown.lists p.classes z.one_of u.promised.distinct z.lists_are);
      within = within_old s t z.kind z.within;
      room = z.room ∙ y.room;
    })

pub same_bare_arrival : (n : ℕ) (a : Captured) (packet : LentPacket) (placed : Placed) → packet_of_lent packet ≡ numbered n a → placed ≡ record { class = a.class; prec = a.prec }
    → discipline.arrival_with placed.class packet.len placed.prec packet.at ≡ bare_arrival a
same_bare_arrival n a packet placed e f =
    ap (λ (k : Packet). discipline.arrival_with placed.class k.len placed.prec k.at) e ∙ ap (λ (k : Placed). discipline.arrival_with k.class a.len k.prec a.at) f

pub answered : {s : State} {stood : List LabelledEvent → Type 0} {w : DrawnWords} {arrived : List Captured} {g : List LabelledEvent} {a : Captured} {packet : LentPacket} {placed : Placed} {ticket : Ticket}
    {v : Verdict} → Goes s arrived g → Offers s.shown.policy s.progress.clock.rate s.words.seed arrived g a packet placed
    → IsAnswered s stood w (discipline.arrival_with placed.class packet.len placed.prec packet.at) ticket v → IsAnswer s.shown.policy (unlabelled g) s.words (bare_arrival a) v w
answered {s = s} {stood = stood} {w = w} {g = g} {a = a} {packet = packet} {placed = placed} {ticket = ticket} {v = v} u o z =
    let P : Arrival → Type 0 = λ b. IsAnswered s stood w b ticket v in
    (answered_by u o.next.there (subst P (same_bare_arrival (offered (unlabelled g) + 1) a packet placed o.packet_is o.placed_is) z)).0

pub going_offered : {s t : State} {arrived : List Captured} {g : List LabelledEvent} {a : Captured} {packet : LentPacket} {placed : Placed} {ticket : Ticket} {v : Verdict} → Goes s arrived g
    → Offers s.shown.policy s.progress.clock.rate s.words.seed arrived g a packet placed
    → IsTaken s t (discipline.arrival_with placed.class packet.len placed.prec packet.at) (packet_of_lent packet) ticket v → Going t arrived (offer_of s.shown.policy s.words.seed g (bare_arrival a) ∷ g)
going_offered {s = s} {t = t} {arrived = arrived} {g = g} {a = a} {packet = packet} {placed = placed} {ticket = ticket} {v = v} u o z =
    let n : ℕ = offered (unlabelled g) + 1 in
    let P : Arrival × Packet → Type 0 = λ q. IsTaken s t q.0 q.1 ticket v in
    let arrival_with = same_bare_arrival n a packet placed o.packet_is o.placed_is in
    let held : packet_of_lent packet ≡ numbered n (arrival arrived n) = o.packet_is ∙ ap (numbered n) (sym (is_bare_arrival arrived g a o.next.there).numbered_is) in
    taken_on a ticket v u o.next.there (o.next.is_due, u.going.begun.events) (subst P (cc (arrival_with, held)) z)

pub most_lost : (r : Option Dropped) → cond (is_some r) 1 0 ≤ 1
most_lost None = omega arith
most_lost (Some d) = omega arith

-- what is told is of a drop
pub drop_counted : (r : Option Dropped) (v : Verdict) (packet : LentPacket) → r ≡ drop_of v packet → cond (is_some r) 1 0 ≡ one_lost v
drop_counted r Keep packet e = ap (λ (o : Option Dropped). cond (is_some o) 1 0) e
drop_counted r Mark packet e = ap (λ (o : Option Dropped). cond (is_some o) 1 0) e
drop_counted r (Drop q) packet e = ap (λ (o : Option Dropped). cond (is_some o) 1 0) e
