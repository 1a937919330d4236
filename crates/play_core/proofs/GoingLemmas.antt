-- A play that goes on, in the words of its first events.
use Rattle.std.proofs.Common.{◌≡◌, ◌≤◌, ◌<◌, ◌∙◌, ℕ, max, List, [], ◌∷◌, length, Some, refl, ap, sym, subst, arith}
use Rattle.std.specs.Prelude.{slice_get, IsSome, is_some}
use Rattle.std.specs.declared.option.Option.{Option}
use Rattle.altq_model.specs.declared.Fate.{Fate}
use Rattle.altq_model.specs.declared.Fate.TheVariants
use Rattle.altq_model.specs.Arrivals.{Captured, arrival, bare_arrivals}
use Rattle.altq_model.specs.History.{Event, DrawnWords, LabelledEvent, unlabelled, offered, labels, Decision, journal}
use Rattle.altq_model.specs.Lawful.{IsLawful, IsSteady, latest}
use Rattle.altq_model.specs.Link.{Link}
use Rattle.altq_model.specs.Play.{Policy}
use Rattle.play_laws.proofs.ArrivalLemmas.{bare_arrivals_length}
use Rattle.play_base.specs.declared.packet.Packet.{Packet}
use Rattle.leaf_queue.specs.declared.node.Entry.{Entry}
use Rattle.leaf_queue.specs.Pool.{packet_of}
use Rattle.link_clock.specs.Clock.{Clock}
use Rattle.discipline.specs.declared.laws.Discipline.{Ghosts}
use Rattle.discipline.specs.Laws.{AreDistinct, held_in, room_of}
use Rattle.discipline.specs.Moments.{IsChoice, StartsBy}
use Rattle.discipline.specs.View.{DisciplineView, SameKind, Unchanged}
use Rattle.play_core.specs.declared.state.Progress.{Progress}
use Rattle.play_core.specs.declared.totals.Totals.{Totals}
use Rattle.play_core.specs.declared.step.Step.{Step}
use Rattle.play_core.specs.declared.turn.Departure.{Departure}
use Rattle.play_core.specs.declared.turn.Turn.TheVariants as turn
use Rattle.play_core.specs.Going.{numbered, IsGoing}
use Rattle.play_core.specs.Steps.{IsStep}
use Rattle.play_core.specs.Totals.{one_sent, one_dropped, count_sent, count_dropped}
use Rattle.play_core.specs.Turns.{arrives}
use Rattle.play_core.proofs.Come.{HasCome, ComesNow, choice, clock_after, laws_of, moment_after}
use Rattle.play_core.proofs.HeldLemmas.{held_same}
use Rattle.play_core.proofs.PoolLemmas.{FrontHeld, front_held, first_counts, within_count, from_one}

-- what a discipline promises of its policy
pub record IsPromised (p : Policy) (rate : ℕ) : Type 0 where
  pub positive : 0 < rate
  pub lawful : IsLawful p
  pub steady : IsSteady p
  pub distinct : AreDistinct p.classes

-- what a play holds: what its discipline shows, the random words drawn, and how far it has come
pub record State : Type 1 where
  pub shown : DisciplineView
  pub words : DrawnWords
  pub progress : Progress

abbrev pub state : {S : Type 0} → Ghosts S → S → DrawnWords → Progress → State
state D d w x = record { shown = D.view d; words = w; progress = x }

abbrev pub Going : State → List Captured → List LabelledEvent → Type 0
Going s arrived g = IsGoing s.shown arrived s.words s.progress g

-- a view with what never changes as an earlier one has it
abbrev pub named_as : DisciplineView → DisciplineView → DisciplineView
named_as old new = record new { policy = old.policy; limits = old.limits; link_rate = old.link_rate }

abbrev pub GoingAs : State → State → List Captured → List LabelledEvent → Type 0
GoingAs s t arrived g = IsGoing (named_as s.shown t.shown) arrived t.words t.progress g

-- a play goes on, of a discipline that keeps its promises
pub record Goes (s : State) (arrived : List Captured) (g : List LabelledEvent) : Type 0 where
  pub promised : IsPromised s.shown.policy s.progress.clock.rate
  pub going : Going s arrived g

abbrev pub goes_by : {S : Type 0} (D : Ghosts S) (d : S) {arrived : List Captured} {w : DrawnWords} {x : Progress} {g : List LabelledEvent}
    → ((d : S) (h : List LabelledEvent) → (D.view d).represents h → IsLawful (D.view d).policy) → ((d : S) (h : List LabelledEvent) → (D.view d).represents h → IsSteady (D.view d).policy)
    → ((d : S) (h : List LabelledEvent) → (D.view d).represents h → AreDistinct (D.view d).policy.classes) → Going (state D d w x) arrived g → Goes (state D d w x) arrived g
goes_by D d {x = x} lawful steady distinct y = record {
  promised = record { positive = omega (arith, x.least); lawful = lawful d y.recorded y.represents; steady = steady d y.recorded y.represents; distinct = distinct d y.recorded y.represents };
  going = y;
}

-- what is told of a play that goes on
pub come_of : {s : State} {arrived : List Captured} {g : List LabelledEvent} → Goes s arrived g
    → HasCome s.shown.policy s.progress.clock.rate s.words.seed (bare_arrivals arrived) g
come_of u = record { positive = u.promised.positive; lawful = u.promised.lawful; steady = u.promised.steady; rising = u.going.rising; begun = u.going.begun }

-- what the code knows of the history is so of the play's
now_is : (s : State) (arrived : List Captured) (g : List LabelledEvent) (t : ℕ) → (y : Going s arrived g) → t ≡ max s.progress.clock.link.free s.progress.latest
    → ◌≡◌ {A = Clock × ℕ × List Event} (s.progress.clock, t, unlabelled y.recorded)
    (clock_after s.progress.clock.rate (unlabelled g), moment_after s.progress.clock.rate (unlabelled g), unlabelled g)
now_is s arrived g t y e =
    let clock : s.progress.clock ≡ clock_after s.progress.clock.rate (unlabelled g) =
    ap (λ (l : Link). let c : Clock = record { rate = s.progress.clock.rate; link = l } in c) y.link_is in
    let moment : t ≡ moment_after s.progress.clock.rate (unlabelled g) = omega (arith, e, y.latest_is, ap (λ (l : Link). l.free) y.link_is) in
    cc (clock, moment, y.same)

pub ready : (s : State) (arrived : List Captured) (g : List LabelledEvent) (t : ℕ) → (u : Goes s arrived g) → t ≡ max s.progress.clock.link.free s.progress.latest
    → IsChoice t s.progress.clock (unlabelled u.going.recorded)
ready s arrived g t u e =
    let C : Clock × ℕ × List Event → Type 0 = λ q. IsChoice q.1 q.0 q.2 in
    subst C (sym (now_is s arrived g t u.going e)) (choice _ _ _ _ _ (come_of u))

-- what comes next by the discipline comes next in the play
pub step_on : {s : State} {arrived : List Captured} {g : List LabelledEvent} {t : ℕ} {next : Option ℕ} (step : Step) → (u : Goes s arrived g)
    → ((h : List LabelledEvent) → s.shown.represents h → IsChoice t s.progress.clock (unlabelled h) → IsStep s.shown.policy s.progress.clock t (unlabelled h) next step)
    → t ≡ max s.progress.clock.link.free s.progress.latest → next ≡ arrives arrived g → ComesNow s.shown.policy s.progress.clock.rate (bare_arrivals arrived) g step
step_on {s = s} {arrived = arrived} {g = g} {t = t} {next = next} step u f e a =
    let S : Clock × ℕ × List Event → Type 0 = λ q. IsStep s.shown.policy q.0 q.1 q.2 next step in
    let A : Option ℕ → Type 0 = λ o. IsStep s.shown.policy (clock_after s.progress.clock.rate (unlabelled g)) (moment_after s.progress.clock.rate (unlabelled g)) (unlabelled g) o step in
    subst A a (subst S (now_is s arrived g t u.going e) (f u.going.recorded u.going.represents (ready s arrived g t u e)))

pub moment_by : {s : State} {arrived : List Captured} {g : List LabelledEvent} {moment : ℕ} → (u : Goes s arrived g)
    → ((t : ℕ) → latest (unlabelled u.going.recorded) ≤ t → StartsBy t (unlabelled u.going.recorded) → moment ≤ t) → moment ≤ max s.progress.clock.link.free s.progress.latest
moment_by {s = s} {arrived = arrived} {g = g} u f = let c = ready s arrived g (max s.progress.clock.link.free s.progress.latest) u refl in f _ c.arrived c.started

-- under other names of the same policy, limits and rate
named : (old new : DisciplineView) (P : DisciplineView → Type 0) → SameKind old new → P (named_as old new) → P new
named old new P k y =
    let Q : Policy × (ℕ → ℕ) × Option ℕ → Type 0 = λ q. P (record new { policy = q.0; limits = q.1; link_rate = q.2 }) in
    subst Q (cc (k.policy, k.limits, k.link_rate)) y

pub renamed : (s t : State) {arrived : List Captured} {g : List LabelledEvent} → SameKind s.shown t.shown → GoingAs s t arrived g → Going t arrived g
renamed s t {arrived = arrived} {g = g} k y = named s.shown t.shown (λ d. IsGoing d arrived t.words t.progress g) k y

-- a discipline that was asked represents the same
abbrev pub still_going : {s : State} (d : DisciplineView) {arrived : List Captured} {g : List LabelledEvent} → Unchanged s.shown d → Goes s arrived g
    → Goes (record s { shown = named_as s.shown d }) arrived g
still_going {s = s} d k u =
    let y = u.going in
    record {
      promised = u.promised;
      going = record {
        begun = y.begun;
        rising = y.rising;
        few = y.few;
        words = y.words;
        one_each = y.one_each;
        link_is = y.link_is;
        latest_is = y.latest_is;
        totals = y.totals;
        rate_is = y.rate_is;
        recorded = y.recorded;
        represents = k.represents y.recorded y.represents;
        same = y.same;
        holds = y.holds;
        count = y.count ∙ sym (held_same s.shown.lists d.lists s.shown.policy.classes k.lists);
        within = omega (arith, y.within, held_same s.shown.lists d.lists s.shown.policy.classes k.lists);
        room = y.room;
      };
    }

-- and goes on as it was
pub asked_on : {s : State} {arrived : List Captured} {g : List LabelledEvent} (d : DisciplineView) → Goes s arrived g → Unchanged s.shown d
    → IsGoing d arrived s.words s.progress g
asked_on {s = s} {arrived = arrived} {g = g} d u k =
    named s.shown d (λ x. IsGoing x arrived s.words s.progress g) k.kind (still_going d k u).going

pub within_old : (s t : State) → SameKind s.shown t.shown → held_in t.shown.lists t.shown.policy.classes ≤ room_of t.shown.limits t.shown.policy.classes
    → held_in t.shown.lists s.shown.policy.classes ≤ room_of s.shown.limits s.shown.policy.classes
within_old s t k l =
    let e : ◌≡◌ {A = Policy × (ℕ → ℕ)} (t.shown.policy, t.shown.limits) (s.shown.policy, s.shown.limits) = cc (k.policy, k.limits) in
    let P : Policy × (ℕ → ℕ) → Type 0 = λ q. held_in t.shown.lists q.0.classes ≤ room_of q.1 q.0.classes in
    subst P e l

-- the number of the ticket at the front of a class
pub front_of : {s : State} {arrived : List Captured} {g : List LabelledEvent} {ticket : ℕ} (class : ℕ) → (y : Going s arrived g) → slice_get (labels class y.recorded) 0 ≡ Some ticket
    → FrontHeld arrived g s.progress.pool (labels class g) ticket
front_of class y e = front_held _ _ _ (labels class y.recorded) _ _ (y.holds class) e

pub front_there : {s : State} {arrived : List Captured} {g : List LabelledEvent} {ticket : ℕ} (class : ℕ) → (y : Going s arrived g) → slice_get (labels class y.recorded) 0 ≡ Some ticket
    → IsSome (packet_of s.progress.pool ticket)
front_there class y e = ap (λ (o : Option Packet). is_some o) (front_of class y e).holds.packet

pub same_packet : (a b : Packet) → Some a ≡ Some b → a ≡ b
same_packet a b h = cc

-- the number of what is sent was offered
pub number_within : {s : State} {arrived : List Captured} {g : List LabelledEvent} {ticket : ℕ} {packet : Packet} (class : ℕ) → (u : Goes s arrived g)
    → slice_get (labels class u.going.recorded) 0 ≡ Some ticket → packet_of s.progress.pool ticket ≡ Some packet
    → (1 ≤ packet.number) × (packet.number ≤ s.progress.totals.arrived)
number_within {arrived = arrived} {g = g} {packet = packet} class u e q =
    let f = front_of class u.going e in
    let n = ap (λ (b : Packet). b.number) (same_packet packet (numbered f.number (arrival arrived f.number)) (sym q ∙ f.holds.packet)) in
    let o = first_counts f.number (labels class g) f.first in
    let l = (laws_of (come_of u)).waits_once f.number class in (
      omega (arith, n, from_one f.number (offered (unlabelled g)) (omega (arith, o, l))),
      omega (arith, n, u.going.totals.arrived, within_count f.number (offered (unlabelled g)) (omega (arith, o, l))),
    )

same_turn : (d e : Departure) → turn.Send d ≡ turn.Send e → d ≡ e
same_turn d e h = cc

pub turn_number : (d e : Departure) (most : ℕ) → turn.Send d ≡ turn.Send e → (1 ≤ d.packet.number) × (d.packet.number ≤ most) → (1 ≤ e.packet.number) × (e.packet.number ≤ most)
turn_number d e most h l = let P : Departure → Type 0 = λ k. (1 ≤ k.packet.number) × (k.packet.number ≤ most) in subst P (same_turn d e h) l

-- counts within the offers
one_each_sent : (f : Fate) → one_sent f ≤ 1
one_each_sent (TheVariants.Dropped r) = omega arith
one_each_sent (TheVariants.Sent start end rule) = omega arith

one_each_dropped : (f : Fate) → one_dropped f ≤ 1
one_each_dropped (TheVariants.Dropped r) = omega arith
one_each_dropped (TheVariants.Sent start end rule) = omega arith

count_of_sent : (js : List Decision) → count_sent js ≤ length js
count_of_sent [] = omega arith
count_of_sent (d ∷ js) = let l = one_each_sent d.1 in omega (arith, l, count_of_sent js)

count_of_dropped : (js : List Decision) → count_dropped js ≤ length js
count_of_dropped [] = omega arith
count_of_dropped (d ∷ js) = let l = one_each_dropped d.1 in omega (arith, l, count_of_dropped js)

-- no count is above the number of records
pub record AreFew (t : Totals) : Type 0 where
  pub arrived : t.arrived ≤ 4000000
  pub sent : t.sent ≤ 4000000
  pub dropped : t.dropped ≤ 4000000

pub few_counts : {s : State} {arrived : List Captured} {g : List LabelledEvent} → Goes s arrived g → AreFew s.progress.totals
few_counts {arrived = arrived} {g = g} u =
    let laws = laws_of (come_of u) in
    let l = bare_arrivals_length arrived in
    let t = u.going.totals in
    record {
      arrived = omega (arith, t.arrived, laws.came, l, u.going.few);
      sent = omega (arith, t.sent, count_of_sent (journal g), laws.few, laws.came, l, u.going.few);
      dropped = omega (arith, t.dropped, count_of_dropped (journal g), laws.few, laws.came, l, u.going.few);
    }
