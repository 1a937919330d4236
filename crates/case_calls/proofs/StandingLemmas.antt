-- What a discipline and its clock stand for, later on and after one more event.
use Rattle.std.proofs.Common.{◌≡◌, ◌≤◌, ◌<◌, ◌+◌, ◌-◌, ◌^◌, ◌∙◌, ◌∷◌, ℕ, List, [], ap, sym, arith}
use Rattle.altq_model.specs.declared.Verdict.{Verdict}
use Rattle.altq_model.specs.History.{Arrival, DrawnWords, Event, LabelledEvent, Offered, Sent, unlabelled}
use Rattle.altq_model.specs.Lawful.{latest}
use Rattle.altq_model.specs.Link.{Link, after_sending, link}
use Rattle.altq_model.specs.Play.{Policy}
use Rattle.discipline.specs.declared.pick.Sending.{Sending}
use Rattle.discipline.specs.Laws.{IsAnswer, offer_of, sent_of}
use Rattle.discipline.specs.Moments.{IsChoice, IsOffer, IsSized, StartsBefore, StartsBy}
use Rattle.link_clock.specs.Clock.{Clock}
use Rattle.play_base.specs.declared.packet.Ticket.{Ticket}
use Rattle.case_calls.specs.Standing.{IsAt}

starts_later : (t u : ℕ) → t ≤ u → (h : List Event) → StartsBy t h → StartsBy u h
starts_later t u l [] s = tt
starts_later t u l (Offered a w v ∷ h) s = starts_later t u l h s
starts_later t u l (Sent x ∷ h) s = let first = s.0 in (omega (arith, l, first), starts_later t u l h s.1)

before_later : (t u : ℕ) → t ≤ u → (h : List Event) → StartsBefore t h → StartsBefore u h
before_later t u l [] s = tt
before_later t u l (Offered a w v ∷ h) s = before_later t u l h s
before_later t u l (Sent x ∷ h) s = let first = s.0 in (omega (arith, l, first), before_later t u l h s.1)

-- later on
pub at_later : (stood : List LabelledEvent → Type 0) (clock : Clock) (most by before t u : ℕ) → by ≤ t → before ≤ u
    → IsAt stood clock most by before → IsAt stood clock most t u
at_later stood clock most by before t u l m x =
    let arrived = x.arrived in
    record {
      told = x.told;
      stands = x.stands;
      link_is = x.link_is;
      few = x.few;
      arrived = omega (arith, arrived, l);
      started = starts_later by t l (unlabelled x.told) x.started;
      earlier = before_later before u m (unlabelled x.told) x.earlier;
    }

-- after a question
pub at_asked : (stood still : List LabelledEvent → Type 0) (clock : Clock) (most by before : ℕ) → ((h : List LabelledEvent) → stood h → still h)
    → IsAt stood clock most by before → IsAt still clock most by before
at_asked stood still clock most by before k x = record {
  told = x.told;
  stands = k x.told x.stands;
  link_is = x.link_is;
  few = x.few;
  arrived = x.arrived;
  started = x.started;
  earlier = x.earlier;
}

-- the moment that a discipline stores has come
pub moment_come : (stood : List LabelledEvent → Type 0) (clock : Clock) (most by before moment t : ℕ)
    → ((h : List LabelledEvent) → stood h → (t : ℕ) → latest (unlabelled h) ≤ t → StartsBy t (unlabelled h) → moment ≤ t)
    → by ≤ t → IsAt stood clock most by before → moment ≤ t
moment_come stood clock most by before moment t k l x =
    let y = at_later stood clock most by before t before l (omega arith) x in
    k y.told y.stands t y.arrived y.started

link_sent : (old new : Clock) (h : List Event) (start len : ℕ) → link old.rate h ≡ old.link → new.rate ≡ old.rate
    → new.link ≡ after_sending old.rate old.link start len → after_sending new.rate (link new.rate h) start len ≡ new.link
link_sent old new h start len e r l =
    ap (λ k. after_sending k (link k h) start len) r ∙ ap (λ (k : Link). after_sending old.rate k start len) e ∙ sym l

-- after a sending
pub at_sent : (stood still : List LabelledEvent → Type 0) (old new : Clock) (most by before : ℕ) (s : Sending) → by ≤ s.start → s.start < before
    → new.rate ≡ old.rate → new.link ≡ after_sending old.rate old.link s.start s.len
    → ((h : List LabelledEvent) → stood h → IsChoice s.start old (unlabelled h) → still (sent_of s ∷ h))
    → IsAt stood old most by before → IsAt still new most s.start before
at_sent stood still old new most by before s l m r e k x =
    let y = at_later stood old most by before s.start before l (omega arith) x in
    record {
      told = sent_of s ∷ y.told;
      stands = k y.told y.stands (record { arrived = y.arrived; started = y.started; link = y.link_is });
      link_is = link_sent old new (unlabelled y.told) s.start s.len y.link_is r e;
      few = y.few;
      arrived = y.arrived;
      started = (omega arith, y.started);
      earlier = (m, y.earlier);
    }

-- after an offer
pub at_offered : (stood still : List LabelledEvent → Type 0) (clock : Clock) (most : ℕ) (p : Policy) (ticket : Ticket) (w u : DrawnWords) (a : Arrival) (v : Verdict)
    → IsSized a.len → w.drawn < 2 ^ 64 - 1
    → ((h : List LabelledEvent) → stood h → IsOffer a (unlabelled h) → w.drawn < 2 ^ 64 - 1 → IsAnswer p (unlabelled h) w a v u × still (offer_of p h ticket w a ∷ h))
    → IsAt stood clock most a.at a.at → IsAt still clock (most + 1) a.at a.at × (u.drawn ≤ w.drawn + 1)
at_offered stood still clock most p ticket w u a v z d k x =
    let y = k x.told x.stands (record { sized = z; arrived = x.arrived; started = x.earlier }) d in
    let few = x.few in
    let arrived = x.arrived in
    let drew = y.0.words.drawn in
    let one = y.0.words.one in (
      record {
        told = offer_of p x.told ticket w a ∷ x.told;
        stands = y.1;
        link_is = x.link_is;
        few = omega (arith, few);
        arrived = omega (arith, arrived);
        started = x.started;
        earlier = x.earlier;
      },
      omega (arith, drew, one),
    )
