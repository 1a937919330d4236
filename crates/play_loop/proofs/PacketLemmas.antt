-- A packet that was read and is the next to be offered.
use Rattle.std.proofs.Common.{◌≡◌, ◌≤◌, ◌∙◌, ◌+◌, ℕ, List, ◌∷◌, Some, ap, sym, arith}
use Rattle.std.specs.Prelude.{slice_get, option_map}
use Rattle.std.specs.declared.option.Option.{Option}
use Rattle.altq_model.specs.declared.Placed.{Placed}
use Rattle.altq_model.specs.Arrivals.{Captured, bare_arrival, bare_arrivals}
use Rattle.altq_model.specs.History.{Arrival, DrawnWords, LabelledEvent, unlabelled, offered}
use Rattle.altq_model.specs.Lawful.{IsOneOf, latest}
use Rattle.altq_model.specs.Play.{AreDue}
use Rattle.play_laws.proofs.ArrivalLemmas.{bare_arrivals_length}
use Rattle.play_laws.proofs.TimeLemmas.{next_later}
use Rattle.play_core.specs.Finished.{EndsWithOffer}
use Rattle.play_core.specs.Going.{numbered}
use Rattle.play_core.specs.Turns.{IsNext, Offers, arrives}
use Rattle.play_core.proofs.OfferLemmas.{is_bare_arrival}
use Rattle.play_loop.specs.declared.arriving.Arriving.{Arriving}
use Rattle.play_loop.specs.Reading.{arrival_of}
use Rattle.play_loop.specs.Setup.{Setup}
use Rattle.play_loop.specs.Underway.{AreMade, IsNextArrival, IsUnderway, Moment, StayDue}
use Rattle.play_loop.proofs.TurnLemmas.{begun_of, from_setup, offered_stays, on, open_stays}

module _ {place : List ℕ → Placed} {arrived : List Captured} {g : List LabelledEvent} {p : Arriving} (h : IsNextArrival place arrived g p) where
  pub held_arrives : Some p.packet.at ≡ arrives arrived g
  held_arrives = sym (ap (λ (o : Option Arrival). option_map (λ (a : Arrival). a.at) o) (is_bare_arrival arrived g (arrival_of place p) h.there).seen)

  -- it stays the next while others are sent
  pub held_same : {k : List LabelledEvent} → offered (unlabelled k) ≡ offered (unlabelled g) → IsNextArrival place arrived k p
  held_same e = record {
    there = ap (λ (n : ℕ). slice_get arrived n) e ∙ h.there;
    packet_is = h.packet_is ∙ ap (λ (n : ℕ). numbered (n + 1) (arrival_of place p)) (sym e);
    placed_is = h.placed_is;
  }

module _ {x : Setup} {m : Moment} {arrived : List Captured} {w : DrawnWords} {g : List LabelledEvent} {p : Arriving} (u : IsUnderway x m arrived w g) where
  -- it may be offered: it is placed in a class of the policy
  pub held_class : {k : List LabelledEvent} → IsNextArrival x.place arrived k p → IsOneOf p.placed.class m.shown.policy.classes
  held_class h = rw (u.setup.policy, h.placed_is) (u.setup.sound.held p.packet.bytes.now)

  -- its offer is due once every sending before it was made
  pub offers_it : {arrival : Option ℕ} → IsNextArrival x.place arrived g p → AreMade x arrived g arrival
      → Offers m.shown.policy m.progress.clock.rate w.seed arrived g (arrival_of x.place p) p.packet p.placed
  offers_it h made = record {
    next = from_setup u.setup (λ q rate seed. IsNext q rate seed arrived g (arrival_of x.place p)) (made.next (arrival_of x.place p) h.there);
    packet_is = h.packet_is;
    placed_is = h.placed_is;
  }

  -- nothing that was offered arrived later
  pub not_earlier : IsNextArrival x.place arrived g p → latest (unlabelled g) ≤ p.packet.at
  not_earlier h =
      next_later x.policy x.rate x.seed (bare_arrivals arrived) g u.setup.sound.positive u.setup.sound.lawful u.going.rising (begun_of (on u)).events
      (bare_arrival (arrival_of x.place p)) (is_bare_arrival arrived g (arrival_of x.place p) h.there).seen

-- what was decided before and with its offer stays so, whatever arrives later
module _ (x : Setup) {arrived : List Captured} {g : List LabelledEvent} {p : Arriving} (h : IsNextArrival x.place arrived g p) where
  pub before_stays : (k : List LabelledEvent) → offered (unlabelled k) ≡ offered (unlabelled g) → AreDue x.policy x.rate x.seed (bare_arrivals arrived) k → StayDue x arrived k
  before_stays k e d =
      open_stays x arrived k (offered (unlabelled g)) (omega (arith, (is_bare_arrival arrived g (arrival_of x.place p) h.there).inside, bare_arrivals_length arrived)) (omega (arith, e)) d

  pub with_stays : (e : LabelledEvent) → offered (unlabelled (e ∷ g)) ≡ offered (unlabelled g) + 1 → EndsWithOffer (e ∷ g) → AreDue x.policy x.rate x.seed (bare_arrivals arrived) (e ∷ g)
      → StayDue x arrived (e ∷ g)
  with_stays e more o d =
      offered_stays x arrived (e ∷ g) (omega (arith, more, (is_bare_arrival arrived g (arrival_of x.place p) h.there).inside, bare_arrivals_length arrived)) o d
