-- The turns of a play whose texts are written.
use Rattle.std.proofs.Common.{◌≡◌, ◌≤◌, ◌<◌, ◌∙◌, ◌+◌, ℕ, List, [], ◌∷◌, length, None, Some, ◌⊎◌, inl, inr, refl, ap, sym, subst, arith}
use Rattle.std.specs.Prelude.{slice_get, option_map, IsSome}
use Rattle.std.specs.declared.option.Option.{Option}
use Rattle.altq_model.specs.Arrivals.{Captured, arrival, bare_arrival, bare_arrivals}
use Rattle.altq_model.specs.declared.Fate.TheVariants as fate
use Rattle.altq_model.specs.History.{Arrival, Event, Offered, Sent, DrawnWords, LabelledEvent, unlabelled, offered, journal, was_marked}
use Rattle.altq_model.specs.Play.{Policy, AreDue, due}
use Rattle.play_laws.specs.Events.{HasLaws}
use Rattle.play_laws.proofs.AllLaws.{due_laws}
use Rattle.play_laws.proofs.ArrivalLemmas.{bare_arrivals_length}
use Rattle.play_laws.proofs.DueLemmas.{not_both}
use Rattle.play_laws.proofs.EndLemmas.{is_over}
use Rattle.play_laws.proofs.OneLemmas.{later_arrivals}
use Rattle.play_core.specs.declared.totals.Totals.{Totals}
use Rattle.play_core.specs.declared.turn.Departure.{Departure}
use Rattle.play_core.specs.declared.turn.Turn.{Turn}
use Rattle.play_core.specs.declared.turn.Turn.TheVariants as turn
use Rattle.play_core.specs.Ended.{IsBegun}
use Rattle.play_core.specs.Finished.{WasOffered, EndsWithOffer}
use Rattle.play_core.specs.Turns.{ComesNext, Departs, arrives, departs, turned}
use Rattle.play_core.proofs.GoingLemmas.{IsPromised, few_counts}
use Rattle.play_core.proofs.OfferLemmas.{is_bare_arrival}
use Rattle.play_core.proofs.TotalLemmas.{sent_push}
use Rattle.play_text.specs.Names.{HasClass}
use Rattle.class_counts.specs.Counting.{AreCountable}
use Rattle.play_loop.specs.Outputs.{CanAdd}
use Rattle.play_loop.specs.Setup.{Setup}
use Rattle.play_loop.specs.Underway.{AreMade, AreWritten, Goes, IsPlayedAt, IsUnderway, Moment, StayDue}
use Rattle.class_counts.proofs.CountingLemmas.{counted_countable}
use Rattle.play_loop.proofs.TextLemmas.{Leaves, leaves}

module _ {x : Setup} {m : Moment} {seed : ℕ} (i : IsPlayedAt x m seed) where
  -- what holds under the policy, the rate and the seed of a moment holds under those of the setup, and back
  pub to_setup : (P : Policy → ℕ → ℕ → Type 0) → P m.shown.policy m.progress.clock.rate seed → P x.policy x.rate x.seed
  to_setup P h = rw (← i.policy, ← i.rate, ← i.seed_is) h

  pub from_setup : (P : Policy → ℕ → ℕ → Type 0) → P x.policy x.rate x.seed → P m.shown.policy m.progress.clock.rate seed
  from_setup P h = rw (i.policy, i.rate, i.seed_is) h

  pub promised : IsPromised m.shown.policy m.progress.clock.rate
  promised = from_setup (λ p rate s. IsPromised p rate) (record { positive = i.sound.positive; lawful = i.sound.lawful; steady = i.sound.steady; distinct = i.sound.distinct })

  -- the same setup is played once the discipline and the clock have moved on
  pub moved_on : {n : Moment} {later : ℕ} → n.shown.policy ≡ m.shown.policy → n.progress.clock.rate ≡ m.progress.clock.rate → later ≡ seed → IsPlayedAt x n later
  moved_on p r s = record { sound = i.sound; policy = p ∙ i.policy; rate = r ∙ i.rate; seed_is = s ∙ i.seed_is }

-- a play of this setup goes on
pub record IsOn (x : Setup) (m : Moment) (arrived : List Captured) (w : DrawnWords) (g : List LabelledEvent) : Type 0 where
  pub setup : IsPlayedAt x m w.seed
  pub going : Goes m arrived w g

module _ {x : Setup} {m : Moment} {arrived : List Captured} {w : DrawnWords} {g : List LabelledEvent} where
  pub on : IsUnderway x m arrived w g → IsOn x m arrived w g
  on u = record { setup = u.setup; going = u.going }

  pub begun_of : IsOn x m arrived w g → IsBegun x.policy x.rate x.seed (bare_arrivals arrived) g
  begun_of o = to_setup o.setup (λ p rate seed. IsBegun p rate seed (bare_arrivals arrived) g) o.going.begun

  -- its laws
  pub going_laws : IsOn x m arrived w g → HasLaws x.policy x.rate x.seed (bare_arrivals arrived) g
  going_laws o =
      due_laws x.policy x.rate x.seed (bare_arrivals arrived) g o.setup.sound.positive o.setup.sound.lawful o.going.rising (begun_of o).events

  -- its counts are small
  pub under_countable : IsUnderway x m arrived w g → AreCountable x.names m.outputs.counts.items
  under_countable u =
      let laws = going_laws (on u) in
      counted_countable x.place x.names arrived (journal g) m.outputs.counts.items u.written.counted u.written.fit u.going.few
      (omega (arith, laws.few, laws.came, bare_arrivals_length arrived, u.going.few))

  pub can_add : {class : ℕ} → IsUnderway x m arrived w g → HasClass x.names class → CanAdd x.names m.files m.outputs class
  can_add u named = record {
    named = named;
    countable = under_countable u;
    departures = u.written.given.departures.holds.there;
    fates = u.written.given.fates.holds.there;
  }

-- a sending that was made, before it is written: what leaves is an arrival
pub record IsSent (x : Setup) (n : Moment) (arrived : List Captured) (w : DrawnWords) (g : List LabelledEvent) (d : Departure) : Type 0 where
  pub on : IsOn x n arrived w (departs d ∷ g)
  pub leaves : Leaves x.place arrived d
  pub mark_is : d.marked ≡ was_marked d.packet.number g

-- a sending raises the count of those sent by one, to at most 4,000,000
pub record CountsUp (t u : Totals) : Type 0 where
  pub sent : u.sent ≡ t.sent + 1
  pub within : u.sent ≤ 4000000

module _ {x : Setup} {m n : Moment} {arrived : List Captured} {w : DrawnWords} {g : List LabelledEvent} {d : Departure} where
  pub is_sent : IsUnderway x m arrived w g → n.shown.policy ≡ m.shown.policy → n.progress.clock.rate ≡ m.progress.clock.rate
      → Departs m.shown.policy m.progress.clock.rate w.seed arrived g d → Goes n arrived w (departs d ∷ g) → IsSent x n arrived w g d
  is_sent u p r e y =
      let o : IsOn x n arrived w (departs d ∷ g) = record { setup = moved_on u.setup p r refl; going = y } in
      record { on = o; leaves = leaves x.place arrived g d u.written.fit e.packet_is (going_laws o).of_arrivals; mark_is = e.mark_is }

  pub counts_up : IsUnderway x m arrived w g → IsSent x n arrived w g d → CountsUp m.progress.totals n.progress.totals
  counts_up u s = record {
    sent = omega (arith, u.going.totals.sent, s.on.going.totals.sent, sent_push (journal g) (d.packet.number, fate.Sent d.start d.end d.rule));
    within = (few_counts (record { promised = promised s.on.setup; going = s.on.going })).sent;
  }

-- its class has a name, and its bytes fit
pub sent_class : {x : Setup} {n : Moment} {arrived : List Captured} {w : DrawnWords} {g : List LabelledEvent} {d : Departure} → IsSent x n arrived w g d → HasClass x.names d.class
sent_class {arrived = arrived} {d = d} s = rw (s.leaves.class ∙ s.leaves.fit.class) (s.on.setup.sound.named (arrival arrived d.packet.number).bytes)

pub sent_fits : {x : Setup} {n : Moment} {arrived : List Captured} {w : DrawnWords} {g : List LabelledEvent} {d : Departure} → IsSent x n arrived w g d
    → length d.packet.bytes ≤ d.packet.len
sent_fits s = omega (arith, s.leaves.fit.fits, s.leaves.len, ap (length {A = ℕ}) s.leaves.bytes)

no_arrival : (o : Option ℕ) → o ≡ None → IsSome o → ⊥
no_arrival None e s = cc
no_arrival (Some n) e s = cc

still_of : (g : List LabelledEvent) (t : Turn) → (t ≡ turn.Offer) ⊎ (t ≡ turn.End) → turned t g ≡ g
still_of g t (inl e) = ap (λ (k : Turn). turned k g) e
still_of g t (inr e) = ap (λ (k : Turn). turned k g) e

module _ {x : Setup} {m : Moment} {arrived : List Captured} {w : DrawnWords} {g : List LabelledEvent} (u : IsUnderway x m arrived w g) where
  -- nothing is due, so nothing is to come
  end_made : (arrival : Option ℕ) → due x.policy x.rate x.seed (bare_arrivals arrived) g ≡ None → AreMade x arrived g arrival
  end_made arrival d = record {
    all = λ _. d;
    next = λ a there. absurd (not_both (slice_get (bare_arrivals arrived) (offered (unlabelled g))) (bare_arrival a)
        (is_over x.policy x.rate x.seed (bare_arrivals arrived) g u.setup.sound.positive u.setup.sound.lawful u.going.rising (begun_of (on u)).events d).all_came
        (is_bare_arrival arrived g a there).seen);
  }

  -- a turn after which nothing was sent
  pub made_of : (arrival : Option ℕ) (t : Turn) → (t ≡ turn.Offer) ⊎ (t ≡ turn.End) → (t ≡ turn.Offer → IsSome arrival)
      → ComesNext m.shown.policy m.progress.clock.rate w.seed arrived g t → AreMade x arrived g arrival
  made_of arrival t (inl e) s n =
      let P : Turn → Type 0 = λ k. ComesNext x.policy x.rate x.seed arrived g k in
      record { all = λ q. absurd (no_arrival arrival q (s e)); next = subst P e (to_setup u.setup (λ p rate seed. ComesNext p rate seed arrived g t) n) }
  made_of arrival t (inr e) s n =
      let P : Turn → Type 0 = λ k. ComesNext x.policy x.rate x.seed arrived g k in
      end_made arrival (subst P e (to_setup u.setup (λ p rate seed. ComesNext p rate seed arrived g t) n))

  pub still_under : {n : Moment} (t : Turn) → n.shown.policy ≡ m.shown.policy → n.progress.clock.rate ≡ m.progress.clock.rate → (t ≡ turn.Offer) ⊎ (t ≡ turn.End)
      → Goes n arrived w (turned t g) → AreWritten x n.files n.outputs n.told arrived g → IsUnderway x n arrived w g
  still_under {n} t p r e y written =
      let P : List LabelledEvent → Type 0 = λ h. Goes n arrived w h in
      record { setup = moved_on u.setup p r refl; going = subst P (still_of g t e) y; written = written }

-- the next arrival stays so after sendings
pub arrives_same : (arrived : List Captured) (g k : List LabelledEvent) → offered (unlabelled k) ≡ offered (unlabelled g) → arrives arrived g ≡ arrives arrived k
arrives_same arrived g k e = ap (λ (n : ℕ). option_map (λ (a : Arrival). a.at) (slice_get (bare_arrivals arrived) n)) (sym e)

-- events before the offer of an arrival that is known stay due
one_less : (e : Event) (h : List Event) (n : ℕ) → offered (e ∷ h) ≤ n → offered h ≤ n
one_less (Offered a w v) h n l = omega (arith, l)
one_less (Sent s) h n l = l

pub open_stays : (x : Setup) (arrived : List Captured) (g : List LabelledEvent) (n : ℕ) → n < length (bare_arrivals arrived) → offered (unlabelled g) ≤ n
    → AreDue x.policy x.rate x.seed (bare_arrivals arrived) g → StayDue x arrived g
open_stays x arrived [] n l o d = λ more. tt
open_stays x arrived (e ∷ g) n l o d =
    λ more. later_arrivals x.policy x.rate x.seed (bare_arrivals arrived) more e g (omega (arith, l, one_less e.what (unlabelled g) n o)) d

one_before : (e : Event) (h : List Event) → WasOffered e → offered (e ∷ h) ≡ offered h + 1
one_before (Offered a w v) h o = refl
one_before (Sent s) h o = absurd o

pub offered_stays : (x : Setup) (arrived : List Captured) (g : List LabelledEvent) → offered (unlabelled g) ≤ length (bare_arrivals arrived) → EndsWithOffer g
    → AreDue x.policy x.rate x.seed (bare_arrivals arrived) g → StayDue x arrived g
offered_stays x arrived [] l o d = λ more. tt
offered_stays x arrived (e ∷ g) l o d =
    λ more. later_arrivals x.policy x.rate x.seed (bare_arrivals arrived) more e g (omega (arith, l, one_before e.what (unlabelled g) o)) d
