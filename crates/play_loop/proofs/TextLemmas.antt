-- What a sending and an offer add to the texts of a play, and to what is told of it.
use Rattle.std.proofs.Common.{◌≡◌, ◌++◌, ◌∙◌, ◌+◌, ◌-◌, ℕ, zero, suc, List, [], ◌∷◌, Some, refl, ap, sym}
use Rattle.std.proofs.lemmas.List.{append-nil, map-append}
use Rattle.std.specs.Prelude.{slice_get, unwrap_or}
use Rattle.std.specs.Option.{option_map_or}
use Rattle.altq_model.specs.declared.Placed.{Placed}
use Rattle.altq_model.specs.declared.Fate.{Fate}
use Rattle.altq_model.specs.declared.Fate.TheVariants as fate
use Rattle.altq_model.specs.declared.Verdict.{Verdict}
use Rattle.altq_model.specs.declared.Verdict.TheVariants.{Keep, Mark, Drop}
use Rattle.altq_model.specs.Arrivals.{Captured, arrival, bare_arrival, bare_arrivals, no_arrival}
use Rattle.altq_model.specs.Departures.{Dressing, departure, departed, departures}
use Rattle.altq_model.specs.History.{Arrival, Decision, Event, Offered, Sent, LabelledEvent, unlabelled, offered, drawn, was_marked, decided, dropped_by, journal}
use Rattle.altq_model.specs.Lawful.{AreHeld, IsOneOf}
use Rattle.altq_model.specs.Play.{Policy, offer_of}
use Rattle.capture_model.specs.Capture.{Record}
use Rattle.capture_model.specs.Written.{record_text, written}
use Rattle.play_base.specs.declared.packet.Packet.{Packet}
use Rattle.play_text.specs.Texts.{Naming, fate_text, fate_row, fate_rows, fates}
use Rattle.play_text.proofs.TextLemmas.{fates-append}
use Rattle.play_laws.specs.Events.{AreOfArrivals, IsOfArrival}
use Rattle.play_laws.proofs.ArrivalLemmas.{bare_arrival_of_number}
use Rattle.play_laws.proofs.DepartureLemmas.{arrival_stays, written-append}
use Rattle.play_core.specs.declared.turn.Departure.{Departure}
use Rattle.play_core.specs.declared.turn.Dropped.{Dropped}
use Rattle.play_core.specs.Going.{numbered}
use Rattle.play_core.specs.Turns.{departs, packet_of_lent, drop_of}
use Rattle.play_core.specs.declared.turn.LentPacket.{LentPacket}
use Rattle.class_counts.specs.Fit.{IsFit, AreFit}
use Rattle.play_loop.specs.declared.kept.KeptFate.{KeptFate}
use Rattle.play_loop.specs.KeptFates.{dropped_fate, kept_fate, kept_fates, sent_fate}
use Rattle.play_loop.specs.Outputs.{record_of, sent_row, dropped_row}

fit_in : (place : List ℕ → Placed) (xs : List Captured) (k : ℕ) (b : Arrival) → AreFit place xs → slice_get (bare_arrivals xs) k ≡ Some b
    → IsFit place (unwrap_or (slice_get xs k) no_arrival)
fit_in place [] k b f e = absurd (cc)
fit_in place (x ∷ xs) zero b f e = f.0
fit_in place (x ∷ xs) (suc k) b f e = fit_in place xs k b f.1 e

-- arrivals that are placed by a policy are of its classes
pub fit_held : (p : Policy) (place : List ℕ → Placed) (xs : List Captured) → ((frame : List ℕ) → IsOneOf (place frame).class p.classes) → AreFit place xs → AreHeld p (bare_arrivals xs)
fit_held p place [] h f = tt
fit_held p place (x ∷ xs) h f = (rw f.0.class (h x.bytes), fit_held p place xs h f.1)

-- what leaves is the arrival of its number, in its class
pub record Leaves (place : List ℕ → Placed) (arrived : List Captured) (d : Departure) : Type 0 where
  pub class : d.class ≡ (arrival arrived d.packet.number).class
  pub fit : IsFit place (arrival arrived d.packet.number)
  pub at : d.packet.at ≡ (arrival arrived d.packet.number).at
  pub len : d.packet.len ≡ (arrival arrived d.packet.number).len
  pub bytes : d.packet.bytes ≡ (arrival arrived d.packet.number).bytes

pub leaves : (place : List ℕ → Placed) (arrived : List Captured) (g : List LabelledEvent) (d : Departure) → AreFit place arrived
    → d.packet ≡ numbered d.packet.number (arrival arrived d.packet.number) → AreOfArrivals (bare_arrivals arrived) (departs d ∷ g) → Leaves place arrived d
leaves place arrived g d f e o =
    let s = o.0 in
    record {
      class = s.class ∙ sym (ap (λ (a : Arrival). a.class) (bare_arrival_of_number arrived d.packet.number s.packet s.arrival));
      fit = fit_in place arrived (d.packet.number - 1) s.packet f s.arrival;
      at = ap (λ (k : Packet). k.at) e;
      len = ap (λ (k : Packet). k.len) e;
      bytes = ap (λ (k : Packet). k.bytes) e;
    }

abbrev fate_at : (number at : ℕ) → Fate → KeptFate
fate_at number at f = record { number = number; arrival = at; fate = f }

module _ {place : List ℕ → Placed} {arrived : List Captured} {d : Departure} (g : List LabelledEvent) (x : Leaves place arrived d) where
  record_is : (dress : Dressing) → d.marked ≡ was_marked d.packet.number g
      → departure dress (arrival arrived d.packet.number) (was_marked d.packet.number g) d.end ≡ record_of dress d
  record_is dress m = rw (m, x.class, x.bytes, x.len) refl

  pub departures_sent : (dress : Dressing) → d.marked ≡ was_marked d.packet.number g
      → departures dress arrived g ++ record_text (record_of dress d) ≡ departures dress arrived (departs d ∷ g)
  departures_sent dress m =
      let r : Record = departure dress (arrival arrived d.packet.number) (was_marked d.packet.number g) d.end in
      ap (λ (t : List ℕ). departures dress arrived g ++ t) (sym (append-nil (record_text r) ∙ ap (λ (k : Record). record_text k) (record_is dress m)))
      ∙ sym (written-append (departed dress arrived g) (r ∷ []))

  row_is : (names : Naming) (f : Fate) → fate_row names arrived (d.packet.number, f) ≡ fate_text d.packet.number d.packet.at d.packet.len (names d.class) f
  row_is names f = rw (x.at, x.len, x.class) refl

  pub fates_sent : (names : Naming) → fates names arrived (journal g) ++ sent_row names d ≡ fates names arrived (journal (departs d ∷ g))
  fates_sent names =
      let f : Fate = fate.Sent d.start d.end d.rule in
      ap (λ (t : List ℕ). fates names arrived (journal g) ++ t) (sym (append-nil (fate_row names arrived (d.packet.number, f)) ∙ row_is names f))
      ∙ sym (fates-append names arrived (journal g) ((d.packet.number, f) ∷ []))

  pub told_sent : kept_fates arrived (journal g) ++ sent_fate d ∷ [] ≡ kept_fates arrived (journal (departs d ∷ g))
  told_sent =
      let f : Fate = fate.Sent d.start d.end d.rule in
      ap (λ (k : ℕ). kept_fates arrived (journal g) ++ fate_at d.packet.number k f ∷ []) x.at
      ∙ sym (map-append (kept_fate arrived) (journal g) ((d.packet.number, f) ∷ []))

-- an offer adds no record, and where it drops a row and what is told
pub departures_offered : (dress : Dressing) (p : Policy) (seed : ℕ) (arrived : List Captured) (g : List LabelledEvent) (a : Arrival)
    → departures dress arrived g ≡ departures dress arrived (offer_of p seed g a ∷ g)
departures_offered dress p seed arrived g a = ap (λ (rs : List Record). written rs) (sym (append-nil (departed dress arrived g)))

rows_offered : (names : Naming) (arrived : List Captured) (n class : ℕ) (a : Captured) (packet : LentPacket) (v : Verdict) → arrival arrived n ≡ a → packet_of_lent packet ≡ numbered n a → class ≡ a.class
    → option_map_or (dropped_row names class) (drop_of v packet) [] ≡ fate_rows names arrived (dropped_by v n)
rows_offered names arrived n class a packet Keep e f h = refl
rows_offered names arrived n class a packet Mark e f h = refl
rows_offered names arrived n class a packet (Drop r) e f h =
    let number : packet.number ≡ n = ap (λ (k : Packet). k.number) f in
    let at : packet.at ≡ a.at = ap (λ (k : Packet). k.at) f in
    let len : packet.len ≡ a.len = ap (λ (k : Packet). k.len) f in
    rw (number, at, len, h, ← e) (sym (append-nil (fate_row names arrived (n, fate.Dropped r))))

drop_told : (arrived : List Captured) (n : ℕ) (a : Captured) (packet : LentPacket) (v : Verdict) → arrival arrived n ≡ a → packet_of_lent packet ≡ numbered n a
    → option_map_or (λ (d : Dropped). dropped_fate d ∷ []) (drop_of v packet) [] ≡ kept_fates arrived (dropped_by v n)
drop_told arrived n a packet Keep e f = refl
drop_told arrived n a packet Mark e f = refl
drop_told arrived n a packet (Drop r) e f =
    let number : packet.number ≡ n = ap (λ (k : Packet). k.number) f in
    let at : packet.at ≡ a.at = ap (λ (k : Packet). k.at) f in
    rw (number, at, ← e) refl

abbrev verdict_of : Policy → (seed : ℕ) → List LabelledEvent → Captured → Verdict
verdict_of p seed g a = (p.answer (unlabelled g) (record { seed = seed; drawn = drawn (unlabelled g) }) (bare_arrival a)).verdict

module _ (p : Policy) (seed : ℕ) (arrived : List Captured) (g : List LabelledEvent) (a : Captured) (packet : LentPacket)
    (e : arrival arrived (offered (unlabelled g) + 1) ≡ a) (f : packet_of_lent packet ≡ numbered (offered (unlabelled g) + 1) a) where
  pub fates_offered : (names : Naming) (class : ℕ) → class ≡ a.class
      → fates names arrived (journal g) ++ option_map_or (dropped_row names class) (drop_of (verdict_of p seed g a) packet) [] ≡ fates names arrived (journal (offer_of p seed g (bare_arrival a) ∷ g))
  fates_offered names class h =
      ap (λ (t : List ℕ). fates names arrived (journal g) ++ t) (rows_offered names arrived (offered (unlabelled g) + 1) class a packet (verdict_of p seed g a) e f h)
      ∙ sym (fates-append names arrived (journal g) (dropped_by (verdict_of p seed g a) (offered (unlabelled g) + 1)))

  pub told_offered : kept_fates arrived (journal g) ++ option_map_or (λ (d : Dropped). dropped_fate d ∷ []) (drop_of (verdict_of p seed g a) packet) []
      ≡ kept_fates arrived (journal (offer_of p seed g (bare_arrival a) ∷ g))
  told_offered =
      ap (λ (t : List KeptFate). kept_fates arrived (journal g) ++ t) (drop_told arrived (offered (unlabelled g) + 1) a packet (verdict_of p seed g a) e f)
      ∙ sym (map-append (kept_fate arrived) (journal g) (dropped_by (verdict_of p seed g a) (offered (unlabelled g) + 1)))

-- what was told of the first arrivals stays so whatever arrives later
one_stays : (xs ys : List Captured) (n : ℕ) (a : Arrival) (f : Fate) → slice_get (bare_arrivals xs) (n - 1) ≡ Some a → kept_fate (xs ++ ys) (n, f) ∷ [] ≡ kept_fate xs (n, f) ∷ []
one_stays xs ys n a f e = ap (λ (b : Captured). fate_at n b.at f ∷ []) (arrival_stays xs ys n a e)

drop_stays : (xs ys : List Captured) (n : ℕ) (a : Arrival) (v : Verdict) → slice_get (bare_arrivals xs) (n - 1) ≡ Some a
    → kept_fates (xs ++ ys) (dropped_by v n) ≡ kept_fates xs (dropped_by v n)
drop_stays xs ys n a Keep e = refl
drop_stays xs ys n a Mark e = refl
drop_stays xs ys n a (Drop r) e = one_stays xs ys n a (fate.Dropped r) e

event_stays : (xs ys : List Captured) (n : ℕ) (e : Event) → IsOfArrival (bare_arrivals xs) n e → kept_fates (xs ++ ys) (decided n e) ≡ kept_fates xs (decided n e)
event_stays xs ys n (Offered a w v) x = drop_stays xs ys n a v.verdict x.1
event_stays xs ys n (Sent s) x = one_stays xs ys n x.packet (fate.Sent s.start s.end s.rule) x.arrival

pub told_stays : (xs ys : List Captured) (g : List LabelledEvent) → AreOfArrivals (bare_arrivals xs) g → kept_fates (xs ++ ys) (journal g) ≡ kept_fates xs (journal g)
told_stays xs ys [] f = refl
told_stays xs ys (e ∷ g) f =
    let d : List Decision = decided e.label e.what in
    rw (map-append (kept_fate (xs ++ ys)) (journal g) d, told_stays xs ys g f.1, event_stays xs ys e.label e.what f.0) (sym (map-append (kept_fate xs) (journal g) d))
